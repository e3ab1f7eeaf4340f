-- The report of an accepted sheet, which may be longer than a report may be.
use Rattle.std.proofs.Common.{◌≡◌, ◌≢◌, ℕ, ◌<◌, ◌≤◌, List, length, true, inl, inr, Result, Ok, Err, refl, sym, ap, subst, arith}
use Rattle.std.proofs.lemmas.Bool.{cases_lt, le-leb, lt-leb}
use Rattle.eds_base.specs.Answering.{StopsAs}
use Rattle.eds_base.specs.declared.fail.Fail.{Fail}
use Rattle.eds_base.specs.declared.fail.Fail.TheVariants as fails
use Rattle.eds_io.specs.Files.{Files}
use Rattle.eds_layout.specs.Laws.{LayoutsTell}
use Rattle.eds_layout.specs.Printed.{layouts_text}
use Rattle.eds_layout.specs.Reports.{IsReport, IsUpTo}
use Rattle.eds_sheet.specs.Compiled.{SeenSheet}
use Rattle.eds_sheet.specs.Firsts.{Firsts}
use Rattle.eds_types.specs.Rules.{KeepsRules}
use Rattle.eds_cmd.specs.declared.ended.Ended.{Ended}
use Rattle.eds_cmd.specs.declared.ended.Ended.TheVariants.{Stopped, Unread, Memory}
use Rattle.eds_cmd.specs.declared.status.Status.{Status}
use Rattle.eds_cmd.specs.declared.status.Status.TheVariants as statuses
use Rattle.eds_cmd.specs.declared.status.What.TheVariants as what
use Rattle.eds_cmd.specs.declared.stop.Cause.{Cause}
use Rattle.eds_cmd.specs.declared.stop.Cause.TheVariants as causes
use Rattle.eds_cmd.specs.declared.stop.Stop.{Stop}
use Rattle.eds_cmd.specs.Answer.{AnswersBy, AnswersFew, Does, DoesBy, DoesOn, IsPast, accepted, input_for, within_report}
use Rattle.eds_cmd.specs.Command.{CommandWords, JobWords, on_input}
use Rattle.eds_cmd.specs.Endings.{EndedAs, EndedSays, EndsAs, StopSays, UpToLimit, ended_of}
use Rattle.eds_cmd.specs.Layout.{LaysOut}
use Rattle.eds_cmd.specs.Limits.{report_octets}
use Rattle.eds_cmd.specs.Stops.{IsStop, limited, status_of}
use Rattle.eds_cmd.specs.Target.{TypeIn}

abbrev limit : Stop
limit = limited what.Report report_octets

-- the stop of a report that is too long is that of the limit
record IsLong (report : List ℕ) (stop : Stop) : Type 0 where
  past : report_octets < length report
  limit_is : limit ≡ stop

abbrev stop_is : Stop → Result (List ℕ) Stop
stop_is stop = Err stop

long : (report : List ℕ) (stop : Stop) → within_report report ≡ stop_is stop → IsLong report stop
long report stop h = elim (cases_lt report_octets (length report)) [
  | inl past ↦ record { past = past; limit_is = cc (rw (lt-leb (length report) report_octets past) at h) }
  | inr within ↦ absurd (cc (rw (le-leb (length report) report_octets within) at h))
]

-- the text is within the limit of reports
record IsShort (text report : List ℕ) : Type 0 where
  within : length text ≤ report_octets
  same : text ≡ report

abbrev is : List ℕ → Result (List ℕ) Stop
is report = Ok report

short : (text report : List ℕ) → within_report text ≡ is report → IsShort text report
short text report h = elim (cases_lt report_octets (length text)) [
  | inl past ↦ absurd (cc (rw (lt-leb (length text) report_octets past) at h))
  | inr within ↦ record { within = within; same = cc (rw (le-leb (length text) report_octets within) at h) }
]

-- a stop is another status than that of what is done
pub not_done : (cause : Cause) → status_of cause ≢ statuses.Done
not_done (causes.Sheet refusal) e = cc e
not_done (causes.Data fault) e = cc e
not_done (causes.Limit what most) e = cc e
not_done (causes.NoFile name) e = cc e

-- ---- what is done with the input

-- what comes to its report leaves nothing out
pub ends_whole : {X : Type 0} (view : X → List ℕ) (Says : Status → List ℕ → Type 0) (r : Result X (Fail Stop)) → EndsAs view Says r → EndsAs view (UpToLimit Says) r
ends_whole view Says (Ok report) h = inl h
ends_whole view Says (Err (fails.Named stop)) h = inl h
ends_whole view Says (Err fails.Memory) h = tt

-- what is done with an input that was read is what is done by the sheet
pub done_on_input : (job : JobWords) (files : Files) (sheet : SeenSheet) (input : List ℕ) (status : Status) (report : List ℕ) → input_for files job ≡ is input
    → UpToLimit (Does job.task sheet input) status report → UpToLimit (DoesBy (on_input job) files sheet) status report
done_on_input job files sheet input status report read does = go does
  where
    by : (o : List ℕ) (s : Status) → Does job.task sheet input s o → DoesBy (on_input job) files sheet s o
    by o s d = let On : Result (List ℕ) Stop → Type 0 = λ r. DoesOn job.task sheet r s o in subst On (sym read) d

    go : UpToLimit (Does job.task sheet input) status report → UpToLimit (DoesBy (on_input job) files sheet) status report
    go (inl d) = inl (by report status d)
    go (inr long) = inr (record { status_is = long.status_is; past = long.past; whole = long.whole; says = by long.whole statuses.Done long.says; whole_past = long.whole_past })

pub on_input_end : (job : JobWords) (files : Files) (sheet : SeenSheet) (input : List ℕ) (fail : Fail Stop) → input_for files job ≡ is input
    → StopSays (UpToLimit (Does job.task sheet input)) fail → EndedSays (UpToLimit (DoesBy (on_input job) files sheet)) (ended_of fail)
on_input_end job files sheet input (fails.Named stop) read h = done_on_input job files sheet input (status_of stop.cause) stop.report read h
on_input_end job files sheet input fails.Memory read h = tt

-- the input file may end the command
pub input_end : (job : JobWords) (files : Files) (sheet : SeenSheet) (ended : Ended) → EndedAs ended (input_for files job) → EndedSays (UpToLimit (DoesBy (on_input job) files sheet)) ended
input_end job files sheet (Stopped stop) read =
    let On : Result (List ℕ) Stop → Type 0 = λ r. DoesOn job.task sheet r (status_of stop.cause) stop.report in
    inl (subst On (sym read) (record { status_is = refl; report_is = refl }))
input_end job files sheet (Unread name) read = tt
input_end job files sheet Memory read = tt

-- ---- the layout of a type

-- the text of a layout, or one that stands for it, is what telling the layout comes to
pub layout_told : LayoutsTell → (type : TypeIn) → KeepsRules type.table → (report : List ℕ) → IsReport type.table type.id report_octets report → UpToLimit (LaysOut type) statuses.Done report
layout_told tell type rules report made = go made.2
  where
    text : List ℕ
    text = layouts_text type.table made.0

    told : (o : List ℕ) → o ≡ text → LaysOut type statuses.Done o
    told o is = record { layout = made.0; is = made.1; tells = tell type.table type.id rules made.0 made.1; status_is = refl; report_is = is }

    go : IsUpTo report_octets text report → UpToLimit (LaysOut type) statuses.Done report
    go (inl same) = inl (told report same)
    go (inr long) = inr (record { status_is = refl; past = long.1; whole = text; says = told text refl; whole_past = long.0 })

-- ---- the report and its limit

module _ (firsts : Firsts) (files : Files) (c : CommandWords) (sheet : SeenSheet) (judged : accepted firsts files c ≡ Ok sheet) where
  by_sheet : (status : Status) (report : List ℕ) → AnswersBy c.work files (Ok sheet) status report → AnswersFew firsts true c files status report
  by_sheet status report answer = let By : Result SeenSheet Stop → Type 0 = λ r. AnswersBy c.work files r status report in subst By (sym judged) answer

  -- a stop leaves nothing out
  pub report_end : (ended : Ended) → EndedSays (UpToLimit (DoesBy c.work files sheet)) ended → EndedSays (AnswersFew firsts true c files) ended
  report_end (Stopped stop) (inl does) = by_sheet (status_of stop.cause) stop.report (inl (record { does = does; within = λ e. absurd (not_done stop.cause e) }))
  report_end (Stopped stop) (inr long) = absurd (not_done stop.cause long.status_is)
  report_end (Unread name) h = tt
  report_end Memory h = tt

  -- and so does a report within its limit
  pub within_end : (text report : List ℕ) → UpToLimit (DoesBy c.work files sheet) statuses.Done text → within_report text ≡ is report → AnswersFew firsts true c files statuses.Done report
  within_end text report (inl does) ends =
      let short = short text report ends in
      let Does : List ℕ → Type 0 = λ o. DoesBy c.work files sheet statuses.Done o in
      by_sheet statuses.Done report (inl (record { does = subst Does short.same does; within = λ e. omega (arith, short.within, ap length short.same) }))
  within_end text report (inr long) ends = let short = short text report ends in absurd (omega (arith, short.within, long.past))

  past_report : (text : List ℕ) (stop : Stop) → UpToLimit (DoesBy c.work files sheet) statuses.Done text → within_report text ≡ stop_is stop → AnswersFew firsts true c files (status_of stop.cause) stop.report
  past_report text stop does ends = by_sheet (status_of stop.cause) stop.report (inr (go does))
    where
      of_limit : (whole : List ℕ) → DoesBy c.work files sheet statuses.Done whole → report_octets < length whole → IsPast c.work files sheet (status_of stop.cause) stop.report
      of_limit whole done past =
          let IsOne : Stop → Type 0 = λ s. IsStop s (status_of stop.cause) stop.report in
          record { whole = whole; does = done; past = past; stop = subst IsOne (sym (long text stop ends).limit_is) (record { status_is = refl; report_is = refl }) }

      go : UpToLimit (DoesBy c.work files sheet) statuses.Done text → IsPast c.work files sheet (status_of stop.cause) stop.report
      go (inl done) = of_limit text done (long text stop ends).past
      go (inr too_long) = of_limit too_long.whole too_long.says too_long.whole_past

  -- what ends a command behind its report, if anything does, is the limit of reports
  pub past_end : (text : List ℕ) (fail : Fail Stop) → UpToLimit (DoesBy c.work files sheet) statuses.Done text → StopsAs fail (within_report text) → EndedSays (AnswersFew firsts true c files) (ended_of fail)
  past_end text (fails.Named stop) does ends = past_report text stop does ends
  past_end text fails.Memory does ends = tt
