-- A valid command is done.
use Rattle.std.proofs.Common.{◌≡◌, ◌++◌, ℕ, List, length, true, nat_le, inl, inr, Option, Result, Ok, refl, sym, subst, arith}
use Rattle.std.proofs.lemmas.Bool.{le-leb}
use Rattle.eds_io.specs.Files.{Files}
use Rattle.eds_sheet.specs.Compiled.{SeenSheet}
use Rattle.eds_sheet.specs.Firsts.{Firsts}
use Rattle.eds_sheet.specs.Laws.{IsSound, SheetsAreSound}
use Rattle.eds_value.specs.JsonOfValue.{json_text}
use Rattle.eds_cmd.specs.declared.command.Verb.{Verb}
use Rattle.eds_cmd.specs.declared.command.Verb.TheVariants.{Unpack, Pack, Split}
use Rattle.eds_cmd.specs.declared.status.Status.{Status}
use Rattle.eds_cmd.specs.declared.status.Status.TheVariants as statuses
use Rattle.eds_cmd.specs.declared.stop.Stop.{Stop}
use Rattle.eds_cmd.specs.Answer.{AnswersBy, AnswersCommand, AnswersFew, Does, DoesBy, DoesOn, IsValid, IsValidFor, IsValidFrame, IsValidInput, IsValidJob, IsValidTask, Works, accepted, input_for}
use Rattle.eds_cmd.specs.Command.{CommandWords, JobWords, TaskWords, WorkWords, by_type, check, input_most, layout, on_input, replay, run, type_name_of}
use Rattle.eds_cmd.specs.Limits.{frame_octets, sheet_count}
use Rattle.eds_cmd.specs.Pack.{packed_report}
use Rattle.eds_cmd.specs.Reports.{bits_report, counts_line}
use Rattle.eds_cmd.specs.Split.{packet_lines, packets_line}
use Rattle.eds_cmd.specs.Target.{TypeIn, type_of}
use Rattle.eds_cmd.specs.Unpack.{frame_for}
use Rattle.eds_cmd.proofs.OneLayout.{some_of_layout}
use Rattle.eds_cmd.proofs.OneAnswer.{HasPlanFor, HasPlanIn, ValueLaws, one_of_command}
use Rattle.eds_cmd.proofs.SheetFiles.{there_read}
use Rattle.eds_cmd.proofs.SheetReplays.{valid_of_session}
use Rattle.eds_cmd.proofs.SheetRuns.{valid_of_sheet}

abbrev frame : List ℕ → Result (List ℕ) Stop
frame octets = Ok octets

valid_frame : (type : TypeIn) (text : List ℕ) (v : IsValidFrame type text) → frame_for text ≡ frame v.frame
unfolding frame_for
valid_frame type text v = rw (v.hex, le-leb (length v.frame) frame_octets v.within) refl

-- a report says what is done with a valid input
valid_work : (verb : Verb) (type : TypeIn) (input : List ℕ) → IsValidInput verb type input → (report : List ℕ) × Works verb type input statuses.Done report
valid_work Unpack type input v = (
  bits_report (json_text type.table v.value) (length v.front),
  rw (valid_frame type input v) (inl (record { value = v.value; front = v.front; rest = v.rest; begins = v.begins; few = v.few; status_is = refl; report_is = refl })),
)
valid_work Pack type input v = (packed_report v.bits, rw v.given (inl (record { bits = v.bits; canonical = v.canonical; within = v.within; status_is = refl; report_is = refl })))
valid_work Split type octets v = (
  packet_lines type.table v.0 ++ packets_line (length v.0) (length octets),
  inl (record { packets = v.0; cut = v.1; status_is = refl; report_is = refl }),
)

-- where there is a plan to run
valid_task : ValueLaws → {word : Option (List ℕ)} (task : TaskWords) (sheet : SeenSheet) (input : List ℕ) → IsSound word sheet → IsValidTask task sheet input → HasPlanFor task sheet → (report : List ℕ) × Does task sheet input statuses.Done report
valid_task laws (by_type verb type_name) sheet input sound v has = valid_work verb (type_of sheet) input v
valid_task laws run sheet input sound v has = valid_of_sheet laws.scripts sheet sound input (has refl) v
valid_task laws replay sheet input sound v has = valid_of_session laws.sessions sheet sound input (has refl) v

-- the input file of a valid job is read
abbrev input : List ℕ → Result (List ℕ) Stop
input octets = Ok octets

valid_read : (files : Files) (job : JobWords) (sheet : SeenSheet) (v : IsValidJob files job sheet) → input_for files job ≡ input v.input
valid_read files job sheet v = let within : nat_le (length v.input) (input_most job.task) ≡ true = le-leb (length v.input) (input_most job.task) v.within in rw (v.there, within) refl

valid_does : ValueLaws → {word : Option (List ℕ)} (files : Files) (work : WorkWords) (sheet : SeenSheet) → IsSound word sheet → IsValidFor files work sheet → HasPlanIn work sheet → (report : List ℕ) × DoesBy work files sheet statuses.Done report
valid_does laws files check sheet sound v has = (counts_line sheet.counts, record { status_is = refl; report_is = refl })
valid_does laws files (layout type_name) sheet sound v has = some_of_layout laws.layouts (type_of sheet) sound.rules
valid_does laws files (on_input job) sheet sound v has =
    let task = valid_task laws job.task sheet v.input sound v.valid (has job refl) in
    (task.0, subst (λ r. DoesOn job.task sheet r statuses.Done task.0) (sym (valid_read files job sheet v)) task.1)

-- ---- where a script was run over the components of a sheet, there is a plan of these

task_planned : (task : TaskWords) (sheet : SeenSheet) (input : List ℕ) (status : Status) (report : List ℕ) → Does task sheet input status report → HasPlanFor task sheet
task_planned (by_type verb type_name) sheet input status report d is = absurd (cc is)
task_planned run sheet input status report d is = (d.plan, d.is)
task_planned replay sheet input status report d is = (d.plan, d.is)

work_planned : (files : Files) (work : WorkWords) (sheet : SeenSheet) (status : Status) (report : List ℕ) → IsValidFor files work sheet → DoesBy work files sheet status report → HasPlanIn work sheet
work_planned files check sheet status report v d j is = absurd (cc is)
work_planned files (layout type_name) sheet status report v d j is = absurd (cc is)
work_planned files (on_input job) sheet status report v d j is =
    let same : job ≡ j = cc is in
    subst (λ (k : JobWords). HasPlanFor k.task sheet) same
    (task_planned job.task sheet v.input status report (subst (λ r. DoesOn job.task sheet r status report) (valid_read files job sheet v) d))

sheet_planned : (files : Files) (work : WorkWords) (sheet : SeenSheet) (status : Status) (report : List ℕ) → IsValidFor files work sheet → AnswersBy work files (Ok sheet) status report → HasPlanIn work sheet
sheet_planned files work sheet status report v (inl w) = work_planned files work sheet status report v w.does
sheet_planned files work sheet status report v (inr p) = work_planned files work sheet statuses.Done p.whole v p.does

-- ---- a valid command

abbrev compiled_as : SeenSheet → Result SeenSheet Stop
compiled_as sheet = Ok sheet

module _ (laws : ValueLaws) (sound : SheetsAreSound) (firsts : Firsts) (files : Files) (c : CommandWords) (v : IsValid firsts files c) where
  few : nat_le (length c.sheets) sheet_count ≡ true
  few = le-leb (length c.sheets) sheet_count v.few

  sheet_is : accepted firsts files c ≡ compiled_as v.sheet
  sheet_is = let sheets = there_read files 0 c.sheets v.octets v.there (omega (arith, v.within)) in rw (sheets, v.sheet_accepted) refl

  sheet_sound : IsSound (type_name_of c) v.sheet
  sheet_sound = sound firsts v.octets (type_name_of c) v.sheet v.sheet_accepted

  -- its answer is that it is done, where there is a plan to run
  done : HasPlanIn c.work v.sheet → (report : List ℕ) × AnswersCommand firsts c files statuses.Done report
  done has =
      let does = valid_does laws files c.work v.sheet sheet_sound v.input_valid has in
      let by : AnswersBy c.work files (compiled_as v.sheet) statuses.Done does.0 = inl (record { does = does.1; within = λ e. v.short does.0 does.1 }) in
      (does.0, subst (λ b. AnswersFew firsts b c files statuses.Done does.0) (sym few) (subst (λ r. AnswersBy c.work files r statuses.Done does.0) (sym sheet_is) by))

  -- and it has no other answer
  pub valid_done : (status : Status) (report : List ℕ) → AnswersCommand firsts c files status report → status ≡ statuses.Done
  valid_done status report answer =
      let by : AnswersBy c.work files (accepted firsts files c) status report = subst (λ b. AnswersFew firsts b c files status report) few answer in
      let has = sheet_planned files c.work v.sheet status report v.input_valid (subst (λ r. AnswersBy c.work files r status report) sheet_is by) in
      let valid = done has in
      (one_of_command laws sound firsts c files status statuses.Done report valid.0 answer valid.1).0
