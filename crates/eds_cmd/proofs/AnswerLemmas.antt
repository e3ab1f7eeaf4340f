-- What the answer of a command is, and is not.
use Rattle.std.proofs.Common.{◌≡◌, ◌≢◌, ℕ, ◌<◌, ◌≤◌, List, codes, length, Bool, true, false, nat_le, inl, inr, Option, Result, Ok, Err, refl, sym, ◌∙◌, subst, ◌⊎◌}
use Rattle.std.proofs.lemmas.Bool.{le-leb, lt-leb}
use Rattle.std.specs.Fmt.{digits}
use Rattle.eds_io.specs.Files.{Files}
use Rattle.eds_sheet.specs.Compiled.{SeenSheet}
use Rattle.eds_sheet.specs.Firsts.{Firsts}
use Rattle.eds_host.specs.Systems.{World}
use Rattle.eds_host.specs.declared.wiring.HostFail.{HostFail}
use Rattle.eds_host.specs.declared.wiring.Tie.{Tie}
use Rattle.eds_plan.specs.Lines.{Told}
use Rattle.eds_plan.specs.Outs.{Report}
use Rattle.eds_plan.specs.declared.component.ComponentPlan.{ComponentPlan}
use Rattle.eds_replay.specs.Sessions.{recordings, script_in}
use Rattle.eds_replay.specs.declared.session.Recorded.{Recorded}
use Rattle.eds_script.specs.Scripts.{Plot, script_of}
use Rattle.eds_script.specs.declared.why.BadLine.{BadLine}
use Rattle.eds_types.specs.Plain.{Plain}
use Rattle.eds_types.specs.Rows.{Table}
use Rattle.eds_value.specs.declared.fail.ValueFail.{ValueFail}
use Rattle.eds_value.specs.Json.{value_in}
use Rattle.eds_cmd.specs.declared.command.Verb.{Verb}
use Rattle.eds_cmd.specs.declared.command.Verb.TheVariants.{Unpack, Pack, Split}
use Rattle.eds_cmd.specs.declared.status.Status.{Status}
use Rattle.eds_cmd.specs.declared.status.Status.TheVariants as statuses
use Rattle.eds_cmd.specs.declared.status.What.TheVariants as what
use Rattle.eds_cmd.specs.declared.stop.Cause.{Cause}
use Rattle.eds_cmd.specs.declared.stop.Cause.TheVariants as causes
use Rattle.eds_cmd.specs.declared.stop.Stop.{Stop}
use Rattle.eds_cmd.specs.Answer.{AnswersBy, AnswersCommand, AnswersFew, DoesBy, DoesOn, IsReached, Works, accepted, input_for}
use Rattle.eds_cmd.specs.Command.{CommandWords, TaskWords, WorkWords, by_type, check, layout, on_input, replay, run}
use Rattle.eds_cmd.specs.Limits.{sheet_count}
use Rattle.eds_cmd.specs.Outcome.{ComesTo, IsFault}
use Rattle.eds_cmd.specs.Pack.{PacksGiven}
use Rattle.eds_cmd.specs.Replay.{Compares, ReplaysOver, ReplaysPlot}
use Rattle.eds_cmd.specs.Reports.{limit_line}
use Rattle.eds_cmd.specs.Run.{RunsOver, RunsPlot, wired}
use Rattle.eds_cmd.specs.Split.{Splits}
use Rattle.eds_cmd.specs.Stops.{IsStop, status_of}
use Rattle.eds_cmd.specs.Target.{TypeIn, type_of}
use Rattle.eds_cmd.specs.Unpack.{UnpacksFrame, frame_for}

-- the answer of a command of no more sheet files than there may be
pub few_answer : (firsts : Firsts) (files : Files) (c : CommandWords) (status : Status) (report : List ℕ) → length c.sheets ≤ sheet_count → AnswersFew firsts true c files status report → AnswersCommand firsts c files status report
few_answer firsts files c status report few answer = rw (le-leb (length c.sheets) sheet_count few) answer

-- ---- more sheet files than there may be

abbrev pub past_line : List ℕ
past_line = codes "limit files 64\n"

pub past_line_is : past_line ≡ limit_line what.Files sheet_count
unfolding digits
past_line_is = refl

pub past_answer : (firsts : Firsts) (files : Files) (c : CommandWords) → sheet_count < length c.sheets → AnswersCommand firsts c files (statuses.Limit what.Files sheet_count) past_line
past_answer firsts files c past = rw (lt-leb (length c.sheets) sheet_count past) (record { status_is = refl; report_is = past_line_is })

-- ---- the answer is no fault of the outside

-- what is no fault is no write fault
pub not_write_fault : (status : Status) → (IsFault status → ⊥) → status ≢ statuses.WriteFault
not_write_fault status calm e = calm (subst IsFault (sym e) tt)

-- the status of a command that is done, or of a stop
abbrev IsEnd : Status → Type 0
IsEnd status = (status ≡ statuses.Done) ⊎ ((cause : Cause) × (status ≡ status_of cause))

stop_end : (stop : Stop) (status : Status) (report : List ℕ) → IsStop stop status report → IsEnd status
stop_end stop status report s = inr (stop.cause, s.status_is)

frame_end : (type : TypeIn) (frame : Result (List ℕ) Stop) (status : Status) (report : List ℕ) → UnpacksFrame type frame status report → IsEnd status
frame_end type (Ok frame) status report (inl u) = inl u.status_is
frame_end type (Ok frame) status report (inr (inl t)) = stop_end _ status report t.stop
frame_end type (Ok frame) status report (inr (inr f)) = stop_end _ status report f.stop
frame_end type (Err stop) status report s = stop_end stop status report s

value_end : (type : TypeIn) (value : Result Plain ValueFail) (status : Status) (report : List ℕ) → PacksGiven type value status report → IsEnd status
value_end type (Ok value) status report (inl p) = inl p.status_is
value_end type (Ok value) status report (inr f) = stop_end _ status report f.stop
value_end type (Err fail) status report s = stop_end _ status report s

split_end : (type : TypeIn) (octets : List ℕ) (status : Status) (report : List ℕ) → Splits type octets status report → IsEnd status
split_end type octets status report (inl s) = inl s.status_is
split_end type octets status report (inr c) = stop_end _ status report c.stop

work_end : (verb : Verb) (type : TypeIn) (input : List ℕ) (status : Status) (report : List ℕ) → Works verb type input status report → IsEnd status
work_end Unpack type input status report u = frame_end type (frame_for input) status report u
work_end Pack type input status report p = value_end type (value_in type.table type.id input) status report p
work_end Split type input status report s = split_end type input status report s

run_end : (t : Table) (plan : List ComponentPlan) (ties : Result (List Tie) HostFail) (lines : List (ℕ × Told)) (status : Status) (report : List ℕ) → RunsOver t plan ties lines status report → IsEnd status
run_end t plan (Ok ties) lines status report (inl r) = inl r.status_is
run_end t plan (Ok ties) lines status report (inr s) = stop_end _ status report s.stop
run_end t plan (Err fail) lines status report s = stop_end _ status report s

plot_end : (t : Table) (plan : List ComponentPlan) (p : Result Plot BadLine) (status : Status) (report : List ℕ) → RunsPlot t plan p status report → IsEnd status
plot_end t plan (Ok p) status report r = run_end t plan (wired plan p) p.lines status report r
plot_end t plan (Err bad) status report s = stop_end _ status report s

compared_end : (t : Table) (plan : List ComponentPlan) (recorded : List Recorded) (lines : List (ℕ × Told)) (outs : List (List Report)) (end : Option World) (status : Status) (report : List ℕ) → Compares t plan recorded lines outs end status report → IsEnd status
compared_end t plan recorded lines outs end status report (inl r) = inl r.status_is
compared_end t plan recorded lines outs end status report (inr (inl d)) = stop_end _ status report d.stop
compared_end t plan recorded lines outs end status report (inr (inr s)) = stop_end _ status report s.stop

replay_end : (t : Table) (plan : List ComponentPlan) (ties : Result (List Tie) HostFail) (lines : List (ℕ × Told)) (recorded : List Recorded) (status : Status) (report : List ℕ) → ReplaysOver t plan ties lines recorded status report → IsEnd status
replay_end t plan (Ok ties) lines recorded status report r = compared_end t plan recorded lines r.outs r.end status report r.compares
replay_end t plan (Err fail) lines recorded status report s = stop_end _ status report s

session_end : (t : Table) (plan : List ComponentPlan) (p : Result Plot BadLine) (recorded : List Recorded) (status : Status) (report : List ℕ) → ReplaysPlot t plan p recorded status report → IsEnd status
session_end t plan (Ok p) recorded status report r = replay_end t plan (wired plan p) p.lines recorded status report r
session_end t plan (Err bad) recorded status report s = stop_end _ status report s

task_end : (task : TaskWords) (sheet : SeenSheet) (input : Result (List ℕ) Stop) (status : Status) (report : List ℕ) → DoesOn task sheet input status report → IsEnd status
task_end (by_type verb type_name) sheet (Ok input) status report d = work_end verb (type_of sheet) input status report d
task_end run sheet (Ok input) status report d = plot_end sheet.table d.plan (script_of sheet.table d.plan input) status report d.runs
task_end replay sheet (Ok input) status report d = session_end sheet.table d.plan (script_of sheet.table d.plan (script_in input)) (recordings input) status report d.replays
task_end task sheet (Err stop) status report s = stop_end stop status report s

does_end : (work : WorkWords) (files : Files) (sheet : SeenSheet) (status : Status) (report : List ℕ) → DoesBy work files sheet status report → IsEnd status
does_end check files sheet status report d = inl d.status_is
does_end (layout type_name) files sheet status report d = inl d.status_is
does_end (on_input job) files sheet status report d = task_end job.task sheet (input_for files job) status report d

by_end : (work : WorkWords) (files : Files) (sheet : Result SeenSheet Stop) (status : Status) (report : List ℕ) → AnswersBy work files sheet status report → IsEnd status
by_end work files (Ok sheet) status report (inl w) = does_end work files sheet status report w.does
by_end work files (Ok sheet) status report (inr p) = stop_end _ status report p.stop
by_end work files (Err stop) status report s = stop_end stop status report s

few_end : (firsts : Firsts) (few : Bool) (files : Files) (c : CommandWords) (status : Status) (report : List ℕ) → AnswersFew firsts few c files status report → IsEnd status
few_end firsts true files c status report a = by_end c.work files (accepted firsts files c) status report a
few_end firsts false files c status report s = stop_end _ status report s

not_unread : (status : Status) (name : List ℕ) → IsEnd status → status ≡ statuses.ReadFault name → ⊥
not_unread status name (inl done) e = cc (done, e)
not_unread status name (inr stop) e = by_cause stop.0 (sym stop.1 ∙ e)
  where
    by_cause : (cause : Cause) → status_of cause ≡ statuses.ReadFault name → ⊥
    by_cause (causes.Sheet refusal) h = cc h
    by_cause (causes.Data fault) h = cc h
    by_cause (causes.Limit what most) h = cc h
    by_cause (causes.NoFile missing_name) h = cc h

-- where a file of that name was not read, it is reached
pub unread_reached : (firsts : Firsts) (Rises : List ℕ → Type 0) (files : Files) (c : CommandWords) (status : Status) (report name : List ℕ) → ComesTo firsts Rises files c status report → status ≡ statuses.ReadFault name
    → IsReached firsts files c name
unread_reached firsts Rises files c status report name (inl answer) e = absurd (not_unread status name (few_end firsts (nat_le (length c.sheets) sheet_count) files c status report answer) e)
unread_reached firsts Rises files c status report name (inr unread) e =
    let both : statuses.ReadFault unread.name ≡ statuses.ReadFault name = sym unread.status_is ∙ e in
    let one : unread.name ≡ name = cc both in
    let P : List ℕ → Type 0 = λ n. IsReached firsts files c n in
    subst P one unread.reached
