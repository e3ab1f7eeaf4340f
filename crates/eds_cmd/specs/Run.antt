-- What running a script over components comes to.
use Rattle.std.specs.Prelude.{◌≡◌, ℕ, ◌-◌, List, [], ◌∷◌, ◌++◌, length, map, Option, Some, None, Result, Ok, Err, slice_get, ◌⊎◌}
use Rattle.std.specs.List.{flat_map}
use Rattle.std.specs.Option.{option_map_or}
use Rattle.eds_act.specs.Does.{Conforms}
use Rattle.eds_host.specs.Hosts.{ArgumentsAreClear, asked_by, reading}
use Rattle.eds_host.specs.Plans.{system}
use Rattle.eds_host.specs.Runs.{RunGoes, unbegun}
use Rattle.eds_plan.specs.States.{StateNow}
use Rattle.eds_host.specs.Systems.{System, World}
use Rattle.eds_host.specs.Wires.{other_end, ties_of}
use Rattle.eds_host.specs.declared.wiring.HostFail.{HostFail}
use Rattle.eds_host.specs.declared.wiring.Tie.{Tie}
use Rattle.eds_plan.specs.Fitting.{PlanFits}
use Rattle.eds_plan.specs.Lines.{Told}
use Rattle.eds_plan.specs.Outs.{Report}
use Rattle.eds_plan.specs.declared.component.ComponentPlan.{ComponentPlan}
use Rattle.eds_read_comp.specs.Plans.{seen_plan}
use Rattle.eds_script.specs.Events.{IsEventLine}
use Rattle.eds_script.specs.Scripts.{Plot, script_of}
use Rattle.eds_script.specs.States.{state_text}
use Rattle.eds_script.specs.declared.why.BadLine.{BadLine}
use Rattle.eds_sheet.specs.Compiled.{SeenSheet}
use Rattle.eds_types.specs.Rows.{Table}
use Rattle.eds_cmd.specs.declared.status.Status.{Status}
use Rattle.eds_cmd.specs.declared.status.Status.TheVariants as statuses
use Rattle.eds_cmd.specs.Reports.{end_line}
use Rattle.eds_cmd.specs.Stops.{IsStop, bad_line, bad_wire, storm}

-- ---- what a report tells

-- the text has a line for each event, in order
abbrev pub AreEventLines : Table → List ComponentPlan → List Report → List ℕ → Type 0
AreEventLines t plan [] text = text ≡ []
AreEventLines t plan (r ∷ rs) text = (line : List ℕ) × (rest : List ℕ) × IsEventLine t plan r line × AreEventLines t plan rs rest × (text ≡ line ++ rest)

-- the lines that tell where components stand, in document order
abbrev pub states_text : Table → List ComponentPlan → List StateNow → List ℕ
states_text t [] states = []
states_text t (c ∷ cs) [] = []
states_text t (c ∷ cs) (s ∷ states) = state_text t c s.machines s.variables s.outstanding ++ states_text t cs states

-- `end T`, and where the components stand
abbrev pub end_text : Table → List ComponentPlan → World → List ℕ
end_text t plan w = end_line w.now ++ states_text t plan w.states

-- all that left the run, line after line
abbrev pub all_events : List (List Report) → List Report
all_events outs = flat_map (λ (rs : List Report). rs) outs

-- ---- a run

-- The lines of a script one after another make this of components that haven't started, whose wires tie so: what leaves the run
-- in each line, and the world after the last, none after a storm.
abbrev pub Runs : Table → List ComponentPlan → List Tie → List (ℕ × Told) → List (List Report) → Option World → Type 0
Runs t plan ties lines outs end = let sys : System = system t plan (other_end ties) in RunGoes sys (reading t plan) (map (λ (l : ℕ × Told). l.1) lines) (unbegun sys) outs end

-- the number of the last line, where so many of a script were handled
abbrev pub last_of : List (ℕ × Told) → (handled : ℕ) → ℕ
last_of lines handled = option_map_or (λ (l : ℕ × Told). l.0) (slice_get lines (handled - 1)) 0

-- every line is done: what left the run is told, and then the end
pub record IsRun (t : Table) (plan : List ComponentPlan) (ties : List Tie) (lines : List (ℕ × Told)) (status : Status) (report : List ℕ) : Type 0 where
  pub outs : List (List Report)
  pub world : World
  pub runs : Runs t plan ties lines outs (Some world)
  pub events : List ℕ
  pub told : AreEventLines t plan (all_events outs) events
  pub status_is : status ≡ statuses.Done
  pub report_is : report ≡ events ++ end_text t plan world

-- a line is a storm: what left the run until then is told, and then that line
pub record IsStormy (t : Table) (plan : List ComponentPlan) (ties : List Tie) (lines : List (ℕ × Told)) (status : Status) (report : List ℕ) : Type 0 where
  pub outs : List (List Report)
  pub runs : Runs t plan ties lines outs None
  pub events : List ℕ
  pub told : AreEventLines t plan (all_events outs) events
  pub stop : IsStop (storm events (last_of lines (length outs))) status report

-- the lines of a script, over wires that tie so or of which one ties nothing, come to this status and report
abbrev pub RunsOver : Table → List ComponentPlan → Result (List Tie) HostFail → List (ℕ × Told) → Status → List ℕ → Type 0
RunsOver t plan (Ok ties) lines status report = IsRun t plan ties lines status report ⊎ IsStormy t plan ties lines status report
RunsOver t plan (Err fail) lines status report = IsStop (bad_wire fail) status report

-- what wires tie, or the first that ties nothing
abbrev pub wired : List ComponentPlan → Plot → Result (List Tie) HostFail
wired plan p = ties_of plan (map (asked_by plan) p.wires)

-- a script, or its first bad line, comes to this status and report
abbrev pub RunsPlot : Table → List ComponentPlan → Result Plot BadLine → Status → List ℕ → Type 0
RunsPlot t plan (Ok p) status report = RunsOver t plan (wired plan p) p.lines status report
RunsPlot t plan (Err bad) status report = IsStop (bad_line bad) status report

-- the text is no script, and its first bad line is told
pub record IsBadScript (t : Table) (plan : List ComponentPlan) (text : List ℕ) (status : Status) (report : List ℕ) : Type 0 where
  pub bad : BadLine
  pub is : script_of t plan text ≡ Err bad
  pub stop : IsStop (bad_line bad) status report

-- a wire of a script ties nothing, and the first such is told
pub record IsBadlyWired (plan : List ComponentPlan) (p : Plot) (status : Status) (report : List ℕ) : Type 0 where
  pub fail : HostFail
  pub is : wired plan p ≡ Err fail
  pub stop : IsStop (bad_wire fail) status report

-- running the text of a script comes to this status and report
abbrev pub RunsScript : Table → List ComponentPlan → List ℕ → Status → List ℕ → Type 0
RunsScript t plan text status report = RunsPlot t plan (script_of t plan text) status report

-- ---- what is asked

-- the plan fits the table, and no two containers overlap under the types of its commands' arguments
pub record IsRunnable (t : Table) (plan : List ComponentPlan) : Type 0 where
  pub fits : PlanFits t (Conforms t) plan
  pub clear : ArgumentsAreClear t plan

-- no line of the script is bad, its wires tie what they name, and no line is a storm
pub record IsValidScript (t : Table) (plan : List ComponentPlan) (text : List ℕ) : Type 0 where
  pub plot : Plot
  pub good : script_of t plan text ≡ Ok plot
  pub ties : List Tie
  pub tied : wired plan plot ≡ Ok ties
  pub outs : List (List Report)
  pub world : World
  pub calm : Runs t plan ties plot.lines outs (Some world)

-- ---- over the components of a sheet

-- The plan has what the sheet says of its components, and fits the table. Plans of which a sheet says the same run alike, so it
-- doesn't matter which of them it is.
pub record IsPlanOf (sheet : SeenSheet) (plan : List ComponentPlan) : Type 0 where
  pub seen : seen_plan plan ≡ sheet.plan
  pub fits : PlanFits sheet.table (Conforms sheet.table) plan

-- there is such a plan
abbrev pub HasPlan : SeenSheet → Type 0
HasPlan sheet = (plan : List ComponentPlan) × IsPlanOf sheet plan

-- running the text of a script over the components of a sheet comes to this status and report
pub record RunsSheet (sheet : SeenSheet) (text : List ℕ) (status : Status) (report : List ℕ) : Type 0 where
  pub plan : List ComponentPlan
  pub is : IsPlanOf sheet plan
  pub runs : RunsScript sheet.table plan text status report

-- a script is valid over the components of a sheet
pub record IsValidRun (sheet : SeenSheet) (text : List ℕ) : Type 0 where
  pub plan : List ComponentPlan
  pub seen : seen_plan plan ≡ sheet.plan
  pub valid : IsValidScript sheet.table plan text
