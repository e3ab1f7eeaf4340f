-- What a script stands for may be run, what a run answers may be printed, and running a script comes to one thing.
use Rattle.std.specs.Prelude.{◌≡◌, ℕ, List, map, Ok, ◌⊎◌}
use Rattle.eds_types.specs.Rows.{Table}
use Rattle.eds_types.specs.Rules.{KeepsRules}
use Rattle.eds_plan.specs.Fitting.{PlanFits}
use Rattle.eds_plan.specs.Outs.{Report}
use Rattle.eds_plan.specs.Plans.{component_at}
use Rattle.eds_plan.specs.States.{StateNow}
use Rattle.eds_plan.specs.declared.component.ComponentPlan.{ComponentPlan}
use Rattle.eds_act.specs.Does.{Conforms}
use Rattle.eds_script.specs.Fitting.{FitsPlan, HaveValues}
use Rattle.eds_script.specs.Known.{KnowsTypes}
use Rattle.eds_script.specs.Scripts.{Plot, script_of}
use Rattle.eds_host.specs.Hosts.{HostNow, MayAllBeHandled, asked_by}
use Rattle.eds_host.specs.Machines.{IsStateOf}
use Rattle.eds_host.specs.Plans.{MayGoOut}
use Rattle.eds_host.specs.Wires.{ties_of}
use Rattle.eds_host.specs.declared.host.Phase.TheVariants.{Fresh}
use Rattle.eds_cmd.specs.declared.status.Status.{Status}
use Rattle.eds_cmd.specs.declared.status.Status.TheVariants.{Done}
use Rattle.eds_cmd.specs.declared.stop.Stop.{Stop}
use Rattle.eds_cmd.specs.Run.{IsRunnable, IsValidScript, RunsScript}
use Rattle.eds_cmd.specs.Running.{happenings}
use Rattle.eds_cmd.specs.Stops.{status_of}

-- ---- before a run

-- a plan that fits its table has members of types of that table
abbrev pub PlansKnowTypes : Type 0
PlansKnowTypes = (t : Table) (plan : List ComponentPlan) → PlanFits t (Conforms t) plan → KnowsTypes t plan

-- the lines of a script may be handed, one after another, to a host that hasn't started, over the wires of the script
abbrev pub ScriptsMayBeHandled : Type 0
ScriptsMayBeHandled = (h : HostNow) (octets : List ℕ) (p : Plot) → KeepsRules h.table → PlanFits h.table (Conforms h.table) h.plan →
    script_of h.table h.plan octets ≡ Ok p → ties_of h.plan (map (asked_by h.plan) p.wires) ≡ Ok h.wires → MayAllBeHandled Fresh h (happenings p.lines)

-- ---- what a host answers

-- what leaves a run and fits the plan has values of the types that are declared for them
abbrev pub OutsMayBePrinted : Type 0
OutsMayBePrinted = (t : Table) (plan : List ComponentPlan) (r : Report) → MayGoOut t plan r → FitsPlan t plan r

-- so has a state of a component
abbrev pub StatesMayBePrinted : Type 0
StatesMayBePrinted = (t : Table) (plan : List ComponentPlan) (comp now : ℕ) (s : StateNow) → IsStateOf t plan comp now s → HaveValues t (component_at plan comp).variables s.variables

-- ---- runs, of a plan that fits

-- running the text of a script comes to a report of what is done, or to a stop
abbrev pub SomeRun : Type 0
SomeRun = (t : Table) (plan : List ComponentPlan) (text : List ℕ) → KeepsRules t → IsRunnable t plan
    → ((report : List ℕ) × RunsScript t plan text Done report) ⊎ ((stop : Stop) × RunsScript t plan text (status_of stop.cause) stop.report)

-- and to nothing else
abbrev pub OneRun : Type 0
OneRun = (t : Table) (plan : List ComponentPlan) (text : List ℕ) (status other : Status) (report line : List ℕ) → KeepsRules t → IsRunnable t plan
    → RunsScript t plan text status report → RunsScript t plan text other line → (status ≡ other) × (report ≡ line)

-- a valid script is run to its end
abbrev pub ValidScriptsRun : Type 0
ValidScriptsRun = (t : Table) (plan : List ComponentPlan) (text : List ℕ) → KeepsRules t → IsRunnable t plan → IsValidScript t plan text → (report : List ℕ) × RunsScript t plan text Done report
