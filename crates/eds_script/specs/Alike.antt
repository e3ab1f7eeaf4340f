-- Texts of plans that are seen alike: what a script means and what a run tells depend on nothing of a plan but what is seen of
-- it.
use Rattle.std.specs.Prelude.{◌≡◌, ℕ, List}
use Rattle.eds_plan.specs.Alike.{AreAlike, IsAlike}
use Rattle.eds_plan.specs.Outs.{Report}
use Rattle.eds_plan.specs.declared.component.ComponentPlan.{ComponentPlan}
use Rattle.eds_plan.specs.declared.run.MachineState.{MachineState}
use Rattle.eds_plan.specs.declared.run.Outstanding.{Outstanding}
use Rattle.eds_types.specs.Plain.{Plain}
use Rattle.eds_types.specs.Rows.{Table}
use Rattle.eds_script.specs.Events.{IsEventLine}
use Rattle.eds_script.specs.Scripts.{script_of}
use Rattle.eds_script.specs.States.{state_text}

-- a text stands for the same script over them, or has the same first bad line for the same reason
abbrev pub AlikeScripts : Type 0
AlikeScripts = (t : Table) (p q : List ComponentPlan) → AreAlike p q → (text : List ℕ) → script_of t p text ≡ script_of t q text

-- what leaves a run has the same line
abbrev pub AlikeEvents : Type 0
AlikeEvents = (t : Table) (p q : List ComponentPlan) → AreAlike p q → (r : Report) (text : List ℕ) → IsEventLine t p r text → IsEventLine t q r text

-- and where a component stands is told in the same lines
abbrev pub AlikeStates : Type 0
AlikeStates = (t : Table) (c d : ComponentPlan) → IsAlike c d → (machines : List MachineState) (values : List Plain) (outstanding : List Outstanding) → state_text t c machines values outstanding ≡ state_text t d machines values outstanding
