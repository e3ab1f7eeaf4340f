-- What a plan has at a place.
use Rattle.std.specs.Prelude.{ℕ, List, [], map, slice_get, unwrap_or}
use Rattle.eds_base.specs.declared.ids.TypeId.{TypeId}
use Rattle.eds_plan.specs.declared.activity.Activity.{Activity}
use Rattle.eds_plan.specs.declared.component.ComponentPlan.{ComponentPlan}
use Rattle.eds_plan.specs.declared.component.VarPlan.{VarPlan}
use Rattle.eds_plan.specs.declared.machine.Machine.{Machine}

-- what stands for a component that isn't there
abbrev pub no_component : ComponentPlan
no_component = record { name = []; ends = []; variables = []; maps = []; activities = []; machines = []; transactions = [] }

-- what stands for an activity that isn't there
abbrev pub no_activity : Activity
no_activity = record { name = []; arguments = []; body = [] }

-- the component of a number
abbrev pub component_at : List ComponentPlan → ℕ → ComponentPlan
component_at plan comp = unwrap_or (slice_get plan comp) no_component

-- the activity of a number
abbrev pub activity_at : ComponentPlan → ℕ → Activity
activity_at c activity = unwrap_or (slice_get c.activities activity) no_activity

-- what stands for a machine that isn't there
abbrev pub no_machine : Machine
no_machine = record { name = []; states = []; entry = 0; transitions = [] }

-- the machine of a number
abbrev pub machine_at : ComponentPlan → ℕ → Machine
machine_at c machine = unwrap_or (slice_get c.machines machine) no_machine

-- the types of a component's variables
abbrev pub variable_types : ComponentPlan → List ℕ
variable_types c = map (λ (x : VarPlan). x.id.0) c.variables

-- the types of an activity's arguments
abbrev pub argument_types : Activity → List ℕ
argument_types a = map (λ (p : List ℕ × TypeId). (p.1).0) a.arguments
