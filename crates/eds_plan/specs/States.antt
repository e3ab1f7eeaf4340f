-- The states of components as plain data.
use Rattle.std.specs.Prelude.{List, map}
use Rattle.eds_types.specs.Plain.{Plain, plain}
use Rattle.eds_plan.specs.declared.run.CompState.{CompState}
use Rattle.eds_plan.specs.declared.run.MachineState.{MachineState}
use Rattle.eds_plan.specs.declared.run.Outstanding.{Outstanding}

-- the state of a component as plain data
pub record StateNow : Type 0 where
  pub variables : List Plain
  pub machines : List MachineState
  pub outstanding : List Outstanding

-- the plain data of a state
abbrev pub state_now : CompState → StateNow
state_now s = record { variables = map plain s.variables; machines = s.machines; outstanding = s.outstanding }
