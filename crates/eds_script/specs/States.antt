-- The lines that tell where a component stands at the end of a run.
use Rattle.std.specs.Prelude.{ℕ, List, ◌++◌, codes, slice_get}
use Rattle.std.specs.List.{flat_map}
use Rattle.eds_types.specs.Plain.{Plain}
use Rattle.eds_types.specs.Rows.{Table}
use Rattle.eds_value.specs.JsonOfValue.{json_text}
use Rattle.eds_plan.specs.declared.component.ComponentPlan.{ComponentPlan}
use Rattle.eds_plan.specs.declared.component.VarPlan.{VarPlan}
use Rattle.eds_plan.specs.declared.machine.Machine.{Machine}
use Rattle.eds_plan.specs.declared.run.MachineState.{MachineState}
use Rattle.eds_plan.specs.declared.run.Outstanding.{Outstanding}
use Rattle.eds_plan.specs.Ends.{end_text}
use Rattle.eds_script.specs.Names.{end_name, member_name, state_name, transaction_name}
use Rattle.eds_script.specs.Pairs.{texts_of}

-- `state COMPONENT MACHINE STATE`
abbrev pub machine_line : List ℕ → Machine → MachineState → List ℕ
machine_line component m s = codes "state " ++ component ++ codes " " ++ m.name ++ codes " " ++ state_name m s.at ++ codes "\n"

-- `var COMPONENT VARIABLE JSON`
abbrev pub variable_line : Table → List ℕ → VarPlan → Plain → List ℕ
variable_line t component x v = codes "var " ++ component ++ codes " " ++ x.name ++ codes " " ++ json_text t v ++ codes "\n"

-- `wait END MEMBER NAME`: a response of the member is waited for in the transaction of that name
abbrev pub wait_line : ComponentPlan → Outstanding → List ℕ
wait_line c q =
    codes "wait " ++ end_text c.name (end_name c q.face) ++ codes " " ++ member_name (slice_get c.ends q.face) q.member
    ++ codes " " ++ transaction_name c q.name ++ codes "\n"

-- the machines, each with its state, then the variables with their values, in document order, and then what is waited for in
-- the order in which it was sent
abbrev pub state_text : Table → ComponentPlan → List MachineState → List Plain → List Outstanding → List ℕ
state_text t c machines values outstanding =
    texts_of (machine_line c.name) c.machines machines ++ texts_of (variable_line t c.name) c.variables values
    ++ flat_map (wait_line c) outstanding
