-- The text of a snapshot.
use Rattle.std.specs.Prelude.{ℕ, List, ◌++◌, codes, decimal}
use Rattle.std.specs.List.{flat_map}
use Rattle.eds_types.specs.Rows.{Table}
use Rattle.eds_plan.specs.States.{StateNow}
use Rattle.eds_plan.specs.declared.component.ComponentPlan.{ComponentPlan}
use Rattle.eds_plan.specs.declared.machine.Machine.{Machine}
use Rattle.eds_plan.specs.declared.run.MachineState.{MachineState}
use Rattle.eds_plan.specs.declared.run.Wire.{Wire}
use Rattle.eds_script.specs.Fitting.{HaveValues}
use Rattle.eds_script.specs.Names.{state_name}
use Rattle.eds_script.specs.Pairs.{AllPaired, texts_of}
use Rattle.eds_script.specs.States.{variable_line, wait_line}
use Rattle.eds_snap.specs.Readings.{SnapNow}

-- ---- lines

-- `end T`
abbrev pub time_line : ℕ → List ℕ
time_line now = codes "end " ++ decimal now ++ codes "\n"

-- `wire END END`
abbrev pub wire_line : Wire → List ℕ
wire_line w = codes "wire " ++ w.lower ++ codes " " ++ w.upper ++ codes "\n"

-- `machine COMPONENT MACHINE STATE ENTERED PASSED`
abbrev pub machine_line : List ℕ → Machine → MachineState → List ℕ
machine_line component m s =
    codes "machine " ++ component ++ codes " " ++ m.name ++ codes " " ++ state_name m s.at ++ codes " " ++ decimal s.entered ++ codes " " ++ decimal s.passed ++ codes "\n"

-- ---- all

-- the machines and then the variables of a component in document order, and then its transactions under way in their order
abbrev pub component_text : Table → ComponentPlan → StateNow → List ℕ
component_text t c s =
    texts_of (machine_line c.name) c.machines s.machines ++ texts_of (variable_line t c.name) c.variables s.variables
    ++ flat_map (wait_line c) s.outstanding

-- the first line, the time, the wires, and the components in document order
unfoldable pub snap_text : Table → List ComponentPlan → SnapNow → List ℕ
snap_text t plan s = codes "snapshot 1\n" ++ time_line s.now ++ flat_map wire_line s.wires ++ texts_of (component_text t) plan s.states

-- ---- what may be printed

-- one state for each component, with such values
abbrev pub StatesHaveValues : Table → List ComponentPlan → List StateNow → Type 0
StatesHaveValues t plan ss = AllPaired (λ (c : ComponentPlan) (s : StateNow). HaveValues t c.variables s.variables) plan ss
