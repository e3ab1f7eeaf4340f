-- What the names in a snapshot's lines tell of a plan.
use Rattle.std.specs.Prelude.{ℕ, List, Option, option_map}
use Rattle.std.specs.List.{position}
use Rattle.eds_base.specs.Reading.{◌>>=◌, same}
use Rattle.eds_plan.specs.Ends.{found_end}
use Rattle.eds_plan.specs.Names.{name_of_member}
use Rattle.eds_plan.specs.Plans.{component_at, machine_at}
use Rattle.eds_plan.specs.declared.component.ComponentPlan.{ComponentPlan}
use Rattle.eds_plan.specs.declared.component.EndPlan.{EndPlan}
use Rattle.eds_plan.specs.declared.component.VarPlan.{VarPlan}
use Rattle.eds_plan.specs.declared.instance.Member.{Member}
use Rattle.eds_plan.specs.declared.machine.Machine.{Machine}
use Rattle.eds_plan.specs.declared.machine.State.{State}
use Rattle.eds_plan.specs.declared.run.Outstanding.{Outstanding}

-- ---- names; of equal ones the first

-- the place of the component of a name
abbrev pub component_named : List ComponentPlan → List ℕ → Option ℕ
component_named plan name = position (λ (c : ComponentPlan). same c.name name) plan

-- the place of the machine of a name
abbrev pub machine_named : ComponentPlan → List ℕ → Option ℕ
machine_named c name = position (λ (m : Machine). same m.name name) c.machines

-- the place of the state of a name
abbrev pub state_named : Machine → List ℕ → Option ℕ
state_named m name = position (λ (s : State). same s.name name) m.states

-- the place of the variable of a name
abbrev pub variable_named : ComponentPlan → List ℕ → Option ℕ
variable_named c name = position (λ (x : VarPlan). same x.name name) c.variables

-- the place of the member of a name
abbrev pub member_named : EndPlan → List ℕ → Option ℕ
member_named e name = position (λ (m : Member). same (name_of_member m) name) e.instance.members

-- the number of the transaction of a name
abbrev pub transaction_named : ComponentPlan → List ℕ → Option ℕ
transaction_named c name = position (λ (n : List ℕ). same n name) c.transactions

-- ---- places

-- a machine of a component, and one of its states
pub record MachinePlace : Type 0 where
  pub comp : ℕ
  pub machine : ℕ
  pub at : ℕ

-- the machine and state that names tell
abbrev pub machine_place : List ComponentPlan → (component machine state : List ℕ) → Option MachinePlace
machine_place plan component machine state =
    component_named plan component >>= λ comp. machine_named (component_at plan comp) machine >>= λ i.
    option_map (λ at. record { comp = comp; machine = i; at = at }) (state_named (machine_at (component_at plan comp) i) state)

-- a variable of a component
pub record VariablePlace : Type 0 where
  pub comp : ℕ
  pub variable : ℕ

-- the variable that names tell
abbrev pub variable_place : List ComponentPlan → (component variable : List ℕ) → Option VariablePlace
variable_place plan component variable =
    component_named plan component >>= λ comp. option_map (λ x. record { comp = comp; variable = x }) (variable_named (component_at plan comp) variable)

-- a transaction of a component
pub record WaitPlace : Type 0 where
  pub comp : ℕ
  pub waiting : Outstanding

-- the transaction that the text of an end and names tell
abbrev pub wait_place : List ComponentPlan → (end member name : List ℕ) → Option WaitPlace
wait_place plan end member name =
    found_end plan end >>= λ e. member_named e.1 member >>= λ m.
    option_map (λ n. record { comp = e.0.comp.0; waiting = record { face = e.0.face; member = m; name = n } }) (transaction_named (component_at plan e.0.comp.0) name)
