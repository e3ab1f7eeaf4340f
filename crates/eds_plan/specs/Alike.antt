-- Plans that clauses see alike. A vector in a guard, a statement or a first value has room, which means nothing: so plans are
-- told apart by the plain data of these alone.
use Rattle.std.specs.Prelude.{◌≡◌, ℕ, List, map, Bool, Option, option_map}
use Rattle.eds_base.specs.declared.ids.TypeId.{TypeId}
use Rattle.eds_types.specs.Plain.{Plain, plain}
use Rattle.eds_plan.specs.Ends.{found_end}
use Rattle.eds_plan.specs.Statements.{Condition, condition, Stmt, stmts}
use Rattle.eds_plan.specs.declared.activity.Action.{Action}
use Rattle.eds_plan.specs.declared.activity.Activity.{Activity}
use Rattle.eds_plan.specs.declared.component.ComponentPlan.{ComponentPlan}
use Rattle.eds_plan.specs.declared.component.EndPlan.{EndPlan}
use Rattle.eds_plan.specs.declared.component.MapPlan.{MapPlan}
use Rattle.eds_plan.specs.declared.component.VarPlan.{VarPlan}
use Rattle.eds_plan.specs.declared.machine.Machine.{Machine}
use Rattle.eds_plan.specs.declared.machine.State.{State}
use Rattle.eds_plan.specs.declared.machine.Transition.{Transition}
use Rattle.eds_plan.specs.declared.machine.Trigger.{Trigger}

-- ---- what is seen

-- a variable: its name and type, whether it is read-only, and its first value
pub record SeenVariable : Type 0 where
  pub name : List ℕ
  pub id : TypeId
  pub read_only : Bool
  pub initial : Plain

-- a variable of a plan, so seen
abbrev pub seen_variable : VarPlan → SeenVariable
seen_variable x = record { name = x.name; id = x.id; read_only = x.read_only; initial = plain x.initial }

-- an activity: its name, arguments and statements
pub record SeenActivity : Type 0 where
  pub name : List ℕ
  pub arguments : List (List ℕ × TypeId)
  pub body : List Stmt

-- an activity of a plan, so seen
abbrev pub seen_activity : Activity → SeenActivity
seen_activity a = record { name = a.name; arguments = a.arguments; body = stmts a.body }

-- a transition from a state to a state: what it waits for, when it is open, and what it does
pub record SeenTransition : Type 0 where
  pub from : ℕ
  pub to : ℕ
  pub event : Trigger
  pub transaction : Option ℕ
  pub guard : Option Condition
  pub action : Option Action

-- a transition of a plan, so seen
abbrev pub seen_transition : Transition → SeenTransition
seen_transition x = record { from = x.from; to = x.to; event = x.event; transaction = x.transaction; guard = option_map condition x.guard; action = x.action }

-- a state machine: its states, the one that it begins in, and its transitions
pub record SeenMachine : Type 0 where
  pub name : List ℕ
  pub states : List State
  pub entry : ℕ
  pub transitions : List SeenTransition

-- a state machine of a plan, so seen
abbrev pub seen_machine : Machine → SeenMachine
seen_machine m = record { name = m.name; states = m.states; entry = m.entry; transitions = map seen_transition m.transitions }

-- a component: all that a plan has of it
pub record SeenComponent : Type 0 where
  pub name : List ℕ
  pub ends : List EndPlan
  pub variables : List SeenVariable
  pub maps : List MapPlan
  pub activities : List SeenActivity
  pub machines : List SeenMachine
  pub transactions : List (List ℕ)

-- a component of a plan, so seen
abbrev pub seen_component : ComponentPlan → SeenComponent
seen_component c = record {
  name = c.name;
  ends = c.ends;
  variables = map seen_variable c.variables;
  maps = c.maps;
  activities = map seen_activity c.activities;
  machines = map seen_machine c.machines;
  transactions = c.transactions;
}

-- ---- what is seen alike

-- two components
abbrev pub IsAlike : ComponentPlan → ComponentPlan → Type 0
IsAlike c d = seen_component c ≡ seen_component d

-- two plans, component by component
abbrev pub AreAlike : List ComponentPlan → List ComponentPlan → Type 0
AreAlike p q = map seen_component p ≡ map seen_component q

-- plans that are seen alike have the same ends under the same texts
abbrev pub AlikeEnds : Type 0
AlikeEnds = (p q : List ComponentPlan) → AreAlike p q → (text : List ℕ) → found_end p text ≡ found_end q text
