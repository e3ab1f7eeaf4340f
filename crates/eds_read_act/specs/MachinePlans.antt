-- State machines as plan data. Where a rule is broken something else stands in the place of what is not there.
use Rattle.std.specs.Prelude.{ℕ, List, [], map, codes, Option, Some, option_map, unwrap_or}
use Rattle.eds_plan.specs.declared.activity.Action.{Action}
use Rattle.eds_plan.specs.declared.activity.Guard.{Guard}
use Rattle.eds_plan.specs.declared.machine.Machine.{Machine}
use Rattle.eds_plan.specs.declared.machine.State.{State}
use Rattle.eds_plan.specs.declared.machine.Transition.{Transition}
use Rattle.eds_plan.specs.declared.machine.Trigger.{Trigger}
use Rattle.eds_plan.specs.Statements.{Condition, condition}
use Rattle.eds_names.specs.Positions.{place_among}
use Rattle.eds_tree.specs.Trees.{name_at}
use Rattle.eds_read_act.specs.Bodies.{action_at, condition_under}
use Rattle.eds_read_act.specs.Events.{trigger_if, transaction_if}
use Rattle.eds_read_act.specs.Inside.{text_at, child_named}
use Rattle.eds_read_act.specs.MachineBreaks.{event_scope}
use Rattle.eds_read_act.specs.Machines.{states_of, state_number, transitions_of, event_of}
use Rattle.eds_read_act.specs.Naming.{short}
use Rattle.eds_read_act.specs.Scopes.{Scope, with_arguments}

-- ---- plain data: a guard is its condition

-- a transition from a state to a state, the states by their places: what it waits for, when it is enabled, and what it does
pub record PlannedTransition : Type 0 where
  pub from : ℕ
  pub to : ℕ
  pub event : Trigger
  pub transaction : Option ℕ
  pub guard : Option Condition
  pub action : Option Action

-- a state machine: its states, the one that it begins in, and its transitions in document order
pub record PlannedMachine : Type 0 where
  pub name : List ℕ
  pub states : List State
  pub entry : ℕ
  pub transitions : List PlannedTransition

-- a transition of a plan, so seen
abbrev pub planned_transition : Transition → PlannedTransition
planned_transition x = record { from = x.from; to = x.to; event = x.event; transaction = x.transaction; guard = option_map condition x.guard; action = x.action }

-- a state machine of a plan, so seen
abbrev pub planned_machine : Machine → PlannedMachine
planned_machine m = record { name = m.name; states = m.states; entry = m.entry; transitions = map planned_transition m.transitions }

-- ---- what elements stand for

-- what a child of a name does, where there is one
abbrev pub action_in : Scope → List ℕ → ℕ → Option Action
action_in s name n = option_map (action_at s) (child_named s.tree n name)

-- the state that an element is
abbrev pub state_at : Scope → ℕ → State
state_at s n = record {
  name = text_at s.tree n (codes "name");
  at_entry = action_in (with_arguments s []) (codes "OnEntry") n;
  at_exit = action_in (with_arguments s []) (codes "OnExit") n;
}

-- a position, 0 where there is none
abbrev pub position : Option ℕ → ℕ
position k = short (unwrap_or k 0)

-- the number of the state in which a machine begins
abbrev pub entry_number : Scope → (machine : ℕ) → ℕ
entry_number s machine = position (place_among (map (name_at s.tree) (states_of s.tree machine)) (codes "EntryState"))

-- the condition of a guard
abbrev pub guard_at : Scope → ℕ → Condition
guard_at s n = condition_under s (Some n)

-- the transition that an element is, whose guard and action stand in a scope of their own
abbrev pub transition_in : Scope → (inner : Scope) → (machine transition : ℕ) → PlannedTransition
transition_in s inner machine x = record {
  from = position (state_number s.tree machine x (codes "fromState"));
  to = position (state_number s.tree machine x (codes "toState"));
  event = trigger_if s (event_of s.tree x);
  transaction = transaction_if s (event_of s.tree x);
  guard = option_map (guard_at inner) (child_named inner.tree x (codes "Guard"));
  action = action_in inner (codes "Do") x;
}

-- the transition that an element is; its guard and its action name what its event carries
abbrev pub transition_at : Scope → (machine transition : ℕ) → PlannedTransition
transition_at s machine x = transition_in s (event_scope s x) machine x

-- the machine that an element is
abbrev pub machine_at : Scope → ℕ → PlannedMachine
machine_at s n = record {
  name = text_at s.tree n (codes "name");
  states = map (state_at s) (states_of s.tree n);
  entry = entry_number s n;
  transitions = map (transition_at s n) (transitions_of s.tree n);
}

-- the machines of a component, whose elements are given
abbrev pub machines_at : Scope → List ℕ → List PlannedMachine
machines_at s nodes = map (machine_at s) nodes
