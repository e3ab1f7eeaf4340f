-- What state machines break: what they name is there, what is done fits, and they begin in one state.
use Rattle.std.specs.Prelude.{ℕ, ◌==◌, ◌&&◌, ◌||◌, not, List, [], ◌++◌, length, codes, Bool, false, is_none, if◌then◌else◌, Option, Some, None}
use Rattle.std.specs.List.{flat_map}
use Rattle.eds_base.specs.declared.refusal.Refusal.{Refusal}
use Rattle.eds_base.specs.declared.rule.Rule.TheVariants.{BadReference, BadMachine, BadTimer}
use Rattle.eds_tree.specs.declared.tree.Node.{Node}
use Rattle.eds_tree.specs.Trees.{is_named}
use Rattle.eds_read_act.specs.Activities.{bad_references_in, mismatches_in}
use Rattle.eds_read_act.specs.BadReference.{broken_if}
use Rattle.eds_read_act.specs.Events.{carried_at, carried_if, lacks_operation_if, is_bad_timer}
use Rattle.eds_read_act.specs.Machines.{states_of, state_number, state_named, entry_states, state_actions, transitions_of, event_of, guarded_and_done}
use Rattle.eds_read_act.specs.Scopes.{Scope, with_known, with_arguments}

-- ---- transitions

-- a transition leaves or enters a state that the machine doesn't have
abbrev pub lacks_state : List Node → (machine transition : ℕ) → Bool
lacks_state t machine x = is_none (state_number t machine x (codes "fromState")) || is_none (state_number t machine x (codes "toState"))

-- A state can't be left so: it is an ExitState, or it isn't the EntryState and the transition waits for no event.
abbrev pub cannot_leave : List Node → (event : Option ℕ) → (state : Option ℕ) → Bool
cannot_leave t event None = false
cannot_leave t event (Some state) = is_named t (codes "ExitState") state || (is_none event && not (is_named t (codes "EntryState") state))

-- the transition breaks BadMachine
abbrev pub is_bad_transition : Scope → (machine transition : ℕ) → Bool
is_bad_transition s machine x = cannot_leave s.tree (event_of s.tree x) (state_named s.tree machine x (codes "fromState")) || lacks_operation_if s (event_of s.tree x)

-- an event names what isn't there, or a read-only parameter that is to be set; or its time is out of range
abbrev pub event_breaks : (file : ℕ) → Scope → Option ℕ → List Refusal
event_breaks file s None = []
event_breaks file s (Some e) = broken_if BadReference file e (is_none (carried_at s e)) ++ broken_if BadTimer file e (is_bad_timer s.tree e)

-- what breaks TypeMismatch in some elements; nothing is judged below an element that breaks BadReference
abbrev pub mismatches_unless : Bool → (file : ℕ) → Scope → List ℕ → List Refusal
mismatches_unless above file s ns = if above then [] else flat_map (mismatches_in file s) ns

-- the scope in which the guard and the action of a transition stand: an ArgumentRef names what the event carries
abbrev pub event_scope : Scope → (transition : ℕ) → Scope
event_scope s x = with_known s (carried_if s (event_of s.tree x))

-- what breaks BadReference or TypeMismatch in some elements of a transition, which breaks BadReference itself or not
abbrev pub breaks_inside : (above : Bool) → (file : ℕ) → Scope → List ℕ → List Refusal
breaks_inside above file s ns = flat_map (bad_references_in file s) ns ++ mismatches_unless above file s ns

-- what breaks BadReference or TypeMismatch in the guard and the action of a transition, which breaks BadReference itself or not
abbrev pub inner_breaks : (above : Bool) → (file : ℕ) → Scope → (transition : ℕ) → List Refusal
inner_breaks above file s x = breaks_inside above file (event_scope s x) (guarded_and_done s.tree x)

-- all that breaks a rule in a transition
abbrev pub transition_breaks : (file : ℕ) → Scope → (machine transition : ℕ) → List Refusal
transition_breaks file s machine x =
    broken_if BadReference file x (lacks_state s.tree machine x)
    ++ broken_if BadMachine file x (is_bad_transition s machine x)
    ++ event_breaks file s (event_of s.tree x)
    ++ inner_breaks (lacks_state s.tree machine x) file s x

-- ---- states

-- all that breaks a rule in what is done where a state is entered and left; there are no arguments
abbrev pub action_breaks : (file : ℕ) → Scope → ℕ → List Refusal
action_breaks file s n = bad_references_in file (with_arguments s []) n ++ mismatches_in file (with_arguments s []) n

-- the same of both actions of a state
abbrev pub state_breaks : (file : ℕ) → Scope → (state : ℕ) → List Refusal
state_breaks file s state = flat_map (action_breaks file s) (state_actions s.tree state)

-- ---- machines

-- a machine doesn't begin in exactly one state
abbrev pub lacks_entry : List Node → (machine : ℕ) → Bool
lacks_entry t machine = not (length (entry_states t machine) == 1)

-- all that breaks a rule in the states of a machine, which begins in exactly one of them
abbrev pub state_breaks_of : (file : ℕ) → Scope → (machine : ℕ) → List Refusal
state_breaks_of file s machine = broken_if BadMachine file machine (lacks_entry s.tree machine) ++ flat_map (state_breaks file s) (states_of s.tree machine)

-- all that breaks a rule in the transitions of a machine
abbrev pub transition_breaks_of : (file : ℕ) → Scope → (machine : ℕ) → List Refusal
transition_breaks_of file s machine = flat_map (transition_breaks file s machine) (transitions_of s.tree machine)

-- all that breaks a rule in a machine
abbrev pub machine_breaks_at : (file : ℕ) → Scope → (machine : ℕ) → List Refusal
machine_breaks_at file s machine = state_breaks_of file s machine ++ transition_breaks_of file s machine

-- all that breaks BadReference, TypeMismatch, BadMachine and BadTimer in the machines of a component, whose elements are given
abbrev pub machine_breaks : (file : ℕ) → Scope → (nodes : List ℕ) → List Refusal
machine_breaks file s nodes = flat_map (machine_breaks_at file s) nodes
