-- The elements of state machines (CCSDS 876.0-B, state machines).
use Rattle.std.specs.Prelude.{ℕ, List, filter, map, codes, Bool, ◌||◌, Option, slice_get}
use Rattle.eds_base.specs.Reading.{◌>>=◌}
use Rattle.eds_tree.specs.declared.tree.Node.{Node}
use Rattle.eds_tree.specs.Trees.{children_at, is_named}
use Rattle.eds_names.specs.Positions.{place_among}
use Rattle.eds_read_act.specs.Inside.{text_at, first_where}

-- ---- states

-- a state: that in which the machine begins, one between, or one that no transition leaves
abbrev pub is_state : List Node → ℕ → Bool
is_state t n = is_named t (codes "EntryState") n || (is_named t (codes "State") n || is_named t (codes "ExitState") n)

-- the states of a machine, in document order; the number of a state is its position
abbrev pub states_of : List Node → (machine : ℕ) → List ℕ
states_of t machine = filter (is_state t) (children_at t machine)

-- their names
abbrev pub state_names : List Node → (machine : ℕ) → List (List ℕ)
state_names t machine = map (λ n. text_at t n (codes "name")) (states_of t machine)

-- the number of the state that an attribute of an element names
abbrev pub state_number : List Node → (machine : ℕ) → ℕ → (attribute : List ℕ) → Option ℕ
state_number t machine n attribute = place_among (state_names t machine) (text_at t n attribute)

-- that state
abbrev pub state_named : List Node → (machine : ℕ) → ℕ → (attribute : List ℕ) → Option ℕ
state_named t machine n attribute = state_number t machine n attribute >>= λ k. slice_get (states_of t machine) k

-- the states in which a machine begins
abbrev pub entry_states : List Node → (machine : ℕ) → List ℕ
entry_states t machine = filter (is_named t (codes "EntryState")) (children_at t machine)

-- what is done where a state is entered, and where it is left
abbrev pub is_state_action : List Node → ℕ → Bool
is_state_action t n = is_named t (codes "OnEntry") n || is_named t (codes "OnExit") n

-- those of one state
abbrev pub state_actions : List Node → (state : ℕ) → List ℕ
state_actions t state = filter (is_state_action t) (children_at t state)

-- ---- transitions

-- the transitions of a machine, in document order
abbrev pub transitions_of : List Node → (machine : ℕ) → List ℕ
transitions_of t machine = filter (is_named t (codes "Transition")) (children_at t machine)

-- an event: a primitive that arrives, or a time that has gone by
abbrev pub is_event : List Node → ℕ → Bool
is_event t n = is_named t (codes "OnCommandPrimitive") n || (is_named t (codes "OnParameterPrimitive") n || is_named t (codes "OnTimer") n)

-- what a transition waits for, where it waits for an event
abbrev pub event_of : List Node → (transition : ℕ) → Option ℕ
event_of t transition = first_where (is_event t) (children_at t transition)

-- its guard, and what it does
abbrev pub is_guard_or_do : List Node → ℕ → Bool
is_guard_or_do t n = is_named t (codes "Guard") n || is_named t (codes "Do") n

-- those of one transition
abbrev pub guarded_and_done : List Node → (transition : ℕ) → List ℕ
guarded_and_done t transition = filter (is_guard_or_do t) (children_at t transition)
