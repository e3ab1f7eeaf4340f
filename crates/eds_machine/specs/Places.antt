-- The first open transition of some places.
use Rattle.std.specs.Prelude.{ℕ, List, [], ◌∷◌, Bool, if◌then◌else◌, Option, Some, None, slice_get}
use Rattle.eds_plan.specs.declared.machine.Transition.{Transition}

-- a transition, if there is one and it is open
abbrev pub if_open : (Transition → Bool) → Option Transition → Option Transition
if_open p None = None
if_open p (Some x) = if p x then Some x else None

-- the transition at a place, if it is there and open
abbrev pub open_at : List Transition → (Transition → Bool) → ℕ → Option Transition
open_at ts p i = if_open p (slice_get ts i)

-- a transition, if there is one, or else the next
abbrev pub or_next : Option Transition → Option Transition → Option Transition
or_next None next = next
or_next (Some x) next = Some x

-- the first of some places whose transition is open
abbrev pub first_at : List Transition → (Transition → Bool) → List ℕ → Option Transition
first_at ts p [] = None
first_at ts p (i ∷ is) = or_next (open_at ts p i) (first_at ts p is)
