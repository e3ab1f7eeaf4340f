-- How the table of transitions keeps their positions and their timers.
use Rattle.std.specs.Prelude.{◌≡◌, ℕ, List, [], Bool, unwrap_or}
use Rattle.std.specs.Ordering.{nat_cmp, ordering_then, is_eq}
use Rattle.std.specs.declared.cmp.Ordering.{Ordering}
use Rattle.std.specs.BTreeMap.{BTreeMap, get}
use Rattle.eds_plan.specs.declared.activity.Op.{Op}
use Rattle.eds_plan.specs.declared.activity.Op.TheVariants as op
use Rattle.eds_plan.specs.declared.machine.Transition.{Transition}
use Rattle.eds_plan.specs.declared.machine.Trigger.{Trigger}
use Rattle.eds_plan.specs.declared.machine.Trigger.TheVariants as trigger
use Rattle.eds_plan.specs.declared.transitions.Key.{Key}
use Rattle.eds_plan.specs.Matching.{positions_from, timers}

-- the sort of a parameter's trigger
abbrev pub sort_of : Op → ℕ
sort_of op.Command = 3
sort_of op.Get = 4
sort_of op.Set = 5
sort_of op.Val = 6

-- a state and a trigger as the table has them
abbrev pub key_of : ℕ → Trigger → Key
key_of state trigger.Start = record { sort = 0; first = 0; second = 0; state = state }
key_of state (trigger.Command end member) = record { sort = 1; first = end; second = member; state = state }
key_of state (trigger.Timer n) = record { sort = 2; first = n; second = 0; state = state }
key_of state (trigger.Param end member o) = record { sort = sort_of o; first = end; second = member; state = state }

-- the order of keys
abbrev pub key_cmp : Key → Key → Ordering
key_cmp a b = ordering_then (nat_cmp a.sort b.sort) (ordering_then (nat_cmp a.first b.first) (ordering_then (nat_cmp a.second b.second) (nat_cmp a.state b.state)))

-- two keys are one
abbrev pub same_key : Key → Key → Bool
same_key a b = is_eq (key_cmp a b)

-- the items that are noted under a key
abbrev pub noted_under : {K X : Type 0} → (K → K → Ordering) → BTreeMap K (List X) → K → List X
noted_under cmp m q = unwrap_or (get cmp m q) []

-- the transition has the key
abbrev pub has_key : Key → Transition → Bool
has_key q x = same_key (key_of x.from x.event) q

-- for each key the positions of the transitions that have it
abbrev pub TellsPlaces : BTreeMap Key (List ℕ) → List Transition → Type 0
TellsPlaces m xs = (q : Key) → noted_under key_cmp m q ≡ positions_from 0 (has_key q) xs

-- for each state the waiting times of its timers
abbrev pub TellsTimers : BTreeMap ℕ (List ℕ) → List Transition → Type 0
TellsTimers m xs = (state : ℕ) → noted_under nat_cmp m state ≡ timers state xs
