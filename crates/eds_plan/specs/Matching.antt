-- Which transitions leave a state on a trigger.
use Rattle.std.specs.Prelude.{◌≡◌, ◌<◌, ℕ, ◌+◌, List, [], ◌∷◌, Bool, true, false, ◌&&◌, ◌==◌, if◌then◌else◌, Option, Some, None, slice_get, ◌↔◌}
use Rattle.std.specs.List.{AllByRecursion, filter_map}
use Rattle.eds_bits.specs.Lists.{HasOne}
use Rattle.eds_plan.specs.declared.activity.Op.{Op}
use Rattle.eds_plan.specs.declared.activity.Op.TheVariants as op
use Rattle.eds_plan.specs.declared.machine.Transition.{Transition}
use Rattle.eds_plan.specs.declared.machine.Trigger.{Trigger}
use Rattle.eds_plan.specs.declared.machine.Trigger.TheVariants as trigger

-- two operations are one
abbrev pub same_op : Op → Op → Bool
same_op op.Command op.Command = true
same_op op.Command op.Get = false
same_op op.Command op.Set = false
same_op op.Command op.Val = false
same_op op.Get op.Command = false
same_op op.Get op.Get = true
same_op op.Get op.Set = false
same_op op.Get op.Val = false
same_op op.Set op.Command = false
same_op op.Set op.Get = false
same_op op.Set op.Set = true
same_op op.Set op.Val = false
same_op op.Val op.Command = false
same_op op.Val op.Get = false
same_op op.Val op.Set = false
same_op op.Val op.Val = true

-- two triggers are one
abbrev pub same_trigger : Trigger → Trigger → Bool
same_trigger trigger.Start trigger.Start = true
same_trigger (trigger.Command f m) (trigger.Command g n) = (f == g) && (m == n)
same_trigger (trigger.Param f m o) (trigger.Param g n q) = same_op o q && ((f == g) && (m == n))
same_trigger (trigger.Timer k) (trigger.Timer l) = k == l
same_trigger _ _ = false

-- the transition leaves the state and waits for the trigger
abbrev pub waits_for : ℕ → Trigger → Transition → Bool
waits_for state t x = same_trigger x.event t && (x.from == state)

-- the positions of the transitions that a test holds of, the first of the list having position n
abbrev pub positions_from : ℕ → (Transition → Bool) → List Transition → List ℕ
positions_from n p [] = []
positions_from n p (x ∷ xs) = if p x then n ∷ positions_from (n + 1) p xs else positions_from (n + 1) p xs

-- the positions of the transitions that leave the state and wait for the trigger, in document order
abbrev pub matching : ℕ → Trigger → List Transition → List ℕ
matching state t xs = positions_from 0 (waits_for state t) xs

-- the nanoseconds that a timer waits
abbrev pub nanoseconds : Trigger → Option ℕ
nanoseconds (trigger.Timer k) = Some k
nanoseconds _ = None

-- the waiting times of the timers of the transitions that leave the state, in document order
abbrev pub timers : ℕ → List Transition → List ℕ
timers state xs = filter_map (λ (x : Transition). if x.from == state then nanoseconds x.event else None) xs

-- ---- what the lists of positions and of waiting times are

-- numbers that grow
abbrev pub Ascends : List ℕ → Type 0
Ascends [] = Unit {0}
Ascends (n ∷ ns) = AllByRecursion (λ m. n < m) ns × Ascends ns

-- it has exactly the positions of the transitions from that state with that trigger, in document order
abbrev pub MatchingIsExact : Type 0
MatchingIsExact = (state : ℕ) (t : Trigger) (xs : List Transition) →
    ((i : ℕ) → HasOne (λ n. n ≡ i) (matching state t xs) ↔ ((x : Transition) × (slice_get xs i ≡ Some x) × (x.from ≡ state) × (x.event ≡ t))) × Ascends (matching state t xs)

-- it has exactly the waiting times of the transitions from that state that wait for a timer
abbrev pub TimersAreExact : Type 0
TimersAreExact = (state k : ℕ) (xs : List Transition) → HasOne (λ n. n ≡ k) (timers state xs) ↔ HasOne (λ (x : Transition). (x.from ≡ state) × (x.event ≡ trigger.Timer k)) xs
