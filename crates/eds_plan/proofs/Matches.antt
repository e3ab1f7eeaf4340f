-- The list of positions is exactly that of the transitions from a state with a trigger.
use Rattle.std.proofs.Common.{◌≡◌, ◌<◌, ℕ, zero, suc, ◌+◌, List, [], ◌∷◌, Bool, true, false, Some, refl, sym, ap, subst, ◌∙◌, arith, inl, inr, slice_get}
use Rattle.std.specs.Prelude.{◌&&◌, ◌==◌, ◌≤◌, if◌then◌else◌}
use Rattle.std.specs.List.{AllByRecursion}
use Rattle.std.proofs.lemmas.Bool.Decides.{nat_tests}
use Rattle.eds_bits.specs.Lists.{HasOne}
use Rattle.eds_plan.specs.declared.activity.Op.{Op}
use Rattle.eds_plan.specs.declared.activity.Op.TheVariants as op
use Rattle.eds_plan.specs.declared.machine.Transition.{Transition}
use Rattle.eds_plan.specs.declared.machine.Trigger.{Trigger}
use Rattle.eds_plan.specs.declared.machine.Trigger.TheVariants as trigger
use Rattle.eds_plan.specs.Matching.{same_op, same_trigger, waits_for, positions_from, matching, Ascends, MatchingIsExact}

same_nums : (f m g n : ℕ) → ((f == g) && (m == n)) ≡ true → (f ≡ g) × (m ≡ n)
same_nums f m g n h = (grind (arith, nat_tests), grind (arith, nat_tests))

num_self : (f : ℕ) → (f == f) ≡ true
num_self f = grind (arith, nat_tests)

op_is : (o q : Op) → same_op o q ≡ true → o ≡ q
op_is op.Command op.Command h = refl
op_is op.Command op.Get h = absurd cc
op_is op.Command op.Set h = absurd cc
op_is op.Command op.Val h = absurd cc
op_is op.Get op.Command h = absurd cc
op_is op.Get op.Get h = refl
op_is op.Get op.Set h = absurd cc
op_is op.Get op.Val h = absurd cc
op_is op.Set op.Command h = absurd cc
op_is op.Set op.Get h = absurd cc
op_is op.Set op.Set h = refl
op_is op.Set op.Val h = absurd cc
op_is op.Val op.Command h = absurd cc
op_is op.Val op.Get h = absurd cc
op_is op.Val op.Set h = absurd cc
op_is op.Val op.Val h = refl

op_self : (o : Op) → same_op o o ≡ true
op_self op.Command = refl
op_self op.Get = refl
op_self op.Set = refl
op_self op.Val = refl

first_true : (a b : Bool) → (a && b) ≡ true → a ≡ true
first_true true b h = refl
first_true false b h = h

second_true : (a b : Bool) → (a && b) ≡ true → b ≡ true
second_true true b h = h
second_true false b h = absurd cc

both_true : (a b : Bool) → a ≡ true → b ≡ true → (a && b) ≡ true
both_true true b e h = h
both_true false b e h = e

trigger_is : (t u : Trigger) → same_trigger t u ≡ true → t ≡ u
trigger_is trigger.Start trigger.Start h = refl
trigger_is trigger.Start (trigger.Command g n) h = absurd cc
trigger_is trigger.Start (trigger.Param g n q) h = absurd cc
trigger_is trigger.Start (trigger.Timer l) h = absurd cc
trigger_is (trigger.Command f m) trigger.Start h = absurd cc
trigger_is (trigger.Command f m) (trigger.Command g n) h = let e = same_nums f m g n h in ap (λ x. trigger.Command x m) e.0 ∙ ap (trigger.Command g) e.1
trigger_is (trigger.Command f m) (trigger.Param g n q) h = absurd cc
trigger_is (trigger.Command f m) (trigger.Timer l) h = absurd cc
trigger_is (trigger.Param f m o) trigger.Start h = absurd cc
trigger_is (trigger.Param f m o) (trigger.Command g n) h = absurd cc
trigger_is (trigger.Param f m o) (trigger.Param g n q) h =
    let e = same_nums f m g n (second_true (same_op o q) ((f == g) && (m == n)) h) in
    ap (λ x. trigger.Param x m o) e.0 ∙ ap (λ x. trigger.Param g x o) e.1 ∙ ap (trigger.Param g n) (op_is o q (first_true (same_op o q) ((f == g) && (m == n)) h))
trigger_is (trigger.Param f m o) (trigger.Timer l) h = absurd cc
trigger_is (trigger.Timer k) trigger.Start h = absurd cc
trigger_is (trigger.Timer k) (trigger.Command g n) h = absurd cc
trigger_is (trigger.Timer k) (trigger.Param g n q) h = absurd cc
trigger_is (trigger.Timer k) (trigger.Timer l) h = let e : k ≡ l = grind (arith, nat_tests) in ap trigger.Timer e

trigger_self : (t : Trigger) → same_trigger t t ≡ true
trigger_self trigger.Start = refl
trigger_self (trigger.Command f m) = both_true (f == f) (m == m) (num_self f) (num_self m)
trigger_self (trigger.Param f m o) = both_true (same_op o o) ((f == f) && (m == m)) (op_self o) (both_true (f == f) (m == m) (num_self f) (num_self m))
trigger_self (trigger.Timer k) = num_self k

-- ---- positions

-- the number is one of them
abbrev IsIn : ℕ → List ℕ → Type 0
IsIn i ns = HasOne (λ n. n ≡ i) ns

-- position i of the list, whose first has position n, is of a transition that the test holds of
abbrev IsOf : ℕ → (Transition → Bool) → List Transition → ℕ → Type 0
IsOf n p xs i = (k : ℕ) × (x : Transition) × (i ≡ n + k) × (slice_get xs k ≡ Some x) × (p x ≡ true)

later : (n : ℕ) (p : Transition → Bool) (y : Transition) (xs : List Transition) (i : ℕ) → IsOf (n + 1) p xs i → IsOf n p (y ∷ xs) i
later n p y xs i h = (suc h.0, h.1, omega (arith, h.2), h.3, h.4)

positions_are : (n : ℕ) (p : Transition → Bool) (xs : List Transition) (i : ℕ) → IsIn i (positions_from n p xs) → IsOf n p xs i
positions_are n p [] i h = absurd h
positions_are n p (x ∷ xs) i h = go (p x) refl (λ k. later n p x xs i (positions_are (n + 1) p xs i k)) h
  where
    go : (b : Bool) → p x ≡ b → (IsIn i (positions_from (n + 1) p xs) → IsOf n p (x ∷ xs) i) → IsIn i (if b then n ∷ positions_from (n + 1) p xs else positions_from (n + 1) p xs) → IsOf n p (x ∷ xs) i
    go true e rest (inl f) = (0, x, omega (arith, f), refl, e)
    go true e rest (inr k) = rest k
    go false e rest k = rest k

positions_have : (n : ℕ) (p : Transition → Bool) (xs : List Transition) (k : ℕ) (x : Transition) → slice_get xs k ≡ Some x → p x ≡ true → IsIn (n + k) (positions_from n p xs)
positions_have n p [] k x at e = absurd cc
positions_have n p (y ∷ xs) zero x at e = go (p y) (let f : y ≡ x = cc in ap p f ∙ e)
  where
    go : (b : Bool) → b ≡ true → IsIn (n + 0) (if b then n ∷ positions_from (n + 1) p xs else positions_from (n + 1) p xs)
    go true f = inl (omega arith)
    go false f = absurd cc
positions_have n p (y ∷ xs) (suc k) x at e = go (p y) (let j : (n + 1) + k ≡ n + suc k = omega arith in subst (λ m. IsIn m (positions_from (n + 1) p xs)) j (positions_have (n + 1) p xs k x at e))
  where
    go : (b : Bool) → IsIn (n + suc k) (positions_from (n + 1) p xs) → IsIn (n + suc k) (if b then n ∷ positions_from (n + 1) p xs else positions_from (n + 1) p xs)
    go true h = inr h
    go false h = h

weaker : (n m : ℕ) (ns : List ℕ) → n ≤ m → AllByRecursion (λ k. m ≤ k) ns → AllByRecursion (λ k. n ≤ k) ns
weaker n m [] le h = tt
weaker n m (k ∷ ks) le h = (omega (arith, h.0), weaker n m ks le h.1)

positions_from_here : (n : ℕ) (p : Transition → Bool) (xs : List Transition) → AllByRecursion (λ k. n ≤ k) (positions_from n p xs)
positions_from_here n p [] = tt
positions_from_here n p (x ∷ xs) = go (p x) (weaker n (n + 1) (positions_from (n + 1) p xs) (omega arith) (positions_from_here (n + 1) p xs))
  where
    go : (b : Bool) → AllByRecursion (λ k. n ≤ k) (positions_from (n + 1) p xs) → AllByRecursion (λ k. n ≤ k) (if b then n ∷ positions_from (n + 1) p xs else positions_from (n + 1) p xs)
    go true h = (omega arith, h)
    go false h = h

strict : (n : ℕ) (ns : List ℕ) → AllByRecursion (λ k. n + 1 ≤ k) ns → AllByRecursion (λ k. n < k) ns
strict n [] h = tt
strict n (k ∷ ks) h = (omega (arith, h.0), strict n ks h.1)

ascends : (n : ℕ) (p : Transition → Bool) (xs : List Transition) → Ascends (positions_from n p xs)
ascends n p [] = tt
ascends n p (x ∷ xs) = go (p x) (strict n (positions_from (n + 1) p xs) (positions_from_here (n + 1) p xs)) (ascends (n + 1) p xs)
  where
    go : (b : Bool) → AllByRecursion (λ k. n < k) (positions_from (n + 1) p xs) → Ascends (positions_from (n + 1) p xs) → Ascends (if b then n ∷ positions_from (n + 1) p xs else positions_from (n + 1) p xs)
    go true h k = (h, k)
    go false h k = k

pub matching_is_exact : MatchingIsExact
matching_is_exact state t xs = (
  λ i. (
    λ h.
        let o = positions_are 0 (waits_for state t) xs i h in
        let x = o.1 in
        let e : o.0 ≡ i = omega (arith, o.2) in
        (x, ap (slice_get xs) (sym e) ∙ o.3, (let f : (x.from == state) ≡ true = second_true (same_trigger x.event t) (x.from == state) o.4 in grind (arith, nat_tests)), trigger_is x.event t (first_true (same_trigger x.event t) (x.from == state) o.4)),
    λ h.
        let x = h.0 in
        let j : 0 + i ≡ i = omega arith in
        subst (λ n. IsIn n (matching state t xs)) j (positions_have 0 (waits_for state t) xs i x h.1 (both_true (same_trigger x.event t) (x.from == state) (ap (λ u. same_trigger x.event u) (sym h.3) ∙ trigger_self x.event) (ap (λ s. x.from == s) (sym h.2) ∙ num_self x.from))),
  ),
  ascends 0 (waits_for state t) xs,
)
