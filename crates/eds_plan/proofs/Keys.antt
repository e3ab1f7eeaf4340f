-- The table of transitions goes by states and triggers.
use Rattle.std.proofs.Common.{◌≡◌, ℕ, ◌+◌, List, [], ◌∷◌, ◌++◌, Bool, true, false, refl, ap, ◌∙◌, append_assoc, arith}
use Rattle.std.proofs.Math.Path.{fun_ext}
use Rattle.std.proofs.lemmas.Bool.Decides.{nat_tests}
use Rattle.std.specs.Prelude.{◌&&◌, ◌==◌, if◌then◌else◌}
use Rattle.std.specs.Ordering.{nat_cmp, ordering_then, is_eq}
use Rattle.std.specs.declared.cmp.Ordering.{Ordering}
use Rattle.std.specs.declared.cmp.Ordering.TheVariants.{Less, Equal, Greater}
use Rattle.eds_plan.specs.declared.activity.Op.TheVariants as op
use Rattle.eds_plan.specs.declared.machine.Transition.{Transition}
use Rattle.eds_plan.specs.declared.machine.Trigger.{Trigger}
use Rattle.eds_plan.specs.declared.machine.Trigger.TheVariants as trigger
use Rattle.eds_plan.specs.declared.transitions.Key.{Key}
use Rattle.eds_plan.specs.Matching.{same_trigger, positions_from, matching}
use Rattle.eds_plan.specs.Places.{key_of, same_key, has_key}

pub eq_num : (a b : ℕ) → is_eq (nat_cmp a b) ≡ (a == b)
eq_num a b = grind (arith, nat_tests)

eq_then : (a b : Ordering) → is_eq (ordering_then a b) ≡ (is_eq a && is_eq b)
eq_then Less b = refl
eq_then Equal b = refl
eq_then Greater b = refl

one : (a b s r : ℕ) → is_eq (ordering_then (nat_cmp a b) (nat_cmp s r)) ≡ ((a == b) && (s == r))
one a b s r = eq_then (nat_cmp a b) (nat_cmp s r) ∙ ap (λ x. x && is_eq (nat_cmp s r)) (eq_num a b) ∙ ap (λ x. (a == b) && x) (eq_num s r)

and_assoc : (a b c : Bool) → (a && (b && c)) ≡ ((a && b) && c)
and_assoc true b c = refl
and_assoc false b c = refl

both : (f g m n s r : ℕ) → is_eq (ordering_then (nat_cmp f g) (ordering_then (nat_cmp m n) (nat_cmp s r))) ≡ (((f == g) && (m == n)) && (s == r))
both f g m n s r = eq_then (nat_cmp f g) (ordering_then (nat_cmp m n) (nat_cmp s r)) ∙ ap (λ x. x && is_eq (ordering_then (nat_cmp m n) (nat_cmp s r))) (eq_num f g) ∙ ap (λ x. (f == g) && x) (one m n s r) ∙ and_assoc (f == g) (m == n) (s == r)

-- a key is had exactly where the state is left on the trigger
keyed : (s r : ℕ) (t u : Trigger) → same_key (key_of s t) (key_of r u) ≡ (same_trigger t u && (s == r))
keyed s r trigger.Start trigger.Start = eq_num s r
keyed s r trigger.Start (trigger.Command g n) = refl
keyed s r trigger.Start (trigger.Timer l) = refl
keyed s r trigger.Start (trigger.Param g n op.Command) = refl
keyed s r trigger.Start (trigger.Param g n op.Get) = refl
keyed s r trigger.Start (trigger.Param g n op.Set) = refl
keyed s r trigger.Start (trigger.Param g n op.Val) = refl
keyed s r (trigger.Command f m) trigger.Start = refl
keyed s r (trigger.Command f m) (trigger.Command g n) = both f g m n s r
keyed s r (trigger.Command f m) (trigger.Timer l) = refl
keyed s r (trigger.Command f m) (trigger.Param g n op.Command) = refl
keyed s r (trigger.Command f m) (trigger.Param g n op.Get) = refl
keyed s r (trigger.Command f m) (trigger.Param g n op.Set) = refl
keyed s r (trigger.Command f m) (trigger.Param g n op.Val) = refl
keyed s r (trigger.Timer k) trigger.Start = refl
keyed s r (trigger.Timer k) (trigger.Command g n) = refl
keyed s r (trigger.Timer k) (trigger.Timer l) = one k l s r
keyed s r (trigger.Timer k) (trigger.Param g n op.Command) = refl
keyed s r (trigger.Timer k) (trigger.Param g n op.Get) = refl
keyed s r (trigger.Timer k) (trigger.Param g n op.Set) = refl
keyed s r (trigger.Timer k) (trigger.Param g n op.Val) = refl
keyed s r (trigger.Param f m op.Command) trigger.Start = refl
keyed s r (trigger.Param f m op.Get) trigger.Start = refl
keyed s r (trigger.Param f m op.Set) trigger.Start = refl
keyed s r (trigger.Param f m op.Val) trigger.Start = refl
keyed s r (trigger.Param f m op.Command) (trigger.Command g n) = refl
keyed s r (trigger.Param f m op.Get) (trigger.Command g n) = refl
keyed s r (trigger.Param f m op.Set) (trigger.Command g n) = refl
keyed s r (trigger.Param f m op.Val) (trigger.Command g n) = refl
keyed s r (trigger.Param f m op.Command) (trigger.Timer l) = refl
keyed s r (trigger.Param f m op.Get) (trigger.Timer l) = refl
keyed s r (trigger.Param f m op.Set) (trigger.Timer l) = refl
keyed s r (trigger.Param f m op.Val) (trigger.Timer l) = refl
keyed s r (trigger.Param f m op.Command) (trigger.Param g n op.Command) = both f g m n s r
keyed s r (trigger.Param f m op.Command) (trigger.Param g n op.Get) = refl
keyed s r (trigger.Param f m op.Command) (trigger.Param g n op.Set) = refl
keyed s r (trigger.Param f m op.Command) (trigger.Param g n op.Val) = refl
keyed s r (trigger.Param f m op.Get) (trigger.Param g n op.Command) = refl
keyed s r (trigger.Param f m op.Get) (trigger.Param g n op.Get) = both f g m n s r
keyed s r (trigger.Param f m op.Get) (trigger.Param g n op.Set) = refl
keyed s r (trigger.Param f m op.Get) (trigger.Param g n op.Val) = refl
keyed s r (trigger.Param f m op.Set) (trigger.Param g n op.Command) = refl
keyed s r (trigger.Param f m op.Set) (trigger.Param g n op.Get) = refl
keyed s r (trigger.Param f m op.Set) (trigger.Param g n op.Set) = both f g m n s r
keyed s r (trigger.Param f m op.Set) (trigger.Param g n op.Val) = refl
keyed s r (trigger.Param f m op.Val) (trigger.Param g n op.Command) = refl
keyed s r (trigger.Param f m op.Val) (trigger.Param g n op.Get) = refl
keyed s r (trigger.Param f m op.Val) (trigger.Param g n op.Set) = refl
keyed s r (trigger.Param f m op.Val) (trigger.Param g n op.Val) = both f g m n s r

-- the positions of the transitions with a state's and a trigger's key
pub positions_keyed : (s : ℕ) (t : Trigger) (xs : List Transition) → positions_from 0 (has_key (key_of s t)) xs ≡ matching s t xs
positions_keyed s t xs = ap (λ p. positions_from 0 p xs) (fun_ext (λ (x : Transition). keyed x.from s x.event t))

-- one more transition of a table
pub positions_step : (q : Key) (k : Key) (n : ℕ) (x : Transition) (xs : List Transition) (old new all : List ℕ) → k ≡ key_of x.from x.event → old ++ positions_from n (has_key q) (x ∷ xs) ≡ all → new ≡ (if same_key k q then old ++ n ∷ [] else old) → new ++ positions_from (n + 1) (has_key q) xs ≡ all
positions_step q k n x xs old new all e h f =
    ap (λ ns. ns ++ positions_from (n + 1) (has_key q) xs) f ∙ ap (λ j. (if same_key j q then old ++ n ∷ [] else old) ++ positions_from (n + 1) (has_key q) xs) e ∙ go (same_key (key_of x.from x.event) q) ∙ h
  where
    go : (b : Bool) → (if b then old ++ n ∷ [] else old) ++ positions_from (n + 1) (has_key q) xs ≡ old ++ (if b then n ∷ positions_from (n + 1) (has_key q) xs else positions_from (n + 1) (has_key q) xs)
    go true = append_assoc old (n ∷ []) (positions_from (n + 1) (has_key q) xs)
    go false = refl
