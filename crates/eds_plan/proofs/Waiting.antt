-- The waiting times of a state are exactly those of its timers.
use Rattle.std.proofs.Common.{◌≡◌, ℕ, List, [], ◌∷◌, ◌++◌, Bool, true, false, Option, Some, None, refl, ap, ◌∙◌, append_assoc, arith, inl, inr}
use Rattle.std.specs.Prelude.{◌==◌, if◌then◌else◌}
use Rattle.std.specs.List.{cons_option}
use Rattle.std.specs.Ordering.{nat_cmp, is_eq}
use Rattle.std.proofs.lemmas.Bool.Decides.{nat_tests}
use Rattle.eds_bits.specs.Lists.{HasOne}
use Rattle.eds_plan.specs.declared.machine.Transition.{Transition}
use Rattle.eds_plan.specs.declared.machine.Trigger.{Trigger}
use Rattle.eds_plan.specs.declared.machine.Trigger.TheVariants as trigger
use Rattle.eds_plan.specs.Matching.{nanoseconds, timers, TimersAreExact}
use Rattle.eds_plan.proofs.Keys.{eq_num}

-- one more transition with a timer
pub timers_step : (s k : ℕ) (x : Transition) (xs : List Transition) (old new all : List ℕ) → old ++ timers s (x ∷ xs) ≡ all → x.event ≡ trigger.Timer k → new ≡ (if is_eq (nat_cmp x.from s) then old ++ k ∷ [] else old) → new ++ timers s xs ≡ all
timers_step s k x xs old new all h e f = ap (λ ns. ns ++ timers s xs) f ∙ ap (λ b. (if b then old ++ k ∷ [] else old) ++ timers s xs) (eq_num x.from s) ∙ go (x.from == s) ∙ ap (λ t. old ++ cons_option (if x.from == s then nanoseconds t else None) (timers s xs)) e' ∙ h
  where
    e' : trigger.Timer k ≡ x.event
    e' = cc

    go : (b : Bool) → (if b then old ++ k ∷ [] else old) ++ timers s xs ≡ old ++ cons_option (if b then Some k else None) (timers s xs)
    go true = append_assoc old (k ∷ []) (timers s xs)
    go false = refl

-- one more transition without a timer
pub timers_skip : (s : ℕ) (x : Transition) (xs : List Transition) (old all : List ℕ) → old ++ timers s (x ∷ xs) ≡ all → nanoseconds x.event ≡ None → old ++ timers s xs ≡ all
timers_skip s x xs old all h e = go (x.from == s) ∙ ap (λ o. old ++ cons_option (if x.from == s then o else None) (timers s xs)) (let f : None ≡ nanoseconds x.event = cc in f) ∙ h
  where
    go : (b : Bool) → old ++ timers s xs ≡ old ++ cons_option (if b then None else None) (timers s xs)
    go true = refl
    go false = refl

-- the transition leaves the state on a timer of so many nanoseconds
abbrev Waits : ℕ → ℕ → Transition → Type 0
Waits s k x = (x.from ≡ s) × (x.event ≡ trigger.Timer k)

timer_is : (t : Trigger) (k : ℕ) → nanoseconds t ≡ Some k → t ≡ trigger.Timer k
timer_is trigger.Start k e = absurd cc
timer_is (trigger.Command f m) k e = absurd cc
timer_is (trigger.Param f m o) k e = absurd cc
timer_is (trigger.Timer l) k e = let f : l ≡ k = cc in ap trigger.Timer f

waits_is : (s k : ℕ) (x : Transition) → (if x.from == s then nanoseconds x.event else None) ≡ Some k → Waits s k x
waits_is s k x = go (x.from == s) refl
  where
    go : (b : Bool) → (x.from == s) ≡ b → (if b then nanoseconds x.event else None) ≡ Some k → Waits s k x
    go true f e = (grind (arith, nat_tests), timer_is x.event k e)
    go false f e = absurd cc

is_waiting : (s k : ℕ) (x : Transition) → Waits s k x → (if x.from == s then nanoseconds x.event else None) ≡ Some k
is_waiting s k x h = let f : (x.from == s) ≡ true = grind (arith, nat_tests, h.0) in ap (λ b. if b then nanoseconds x.event else None) f ∙ ap nanoseconds h.1

has_timer : (s k : ℕ) (xs : List Transition) → HasOne (λ n. n ≡ k) (timers s xs) → HasOne (Waits s k) xs
has_timer s k [] h = h
has_timer s k (x ∷ xs) h = go (if x.from == s then nanoseconds x.event else None) refl (has_timer s k xs) h
  where
    go : (o : Option ℕ) → (if x.from == s then nanoseconds x.event else None) ≡ o → (HasOne (λ n. n ≡ k) (timers s xs) → HasOne (Waits s k) xs) → HasOne (λ n. n ≡ k) (cons_option o (timers s xs)) → HasOne (Waits s k) (x ∷ xs)
    go None e rest h = inr (rest h)
    go (Some n) e rest (inl f) = inl (waits_is s k x (e ∙ ap Some f))
    go (Some n) e rest (inr h) = inr (rest h)

timer_had : (s k : ℕ) (xs : List Transition) → HasOne (Waits s k) xs → HasOne (λ n. n ≡ k) (timers s xs)
timer_had s k [] h = h
timer_had s k (x ∷ xs) (inl w) = go (if x.from == s then nanoseconds x.event else None) (is_waiting s k x w)
  where
    go : (o : Option ℕ) → o ≡ Some k → HasOne (λ n. n ≡ k) (cons_option o (timers s xs))
    go None e = absurd cc
    go (Some n) e = inl cc
timer_had s k (x ∷ xs) (inr h) = go (if x.from == s then nanoseconds x.event else None) (timer_had s k xs h)
  where
    go : (o : Option ℕ) → HasOne (λ n. n ≡ k) (timers s xs) → HasOne (λ n. n ≡ k) (cons_option o (timers s xs))
    go None h = h
    go (Some n) h = inr h

pub timers_are_exact : TimersAreExact
timers_are_exact state k xs = (has_timer state k xs, timer_had state k xs)
