-- Of the transitions that match, the first that is open is the first of all that matches and is open.
use Rattle.std.proofs.Common.{◌≡◌, ℕ, suc, ◌+◌, List, [], ◌∷◌, Bool, true, false, Option, Some, None, slice_get, refl, ap, ◌∙◌, arith}
use Rattle.std.specs.Prelude.{◌&&◌, if◌then◌else◌}
use Rattle.std.specs.List.{find}
use Rattle.eds_plan.specs.declared.machine.Transition.{Transition}
use Rattle.eds_plan.specs.declared.machine.Trigger.{Trigger}
use Rattle.eds_plan.specs.Matching.{waits_for, positions_from, matching}
use Rattle.eds_machine.specs.Places.{if_open, open_at, or_next, first_at}

pub here_is : (ts : List Transition) (p : Transition → Bool) (i : ℕ) (is : List ℕ) (x : Transition) (all : Option Transition) → first_at ts p (i ∷ is) ≡ all → Some x ≡ open_at ts p i → Some x ≡ all
here_is ts p i is x all h e = ap (λ o. or_next o (first_at ts p is)) e ∙ h

pub next_is : (ts : List Transition) (p : Transition → Bool) (i : ℕ) (is : List ℕ) (all : Option Transition) → first_at ts p (i ∷ is) ≡ all → None ≡ open_at ts p i → first_at ts p is ≡ all
next_is ts p i is all h e = ap (λ o. or_next o (first_at ts p is)) e ∙ h

first_from : (ts : List Transition) (w p : Transition → Bool) (n : ℕ) (xs : List Transition) → ((k : ℕ) → slice_get ts (n + k) ≡ slice_get xs k) → first_at ts p (positions_from n w xs) ≡ find (λ x. w x && p x) xs
first_from ts w p n [] same = refl
first_from ts w p n (x ∷ xs) same = go (w x) (first_from ts w p (n + 1) xs (λ k. let e : (n + 1) + k ≡ n + suc k = omega arith in ap (slice_get ts) e ∙ same (suc k)))
  where
    here : slice_get ts n ≡ Some x
    here = let e : n ≡ n + 0 = omega arith in ap (slice_get ts) e ∙ same 0

    pick : (b : Bool) → first_at ts p (positions_from (n + 1) w xs) ≡ find (λ y. w y && p y) xs → or_next (if b then Some x else None) (first_at ts p (positions_from (n + 1) w xs)) ≡ (if b then Some x else find (λ y. w y && p y) xs)
    pick true h = refl
    pick false h = h

    go : (b : Bool) → first_at ts p (positions_from (n + 1) w xs) ≡ find (λ y. w y && p y) xs → first_at ts p (if b then n ∷ positions_from (n + 1) w xs else positions_from (n + 1) w xs) ≡ (if b && p x then Some x else find (λ y. w y && p y) xs)
    go true h = ap (λ o. or_next (if_open p o) (first_at ts p (positions_from (n + 1) w xs))) here ∙ pick (p x) h
    go false h = h

pub matched_first : (ts : List Transition) (at : ℕ) (e : Trigger) (p : Transition → Bool) (places : List ℕ) → places ≡ matching at e ts → first_at ts p places ≡ find (λ x. waits_for at e x && p x) ts
matched_first ts at e p places h = ap (first_at ts p) h ∙ first_from ts (waits_for at e) p 0 ts (λ k. let z : 0 + k ≡ k = omega arith in ap (slice_get ts) z)
