-- What is due is the least moment, of the first machine that has it.
use Rattle.std.proofs.Common.{◌≡◌, ◌≤◌, ◌<◌, ◌+◌, ℕ, zero, suc, List, [], ◌∷◌, Bool, true, false, cond, Option, Some, None, refl, sym, ap, subst, ◌∙◌, arith, inl, inr}
use Rattle.std.specs.Prelude.{nat_lt, ◌⊎◌, IfSome}
use Rattle.std.proofs.lemmas.Bool.Decides.{nat_tests}
use Rattle.eds_plan.specs.declared.machine.Machine.{Machine}
use Rattle.eds_plan.specs.declared.machine.Transition.{Transition}
use Rattle.eds_plan.specs.declared.run.MachineState.{MachineState}
use Rattle.eds_machine.specs.Moments.{moment, sooner, next_moment, with_number, first_due, due_from, AnyHas, HasMoment, IsNextDue}

sooner_one : (a b : Option ℕ) (t : ℕ) → sooner a b ≡ Some t → (a ≡ Some t) ⊎ (b ≡ Some t)
sooner_one None b t e = inr e
sooner_one (Some a) None t e = inl e
sooner_one (Some a) (Some b) t e = go (nat_lt b a) e
  where
    go : (c : Bool) → cond c (Some b) (Some a) ≡ Some t → (Some a ≡ Some t) ⊎ (Some b ≡ Some t)
    go true e = inr e
    go false e = inl e

abbrev UpTo : Option ℕ → ℕ → Type 0
UpTo o t = (s : ℕ) × (o ≡ Some s) × (s ≤ t)

sooner_up : (a b : Option ℕ) (t : ℕ) → UpTo a t ⊎ UpTo b t → UpTo (sooner a b) t
sooner_up None b t (inl h) = absurd (let e = h.1 in cc)
sooner_up None b t (inr h) = h
sooner_up (Some a) None t (inl h) = h
sooner_up (Some a) None t (inr h) = absurd (let e = h.1 in cc)
sooner_up (Some a) (Some b) t h = go (nat_lt b a) refl (elim h [ inl k ↦ inl (below a k) | inr k ↦ inr (below b k) ])
  where
    below : (x : ℕ) → UpTo (Some x) t → x ≤ t
    below x k = let e : x ≡ k.0 = let f = k.1 in cc in omega (arith, k.2)

    go : (c : Bool) → nat_lt b a ≡ c → (a ≤ t) ⊎ (b ≤ t) → UpTo (cond c (Some b) (Some a)) t
    go true p (inl k) = (b, refl, grind (arith, nat_tests))
    go true p (inr k) = (b, refl, k)
    go false p (inl k) = (a, refl, k)
    go false p (inr k) = (a, refl, grind (arith, nat_tests))

next_has : (m : MachineState) (xs : List Transition) (t : ℕ) → next_moment m xs ≡ Some t → AnyHas m xs t
next_has m [] t e = absurd cc
next_has m (x ∷ xs) t e = elim (sooner_one (moment m x) (next_moment m xs) t e) [ inl h ↦ inl h | inr h ↦ inr (next_has m xs t h) ]

next_up : (m : MachineState) (xs : List Transition) (t : ℕ) → AnyHas m xs t → UpTo (next_moment m xs) t
next_up m [] t h = absurd h
next_up m (x ∷ xs) t (inl e) = sooner_up (moment m x) (next_moment m xs) t (inl (t, e, omega arith))
next_up m (x ∷ xs) t (inr h) = sooner_up (moment m x) (next_moment m xs) t (inr (next_up m xs t h))

first_one : (a b : Option (ℕ × ℕ)) (d : ℕ × ℕ) → first_due a b ≡ Some d → (a ≡ Some d) ⊎ (b ≡ Some d)
first_one None b d e = inr e
first_one (Some a) None d e = inl e
first_one (Some a) (Some b) d e = go (nat_lt b.0 a.0) e
  where
    go : (c : Bool) → cond c (Some b) (Some a) ≡ Some d → (Some a ≡ Some d) ⊎ (Some b ≡ Some d)
    go true e = inr e
    go false e = inl e

numbered : (i : ℕ) (o : Option ℕ) (d : ℕ × ℕ) → with_number i o ≡ Some d → (o ≡ Some d.0) × (d.1 ≡ i)
numbered i None d e = absurd cc
numbered i (Some t) d e = let f : (t, i) ≡ d = cc in (ap (λ (p : ℕ × ℕ). Some p.0) f, sym (ap (λ (p : ℕ × ℕ). p.1) f))

due_has : (i : ℕ) (ms : List Machine) (rs : List MachineState) (d : ℕ × ℕ) → due_from i ms rs ≡ Some d → (k : ℕ) × (d.1 ≡ i + k) × HasMoment ms rs k d.0
due_has i [] rs d e = absurd cc
due_has i (x ∷ ms) [] d e = absurd cc
due_has i (x ∷ ms) (m ∷ rs) d e = elim (first_one (with_number i (next_moment m x.transitions)) (due_from (i + 1) ms rs) d e) [
  | inl h ↦ let n = numbered i (next_moment m x.transitions) d h in (0, omega (arith, n.1), next_has m x.transitions d.0 n.0)
  | inr h ↦ let r = due_has (i + 1) ms rs d h in (suc r.0, omega (arith, r.1), r.2)
]

-- what is due comes no later, and where at the same time of no later machine
abbrev Sooner : Option (ℕ × ℕ) → ℕ → ℕ → Type 0
Sooner o i t = (d : ℕ × ℕ) × (o ≡ Some d) × (d.0 ≤ t) × (t ≡ d.0 → d.1 ≤ i)

first_sooner : (j i t : ℕ) (a b : Option (ℕ × ℕ)) → IfSome a (λ d. d.1 ≡ j) → IfSome b (λ d. j < d.1) → Sooner a i t ⊎ (Sooner b i t × (j < i)) → Sooner (first_due a b) i t
first_sooner j i t None b p q (inl h) = absurd (let e = h.1 in cc)
first_sooner j i t None b p q (inr h) = h.0
first_sooner j i t (Some a) None p q (inl h) = h
first_sooner j i t (Some a) None p q (inr h) = absurd (let e = h.0.1 in cc)
first_sooner j i t (Some a) (Some b) p q h = go (nat_lt b.0 a.0) refl h
  where
    same : (x d : ℕ × ℕ) → Some x ≡ Some d → x ≡ d
    same x d e = cc

    go : (c : Bool) → nat_lt b.0 a.0 ≡ c → Sooner (Some a) i t ⊎ (Sooner (Some b) i t × (j < i)) → Sooner (cond c (Some b) (Some a)) i t
    go true r (inl k) = let e0 = ap (λ (x : ℕ × ℕ). x.0) (same a k.0 k.1) in (b, refl, grind (arith, nat_tests, k.2), λ f. absurd (grind (arith, nat_tests, k.2)))
    go true r (inr k) = k.0
    go false r (inl k) = k
    go false r (inr k) = let e0 = ap (λ (x : ℕ × ℕ). x.0) (same b k.0.0 k.0.1) in (a, refl, grind (arith, nat_tests, k.0.2), λ f. omega (arith, k.1))

due_number : (i : ℕ) (ms : List Machine) (rs : List MachineState) (j : ℕ) → j < i → IfSome (due_from i ms rs) (λ d. j < d.1)
due_number i [] rs j lt = tt
due_number i (x ∷ ms) [] j lt = tt
due_number i (x ∷ ms) (m ∷ rs) j lt = go (with_number i (next_moment m x.transitions)) (due_from (i + 1) ms rs) (here (next_moment m x.transitions)) (due_number (i + 1) ms rs j (omega arith))
  where
    here : (o : Option ℕ) → IfSome (with_number i o) (λ d. j < d.1)
    here None = tt
    here (Some t) = lt

    go : (a b : Option (ℕ × ℕ)) → IfSome a (λ d. j < d.1) → IfSome b (λ d. j < d.1) → IfSome (first_due a b) (λ d. j < d.1)
    go None b h k = k
    go (Some a) None h k = h
    go (Some a) (Some b) h k = pick (nat_lt b.0 a.0)
      where
        pick : (c : Bool) → IfSome (cond c (Some b) (Some a)) (λ d. j < d.1)
        pick true = k
        pick false = h

here_number : (i : ℕ) (o : Option ℕ) → IfSome (with_number i o) (λ d. d.1 ≡ i)
here_number i None = tt
here_number i (Some t) = refl

due_sooner : (i : ℕ) (ms : List Machine) (rs : List MachineState) (k t : ℕ) → HasMoment ms rs k t → Sooner (due_from i ms rs) (i + k) t
due_sooner i [] rs k t h = absurd h
due_sooner i (x ∷ ms) [] k t h = absurd h
due_sooner i (x ∷ ms) (m ∷ rs) zero t h =
    let u = next_up m x.transitions t h in
    first_sooner i (i + 0) t _ (due_from (i + 1) ms rs) (here_number i (next_moment m x.transitions)) (due_number (i + 1) ms rs i (omega arith)) (inl ((u.0, i), ap (with_number i) u.1, u.2, λ e. omega arith))
due_sooner i (x ∷ ms) (m ∷ rs) (suc k) t h =
    let r = due_sooner (i + 1) ms rs k t h in
    first_sooner i (i + suc k) t _ (due_from (i + 1) ms rs) (here_number i (next_moment m x.transitions)) (due_number (i + 1) ms rs i (omega arith)) (inr ((r.0, r.1, r.2, λ e. omega (arith, r.3 e)), omega arith))

pub next_is_due : (ms : List Machine) (rs : List MachineState) (o : Option (ℕ × ℕ)) → o ≡ due_from 0 ms rs → IfSome o (IsNextDue ms rs)
next_is_due ms rs None e = tt
next_is_due ms rs (Some d) e =
    let h = due_has 0 ms rs d (sym e) in
    let k : h.0 ≡ d.1 = omega (arith, h.1) in
    record {
      comes = subst (λ i. HasMoment ms rs i d.0) k h.2;
      least = λ i t m. let s = due_sooner 0 ms rs i t m in let f : d ≡ s.0 = let g = e ∙ s.1 in cc in let f0 = ap (λ (x : ℕ × ℕ). x.0) f in omega (arith, s.2);
      first = λ i m. let s = due_sooner 0 ms rs i d.0 m in let f : d ≡ s.0 = let g = e ∙ s.1 in cc in let f0 = ap (λ (x : ℕ × ℕ). x.0) f in let f1 = ap (λ (x : ℕ × ℕ). x.1) f in omega (arith, s.3 f0);
    }

pub none_is_due : (ms : List Machine) (rs : List MachineState) (o : Option (ℕ × ℕ)) → o ≡ due_from 0 ms rs → o ≡ None → (i t : ℕ) → HasMoment ms rs i t → ⊥
none_is_due ms rs o e n i t m = let s = due_sooner 0 ms rs i t m in let g = s.1 in cc
