-- The least moment for which a component waits.
use Rattle.std.proofs.Common.{◌≡◌, ◌≤◌, ◌+◌, ℕ, zero, suc, List, [], ◌∷◌, Bool, true, false, cond, Option, Some, None, refl, subst, arith}
use Rattle.std.specs.Prelude.{nat_lt, nat_le, slice_get}
use Rattle.std.proofs.lemmas.Bool.Decides.{nat_tests}
use Rattle.eds_host.specs.declared.due.Due.{Due}
use Rattle.eds_host.specs.Laws.{NotBefore}
use Rattle.eds_plan.specs.States.{StateNow}
use Rattle.eds_host.specs.Systems.{System, due_at, first_of, first_due, has_come}

-- what is due isn't due before this time
abbrev pub ComesBy : ℕ → Option Due → Type 0
ComesBy t None = Unit {0}
ComesBy t (Some d) = t ≤ d.moment

to_due : (t comp : ℕ) (d : Option (ℕ × ℕ)) → NotBefore t d → ComesBy t (due_at comp d)
to_due t comp None h = tt
to_due t comp (Some d) h = h

of_due : (t comp : ℕ) (d : Option (ℕ × ℕ)) → ComesBy t (due_at comp d) → NotBefore t d
of_due t comp None h = tt
of_due t comp (Some d) h = h

both_late : (t : ℕ) (a b : Option Due) → ComesBy t a → ComesBy t b → ComesBy t (first_of a b)
both_late t None b h k = k
both_late t (Some a) None h k = h
both_late t (Some a) (Some b) h k = go (nat_lt b.moment a.moment)
  where
    go : (c : Bool) → ComesBy t (cond c (Some b) (Some a))
    go true = k
    go false = h

late_both : (t : ℕ) (a b : Option Due) → ComesBy t (first_of a b) → ComesBy t a × ComesBy t b
late_both t None b h = (tt, h)
late_both t (Some a) None h = (h, tt)
late_both t (Some a) (Some b) h = go (nat_lt b.moment a.moment) refl h
  where
    go : (c : Bool) → nat_lt b.moment a.moment ≡ c → ComesBy t (cond c (Some b) (Some a)) → (t ≤ a.moment) × (t ≤ b.moment)
    go true e h = (grind (arith, nat_tests), h)
    go false e h = (h, grind (arith, nat_tests))

module _ (sys : System) where
  late_from : (t first : ℕ) (xs : List StateNow) → ((i : ℕ) (s : StateNow) → slice_get xs i ≡ Some s → NotBefore t (sys.waits (first + i) s)) → ComesBy t (first_due sys first xs)
  late_from t first [] h = tt
  late_from t first (x ∷ xs) h =
      both_late t _ _ (to_due t first _ (subst (λ n. NotBefore t (sys.waits n x)) (omega arith) (h 0 x refl)))
      (late_from t (first + 1) xs (λ i s e. subst (λ n. NotBefore t (sys.waits n s)) (omega arith) (h (suc i) s e)))

  from_late : (t first : ℕ) (xs : List StateNow) → ComesBy t (first_due sys first xs) → (i : ℕ) (s : StateNow) → slice_get xs i ≡ Some s → NotBefore t (sys.waits (first + i) s)
  from_late t first [] h i s e = absurd cc
  from_late t first (x ∷ xs) h zero s e =
      let same : x ≡ s = cc in
      let both = late_both t (due_at first (sys.waits first x)) (first_due sys (first + 1) xs) h in
      subst (λ n. NotBefore t (sys.waits n s)) (omega arith) (subst (λ y. NotBefore t (sys.waits first y)) same (of_due t first (sys.waits first x) both.0))
  from_late t first (x ∷ xs) h (suc i) s e =
      let both = late_both t (due_at first (sys.waits first x)) (first_due sys (first + 1) xs) h in
      subst (λ n. NotBefore t (sys.waits n s)) (omega arith) (from_late t (first + 1) xs both.1 i s e)

  -- no component waits for a moment before the least one; and one waits for it
  pub first_late : (t : ℕ) (xs : List StateNow) → ((i : ℕ) (s : StateNow) → slice_get xs i ≡ Some s → NotBefore t (sys.waits i s)) → ComesBy t (first_due sys 0 xs)
  first_late t xs h = late_from t 0 xs (λ i s e. subst (λ n. NotBefore t (sys.waits n s)) (omega arith) (h i s e))

  pub none_before : (t : ℕ) (xs : List StateNow) → ComesBy t (first_due sys 0 xs) → (i : ℕ) (s : StateNow) → slice_get xs i ≡ Some s → NotBefore t (sys.waits i s)
  none_before t xs h i s e = subst (λ n. NotBefore t (sys.waits n s)) (omega arith) (from_late t 0 xs h i s e)

  -- a component waits for what is due
  pub record IsWaited (first : ℕ) (xs : List StateNow) (d : Due) : Type 0 where
    pub at : ℕ
    pub state : StateNow
    pub comp : d.comp ≡ first + at
    pub there : slice_get xs at ≡ Some state
    pub waits : sys.waits d.comp state ≡ Some (d.moment, d.machine)

  abbrev IfWaited : ℕ → List StateNow → Option Due → Type 0
  IfWaited first xs None = Unit {0}
  IfWaited first xs (Some d) = IsWaited first xs d

  first_waited : (first : ℕ) (xs : List StateNow) (a b : Option Due) → IfWaited first xs a → IfWaited first xs b → IfWaited first xs (first_of a b)
  first_waited first xs None b h k = k
  first_waited first xs (Some a) None h k = h
  first_waited first xs (Some a) (Some b) h k = go (nat_lt b.moment a.moment)
    where
      go : (c : Bool) → IfWaited first xs (cond c (Some b) (Some a))
      go true = k
      go false = h

  waited_from : (first : ℕ) (xs : List StateNow) → IfWaited first xs (first_due sys first xs)
  waited_from first [] = tt
  waited_from first (x ∷ xs) = first_waited first (x ∷ xs) _ _ (here (sys.waits first x) refl) (rest (first_due sys (first + 1) xs) (waited_from (first + 1) xs))
    where
      here : (d : Option (ℕ × ℕ)) → sys.waits first x ≡ d → IfWaited first (x ∷ xs) (due_at first d)
      here None e = tt
      here (Some d) e = record { at = 0; state = x; comp = omega arith; there = refl; waits = e }

      rest : (d : Option Due) → IfWaited (first + 1) xs d → IfWaited first (x ∷ xs) d
      rest None h = tt
      rest (Some d) h = record { at = suc h.at; state = h.state; comp = omega (arith, h.comp); there = h.there; waits = h.waits }

  pub due_waited : (xs : List StateNow) (d : Due) → first_due sys 0 xs ≡ Some d → IsWaited 0 xs d
  due_waited xs d e = subst (λ o. IfWaited 0 xs o) e (waited_from 0 xs)

not_come : (t : ℕ) (d : Option Due) → has_come (Some t) d ≡ None → ComesBy (t + 1) d
not_come t None e = tt
not_come t (Some d) e = go (nat_le d.moment t) refl e
  where
    go : (b : Bool) → nat_le d.moment t ≡ b → cond b (Some d) None ≡ None → t + 1 ≤ d.moment
    go true p e = absurd cc
    go false p e = grind (arith, nat_tests)

-- where nothing has come by a time, all moments are later
pub rest_later : (sys : System) (t : ℕ) (xs : List StateNow) → has_come (Some t) (first_due sys 0 xs) ≡ None → (i : ℕ) (s : StateNow) → slice_get xs i ≡ Some s → NotBefore (t + 1) (sys.waits i s)
rest_later sys t xs e = none_before sys (t + 1) xs (not_come t (first_due sys 0 xs) e)
