-- Numbers between two bounds, of which it is told one by one whether they are meant, are a list of rising intervals.
use Rattle.std.proofs.Common.{◌≡◌, ℕ, zero, suc, ◌+◌, ◌^◌, ℤ, pos, List, [], ◌∷◌, subst, arith, ◌⊎◌, inl, inr}
use Rattle.std.specs.Prelude.{◌≤ℤ◌, ◌<ℤ◌, ◌+ℤ◌}
use Rattle.std.proofs.lemmas.Int.{ints, by_lt_z}
use Rattle.eds_base.specs.declared.spans.Span.{Span}
use Rattle.eds_base.specs.Spans.{IsWithin, Rises, RisesFrom, bottom, top}

-- it is so, or it isn't
abbrev pub Decided : Type 0 → Type 0
Decided P = P ⊎ (P → ⊥)

lower_floor : (f g : ℤ) (xs : List Span) → g ≤ℤ f → RisesFrom f xs → RisesFrom g xs
lower_floor f g [] le r = tt
lower_floor f g (x ∷ xs) le r = let a = r.0 in (omega (arith, ints), r.1, r.2, r.3)

abbrev span : ℤ → ℤ → Span
span low high = record { low = low; high = high }

-- a set of just the numbers that are meant, where these are no others than a set may hold
pub record SetOf (P : ℤ → Type 0) : Type 0 where
  pub set : List Span
  pub rises : Rises set
  pub sound : (n : ℤ) → IsWithin set n → P n
  pub all : (n : ℤ) → P n → IsWithin set n

module _ (P : ℤ → Type 0) (decide : (n : ℤ) → Decided (P n)) where
  -- rising intervals of just the numbers that are meant, of so many from this one on
  record Run (low : ℤ) (size : ℕ) : Type 0 where
    pub spans : List Span
    pub rises : RisesFrom low spans
    pub sound : (n : ℤ) → IsWithin spans n → P n × (low ≤ℤ n) × (n <ℤ (low +ℤ pos size))
    pub all : (n : ℤ) → low ≤ℤ n → n <ℤ (low +ℤ pos size) → P n → IsWithin spans n

  -- the first number isn't meant
  without : (low : ℤ) (k : ℕ) → (P low → ⊥) → Run (low +ℤ pos 1) k → Run low (suc k)
  without low k never r = record {
    spans = r.spans;
    rises = lower_floor (low +ℤ pos 1) low r.spans (omega (arith, ints)) r.rises;
    sound = λ n w. let s = r.sound n w in let a = s.1 in let b = s.2 in (s.0, omega (arith, ints), omega (arith, ints));
    all = λ n a b p. by_lt_z low n (λ lt. r.all n (omega (arith, ints)) (omega (arith, ints)) p) (λ le. let e : n ≡ low = omega (arith, ints) in absurd (never (subst P e p)));
  }

  -- the first number is meant, and stands before an interval, or with a gap, or alone
  with_first : (low : ℤ) (k : ℕ) → P low → low ≤ℤ top → Run (low +ℤ pos 1) k → Run low (suc k)
  with_first low k it few r = go r.spans r.rises r.sound r.all
    where
      at_low : (n : ℤ) → low ≤ℤ n → n ≤ℤ low → P n
      at_low n a b = let e : low ≡ n = omega (arith, ints) in subst P e it

      go : (spans : List Span) → RisesFrom (low +ℤ pos 1) spans → ((n : ℤ) → IsWithin spans n → P n × ((low +ℤ pos 1) ≤ℤ n) × (n <ℤ ((low +ℤ pos 1) +ℤ pos k)))
          → ((n : ℤ) → (low +ℤ pos 1) ≤ℤ n → n <ℤ ((low +ℤ pos 1) +ℤ pos k) → P n → IsWithin spans n) → Run low (suc k)
      go [] rises sound all = record {
        spans = span low low ∷ [];
        rises = (omega (arith, ints), omega (arith, ints), few, tt);
        sound = λ n w. elim w [ inl l ↦ let a = l.0 in let b = l.1 in (at_low n a b, a, omega (arith, ints)) | inr v ↦ absurd v ];
        all = λ n a b p. by_lt_z low n (λ lt. absurd (all n (omega (arith, ints)) (omega (arith, ints)) p)) (λ le. inl (a, le));
      }
      go (s ∷ rest) rises sound all = by_lt_z (low +ℤ pos 1) s.low apart together
        where
          apart : (low +ℤ pos 1) <ℤ s.low → Run low (suc k)
          apart gap = record {
            spans = span low low ∷ s ∷ rest;
            rises = (omega (arith, ints), omega (arith, ints), few, (omega (arith, ints), rises.1, rises.2, rises.3));
            sound = λ n w. elim w [
              | inl l ↦ let a = l.0 in let b = l.1 in (at_low n a b, a, omega (arith, ints))
              | inr v ↦ let q = sound n v in let a = q.1 in let b = q.2 in (q.0, omega (arith, ints), omega (arith, ints))
            ];
            all = λ n a b p. by_lt_z low n (λ lt. inr (all n (omega (arith, ints)) (omega (arith, ints)) p)) (λ le. inl (a, le));
          }

          together : s.low ≤ℤ (low +ℤ pos 1) → Run low (suc k)
          together le = let room = rises.1 in let floor = rises.0 in record {
            spans = span low s.high ∷ rest;
            rises = (omega (arith, ints), omega (arith, ints), rises.2, rises.3);
            sound = λ n w. elim w [
              | inl l ↦ let a = l.0 in let b = l.1 in by_lt_z low n
                  (λ lt. let q = sound n (inl (omega (arith, ints), b)) in let c = q.2 in (q.0, a, omega (arith, ints)))
                  (λ few_of. (at_low n a few_of, a, omega (arith, ints)))
              | inr v ↦ let q = sound n (inr v) in let a = q.1 in let b = q.2 in (q.0, omega (arith, ints), omega (arith, ints))
            ];
            all = λ n a b p. by_lt_z low n
                (λ lt. elim (all n (omega (arith, ints)) (omega (arith, ints)) p) [ inl l ↦ inl (a, l.1) | inr v ↦ inr v ])
                (λ few_of. inl (a, omega (arith, ints)));
          }

  run : (size : ℕ) (low : ℤ) → (low +ℤ pos size) ≤ℤ (top +ℤ pos 1) → Run low size
  run zero low le = record { spans = []; rises = tt; sound = λ n w. absurd w; all = λ n a b p. absurd (omega (arith, ints)) }
  run (suc k) low le = elim (decide low) [
    | inl it ↦ with_first low k it (omega (arith, ints)) (run k (low +ℤ pos 1) (omega (arith, ints)))
    | inr never ↦ without low k never (run k (low +ℤ pos 1) (omega (arith, ints)))
  ]

  set_by : (size : ℕ) → (bottom +ℤ pos size) ≡ (top +ℤ pos 1) → ((n : ℤ) → P n → (bottom ≤ℤ n) × (n ≤ℤ top)) → SetOf P
  set_by size e held = let r = run size bottom (omega (arith, ints)) in record {
    set = r.spans;
    rises = r.rises;
    sound = λ n w. (r.sound n w).0;
    all = λ n p. let h = held n p in let a = h.0 in let b = h.1 in r.all n a (omega (arith, ints)) p;
  }

  pub set_of : ((n : ℤ) → P n → (bottom ≤ℤ n) × (n ≤ℤ top)) → SetOf P
  set_of held = set_by (2 ^ 65 + 1) (omega (arith, ints)) held
