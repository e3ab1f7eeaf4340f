-- Sets of numbers: what two have in common, and those of the numbers of types.
use Rattle.std.proofs.Common.{◌≡◌, ℕ, ◌+◌, ◌<◌, ◌≤◌, ℤ, pos, ◌+ℤ◌, ◌≤ℤ◌, ◌↔◌, ◌⊎◌, inl, inr, List, [], ◌∷◌, ◌++◌, Bool, true, false, refl, sym, subst, arith}
use Rattle.std.specs.Prelude.{Result, Ok, Err, IfOk}
use Rattle.std.specs.Ordering.{int_eq}
use Rattle.std.specs.Int.Signed.{≤ℤ_refl}
use Rattle.std.proofs.lemmas.Int.{ints}
use Rattle.eds_base.specs.declared.spans.Span.{Span}
use Rattle.eds_base.specs.Spans.{IsWithin, RisesFrom, Rises, bottom, top}
use Rattle.eds_base.proofs.SpansLemmas.{rises_lower, within_floor, within_top}
use Rattle.eds_domains.specs.Domains.{narrowed}
use Rattle.eds_constraints.specs.Sets.{one_number, all_numbers, between, met, put_before, set_of_numbers}
use Rattle.eds_domains.proofs.DomainFacts.{one_list, both_within, narrowed_within, narrowed_rises}

-- ---- what two sets have in common

pub met_within : (xs ys : List Span) (n : ℤ) → IsWithin (met xs ys) n ↔ (IsWithin xs n × IsWithin ys n)
met_within [] ys n = (λ h. absurd h, λ h. absurd h.0)
met_within (s ∷ xs) ys n =
    let both = both_within (narrowed (between s) ys) (met xs ys) n in
    let here = narrowed_within (between s) ys n in
    let more = met_within xs ys n in (
      λ h. elim (both.0 h) [ inl a ↦ let k = here.0 a in (inl (k.1.from_low, k.1.to_high), k.0) | inr b ↦ let k = more.0 b in (inr k.0, k.1) ],
      λ h. elim h.0 [ inl a ↦ both.1 (inl (here.1 (h.1, record { from_low = a.0; to_high = a.1 }))) | inr b ↦ both.1 (inr (more.1 (b, h.1))) ],
    )

-- a set whose numbers are not above an end, and one that begins behind it
joined_rises : (f end : ℤ) (xs ys : List Span) → f ≤ℤ (end +ℤ pos 2) → RisesFrom f xs → ((n : ℤ) → IsWithin xs n → n ≤ℤ end) → RisesFrom (end +ℤ pos 2) ys → RisesFrom f (xs ++ ys)
joined_rises f end [] ys le r most q = rises_lower f (end +ℤ pos 2) ys le q
joined_rises f end (x ∷ xs) ys le r most q =
    let upto = most x.high (inl (r.1, ≤ℤ_refl x.high)) in
    (r.0, r.1, r.2, joined_rises (x.high +ℤ pos 2) end xs ys (omega (arith, ints)) r.3 (λ n h. most n (inr h)) q)

-- what a range leaves of a set begins no lower than the range
from_range : (f : ℤ) (s : Span) (ys : List Span) → Rises ys → f ≤ℤ s.low → RisesFrom f (narrowed (between s) ys)
from_range f s ys r le = later f (narrowed (between s) ys) (narrowed_rises (between s) bottom ys r) (λ n h. let k = (narrowed_within (between s) ys n).0 h in let low = k.1.from_low in omega (arith, ints))
  where
    later : (f : ℤ) (xs : List Span) → RisesFrom bottom xs → ((n : ℤ) → IsWithin xs n → f ≤ℤ n) → RisesFrom f xs
    later f [] r h = tt
    later f (x ∷ xs) r h = (h x.low (inl (≤ℤ_refl x.low, r.1)), r.1, r.2, r.3)

met_rises_from : (f : ℤ) (xs ys : List Span) → RisesFrom f xs → Rises ys → RisesFrom f (met xs ys)
met_rises_from f [] ys r q = tt
met_rises_from f (s ∷ xs) ys r q =
    let low = r.0 in
    let order = r.1 in
    joined_rises f s.high (narrowed (between s) ys) (met xs ys) (omega (arith, ints)) (from_range f s ys q r.0) (λ n h. ((narrowed_within (between s) ys n).0 h).1.to_high) (met_rises_from (s.high +ℤ pos 2) xs ys r.3 q)

pub met_rises : (xs ys : List Span) → Rises xs → Rises ys → Rises (met xs ys)
met_rises xs ys r q = met_rises_from bottom xs ys r q

pub same_set : (xs ys : List Span) → Rises xs → Rises ys → ((n : ℤ) → IsWithin xs n → IsWithin ys n) → ((n : ℤ) → IsWithin ys n → IsWithin xs n) → xs ≡ ys
same_set xs ys r q h k = one_list bottom bottom xs ys r q h k

pub met-is : (xs ys s : List Span) → Rises xs → Rises ys → Rises s → ((n : ℤ) → IsWithin s n → IsWithin xs n × IsWithin ys n) → ((n : ℤ) → IsWithin xs n → IsWithin ys n → IsWithin s n) → s ≡ met xs ys
met-is xs ys s r q p common all = same_set s (met xs ys) p (met_rises xs ys r q) (λ n h. (met_within xs ys n).1 (common n h)) (λ n h. let k = (met_within xs ys n).0 h in all n k.0 k.1)

pub met-assoc : (xs ys zs : List Span) → Rises xs → Rises ys → Rises zs → met (met xs ys) zs ≡ met xs (met ys zs)
met-assoc xs ys zs r q p = same_set (met (met xs ys) zs) (met xs (met ys zs)) (met_rises (met xs ys) zs (met_rises xs ys r q) p) (met_rises xs (met ys zs) r (met_rises ys zs q p)) into onto
  where
    into : (n : ℤ) → IsWithin (met (met xs ys) zs) n → IsWithin (met xs (met ys zs)) n
    into n h = let a = (met_within (met xs ys) zs n).0 h in let b = (met_within xs ys n).0 a.0 in (met_within xs (met ys zs) n).1 (b.0, (met_within ys zs n).1 (b.1, a.1))

    onto : (n : ℤ) → IsWithin (met xs (met ys zs)) n → IsWithin (met (met xs ys) zs) n
    onto n h = let a = (met_within xs (met ys zs) n).0 h in let b = (met_within ys zs n).0 a.1 in (met_within (met xs ys) zs n).1 ((met_within xs ys n).1 (a.0, b.0), b.1)

pub met-none : (xs : List Span) → Rises xs → met xs [] ≡ []
met-none xs r = same_set (met xs []) [] (met_rises xs [] r tt) tt (λ n h. absurd ((met_within xs [] n).0 h).1) (λ n h. absurd h)

all_of : Rises all_numbers
all_of = (≤ℤ_refl bottom, order bottom top refl refl, ≤ℤ_refl top, tt)
  where
    order : (b t : ℤ) → b ≡ bottom → t ≡ top → b ≤ℤ t
    order b t e f = rw (e, f) (omega (arith, ints))

pub all_rise : Rises all_numbers
all_rise = all_of

pub within_all : (xs : List Span) → Rises xs → (n : ℤ) → IsWithin xs n → IsWithin all_numbers n
within_all xs r n h = inl (within_floor bottom xs n r h, within_top bottom xs n r h)

pub met-all_left : (xs : List Span) → Rises xs → met all_numbers xs ≡ xs
met-all_left xs r = same_set (met all_numbers xs) xs (met_rises all_numbers xs all_of r) r (λ n h. ((met_within all_numbers xs n).0 h).1) (λ n h. (met_within all_numbers xs n).1 (within_all xs r n h, h))

pub met-all : (xs : List Span) → Rises xs → met xs all_numbers ≡ xs
met-all xs r = same_set (met xs all_numbers) xs (met_rises xs all_numbers r all_of) r (λ n h. ((met_within xs all_numbers n).0 h).0) (λ n h. (met_within xs all_numbers n).1 (h, within_all xs r n h))

-- ---- one interval

pub interval-is : (low high : ℤ) (s : List Span) → low ≤ℤ high → bottom ≤ℤ low → high ≤ℤ top → Rises s → ((n : ℤ) → IsWithin s n ↔ ((low ≤ℤ n) × (n ≤ℤ high))) → s ≡ record { low = low; high = high } ∷ []
interval-is low high s order from to r is = same_set s (record { low = low; high = high } ∷ []) r (from, order, to, tt) (λ n h. inl ((is n).0 h)) (λ n h. elim h [ inl a ↦ (is n).1 a | inr b ↦ absurd b ])

pub same-is : (xs s : List Span) → Rises xs → Rises s → ((n : ℤ) → IsWithin s n → IsWithin xs n × IsWithin xs n) → ((n : ℤ) → IsWithin xs n → IsWithin xs n → IsWithin s n) → s ≡ xs
same-is xs s r q common all = same_set s xs q r (λ n h. (common n h).0) (λ n h. all n h h)

-- ---- numbers of types

-- the number is one of some
abbrev pub Among : List ℕ → ℤ → Type 0
Among [] n = ⊥
Among (k ∷ ks) n = (n ≡ pos k) ⊎ Among ks n

-- the numbers rise from one on, and none is past another
abbrev pub RiseTo : (from below : ℕ) → List ℕ → Type 0
RiseTo from below [] = Unit {0}
RiseTo from below (k ∷ ks) = (from ≤ k) × (k < below) × RiseTo (k + 1) below ks

put_within : (k : ℕ) (xs : List Span) (n : ℤ) → RisesFrom (pos (k + 1)) xs → IsWithin (put_before k xs) n ↔ ((n ≡ pos k) ⊎ IsWithin xs n)
put_within k [] n r = (λ h. elim h [ inl a ↦ inl (let f = a.0 in let g = a.1 in omega (arith, ints)) | inr b ↦ absurd b ], λ h. elim h [ inl e ↦ inl (omega (arith, ints), omega (arith, ints)) | inr b ↦ absurd b ])
put_within k (s ∷ xs) n r = go (int_eq (pos (k + 1)) s.low) refl
  where
    go : (b : Bool) → int_eq (pos (k + 1)) s.low ≡ b → IsWithin (put_before k (s ∷ xs)) n ↔ ((n ≡ pos k) ⊎ IsWithin (s ∷ xs) n)
    go true e =
        let at : pos (k + 1) ≡ s.low = grind (arith, ints) in
        let order = r.1 in
        rw e (
          λ h. elim h [ inl a ↦ first at a | inr b ↦ inr (inr b) ],
          λ h. elim h [ inl q ↦ inl (omega (arith, ints), omega (arith, ints)) | inr w ↦ elim w [ inl a ↦ inl (let f = a.0 in omega (arith, ints), a.1) | inr b ↦ inr b ] ],
        )
      where
        first : pos (k + 1) ≡ s.low → (pos k ≤ℤ n) × (n ≤ℤ s.high) → (n ≡ pos k) ⊎ IsWithin (s ∷ xs) n
        first at a = let f = a.0 in elim (here n f) [ inl q ↦ inl q | inr m ↦ inr (inl (omega (arith, ints), a.1)) ]
          where
            here : (n : ℤ) → pos k ≤ℤ n → (n ≡ pos k) ⊎ (pos (k + 1) ≤ℤ n)
            here n f = grind (arith, ints)
    go false e = rw e (
      λ h. elim h [ inl a ↦ inl (let f = a.0 in let g = a.1 in omega (arith, ints)) | inr b ↦ inr b ],
      λ h. elim h [ inl q ↦ inl (omega (arith, ints), omega (arith, ints)) | inr b ↦ inr b ],
    )

put_rises : (f k : ℕ) (xs : List Span) → f ≤ k → pos k ≤ℤ top → RisesFrom (pos (k + 1)) xs → RisesFrom (pos f) (put_before k xs)
put_rises f k [] le small r = (omega (arith, ints), omega (arith, ints), small, tt)
put_rises f k (s ∷ xs) le small r = go (int_eq (pos (k + 1)) s.low) refl
  where
    go : (b : Bool) → int_eq (pos (k + 1)) s.low ≡ b → RisesFrom (pos f) (put_before k (s ∷ xs))
    go true e = let at : pos (k + 1) ≡ s.low = grind (arith, ints) in let order = r.1 in rw e (omega (arith, ints), omega (arith, ints), r.2, r.3)
    go false e = let apart : (pos (k + 1) ≡ s.low) → ⊥ = grind (arith, ints) in let from = r.0 in rw e (omega (arith, ints), omega (arith, ints), small, (beyond from apart, r.1, r.2, r.3))
      where
        beyond : pos (k + 1) ≤ℤ s.low → (pos (k + 1) ≡ s.low → ⊥) → (pos k +ℤ pos 2) ≤ℤ s.low
        beyond h apart = grind (arith, ints)

pub numbers_rise : (f most : ℕ) (ks : List ℕ) → most ≤ 4096 → RiseTo f most ks → RisesFrom (pos f) (set_of_numbers ks)
numbers_rise f most [] le r = tt
numbers_rise f most (k ∷ ks) le r = let lt = r.1 in put_rises f k (set_of_numbers ks) r.0 (small k (omega arith)) (numbers_rise (k + 1) most ks le r.2)
  where
    small : (k : ℕ) → k < 4096 → pos k ≤ℤ top
    small k h = omega (arith, ints)

pub numbers_within : (f most : ℕ) (ks : List ℕ) → most ≤ 4096 → RiseTo f most ks → (n : ℤ) → IsWithin (set_of_numbers ks) n ↔ Among ks n
numbers_within f most [] le r n = (λ h. h, λ h. h)
numbers_within f most (k ∷ ks) le r n =
    let put = put_within k (set_of_numbers ks) n (numbers_rise (k + 1) most ks le r.2) in
    let more = numbers_within (k + 1) most ks le r.2 n in (
      λ h. elim (put.0 h) [ inl e ↦ inl e | inr b ↦ inr (more.0 b) ],
      λ h. put.1 (elim h [ inl e ↦ inl e | inr b ↦ inr (more.1 b) ]),
    )

-- ---- as calls answer them

pub one-ok : {E : Type 0} (r : Result (List Span) E) (n : ℤ) → bottom ≤ℤ n → n ≤ℤ top → IfOk r Rises → IfOk r (λ s. (m : ℤ) → IsWithin s m ↔ ((n ≤ℤ m) × (m ≤ℤ n))) → IfOk r (λ s. s ≡ one_number n)
one-ok (Ok s) n from to r is = interval-is n n s (≤ℤ_refl n) from to r is
one-ok (Err e) n from to r is = tt

pub all-ok : {E : Type 0} (r : Result (List Span) E) (low high : ℤ) → low ≡ bottom → high ≡ top → IfOk r Rises → IfOk r (λ s. (m : ℤ) → IsWithin s m ↔ ((low ≤ℤ m) × (m ≤ℤ high))) → IfOk r (λ s. s ≡ all_numbers)
all-ok (Ok s) low high e f r is = same_set s all_numbers r all_of (λ n h. within_all s r n h) (λ n h. elim h [ inl a ↦ (is n).1 (subst (λ x. x ≤ℤ n) (sym e) a.0, subst (λ x. n ≤ℤ x) (sym f) a.1) | inr b ↦ absurd b ])
all-ok (Err e) low high f g r is = tt
