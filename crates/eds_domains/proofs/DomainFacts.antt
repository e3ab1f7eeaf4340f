-- What ranges leave of sets of numbers, and that a set is kept in one way alone.
use Rattle.std.proofs.Common.{◌≡◌, ℤ, pos, ◌+ℤ◌, ◌≤ℤ◌, ◌<ℤ◌, ◌↔◌, ◌⊎◌, inl, inr, List, [], ◌∷◌, ◌++◌, Bool, true, false, refl, sym, ap₂, arith}
use Rattle.std.specs.Prelude.{int_le, Result, Ok, Err, IfOk}
use Rattle.std.specs.Int.Signed.{≤ℤ_refl}
use Rattle.std.proofs.lemmas.Int.{ints, clamps}
use Rattle.eds_base.specs.declared.spans.Span.{Span}
use Rattle.eds_base.specs.Spans.{Lies, IsWithin, RisesFrom, Rises, bottom, top}
use Rattle.eds_base.proofs.SpansLemmas.{rises_lower, within_floor, within_top, first_low, after_first}
use Rattle.eds_bits.specs.declared.forms.IntForm.{IntForm}
use Rattle.eds_bits.specs.IntForms.{least, greatest, HasNumber}
use Rattle.eds_bits.proofs.PatternLaws.{are_small}
use Rattle.eds_domains.specs.declared.range.End.{End}
use Rattle.eds_domains.specs.declared.range.End.TheVariants.{Open, Inclusive, Exclusive}
use Rattle.eds_domains.specs.declared.range.Range.{Range}
use Rattle.eds_domains.specs.Ranges.{IsFrom, IsTo, Admits}
use Rattle.eds_domains.specs.Domains.{interval, raised, lowered, narrowed_span, narrowed, domain_of, has_none}

-- ---- one set, one list

abbrev pub AreWithin : List Span → List Span → Type 0
AreWithin xs ys = (n : ℤ) → IsWithin xs n → IsWithin ys n

same_span : (s t : Span) → s.low ≡ t.low → s.high ≡ t.high → s ≡ t
same_span s t low high = ap₂ (λ l h. record { low = l; high = h }) low high

-- where a set has the numbers of another, its first interval begins no later
first_begins : (f g : ℤ) (s t : Span) (xs ys : List Span) → RisesFrom f (s ∷ xs) → RisesFrom g (t ∷ ys) → AreWithin (s ∷ xs) (t ∷ ys) → t.low ≤ℤ s.low
first_begins f g s t xs ys r q h = first_low g t ys s.low q (h s.low (inl (≤ℤ_refl s.low, r.1)))

-- the number after the first interval is not in the set
gap : (f : ℤ) (t : Span) (ys : List Span) → RisesFrom f (t ∷ ys) → IsWithin (t ∷ ys) (t.high +ℤ pos 1) → ⊥
gap f t ys r (inl h) = omega (arith, ints)
gap f t ys r (inr h) = let e = within_floor (t.high +ℤ pos 2) ys (t.high +ℤ pos 1) r.3 h in omega (arith, ints)

above_not : (a b : ℤ) → (b <ℤ a → ⊥) → a ≤ℤ b
above_not a b h = elim (le_or_lt a b) [ inl k ↦ k | inr k ↦ absurd (h k) ]
  where
    le_or_lt : (a b : ℤ) → (a ≤ℤ b) ⊎ (b <ℤ a)
    le_or_lt a b = grind (arith, ints)

-- and where both begin with one number, that first interval ends no later
first_ends : (f g : ℤ) (s t : Span) (xs ys : List Span) → RisesFrom f (s ∷ xs) → RisesFrom g (t ∷ ys) → s.low ≡ t.low → AreWithin (s ∷ xs) (t ∷ ys) → s.high ≤ℤ t.high
first_ends f g s t xs ys r q low h = above_not s.high t.high (λ more. let some = q.1 in gap g t ys q (h (t.high +ℤ pos 1) (inl (omega (arith, ints), omega (arith, ints)))))

-- the later intervals of the one set lie in the later ones of the other
later_within : (f g : ℤ) (s t : Span) (xs ys : List Span) → RisesFrom f (s ∷ xs) → RisesFrom g (t ∷ ys) → s.high ≡ t.high → AreWithin (s ∷ xs) (t ∷ ys) → AreWithin xs ys
later_within f g s t xs ys r q high h n a =
    let above = after_first f s xs n r a in
    elim (h n (inr a)) [ inl b ↦ absurd (let to = b.1 in omega (arith, ints)) | inr b ↦ b ]

both_ways : (a b : ℤ) → a ≤ℤ b → b ≤ℤ a → a ≡ b
both_ways a b h k = omega (arith, ints)

pub one_list : (f g : ℤ) (xs ys : List Span) → RisesFrom f xs → RisesFrom g ys → AreWithin xs ys → AreWithin ys xs → xs ≡ ys
one_list f g [] [] r q h k = refl
one_list f g [] (t ∷ ys) r q h k = absurd (k t.low (inl (≤ℤ_refl t.low, q.1)))
one_list f g (s ∷ xs) [] r q h k = absurd (h s.low (inl (≤ℤ_refl s.low, r.1)))
one_list f g (s ∷ xs) (t ∷ ys) r q h k =
    let low : s.low ≡ t.low = both_ways s.low t.low (first_begins g f t s ys xs q r k) (first_begins f g s t xs ys r q h) in
    let high : s.high ≡ t.high = both_ways s.high t.high (first_ends f g s t xs ys r q low h) (first_ends g f t s ys xs q r (sym low) k) in
    ap₂ (λ x y. x ∷ y) (same_span s t low high) (one_list (s.high +ℤ pos 2) (t.high +ℤ pos 2) xs ys r.3 q.3 (later_within f g s t xs ys r q high h) (later_within g f t s ys xs q r (sym high) k))

-- ---- intervals

pub interval_within : (low high n : ℤ) → IsWithin (interval low high) n ↔ ((low ≤ℤ n) × (n ≤ℤ high))
interval_within low high n = go (int_le low high) refl
  where
    go : (b : Bool) → int_le low high ≡ b → IsWithin (interval low high) n ↔ ((low ≤ℤ n) × (n ≤ℤ high))
    go true e = rw e (λ h. elim h [ inl a ↦ a | inr a ↦ absurd a ], λ h. inl h)
    go false e = rw e (λ h. absurd h, λ h. absurd (above e h.0 h.1))
      where
        above : int_le low high ≡ false → low ≤ℤ n → n ≤ℤ high → ⊥
        above e from to = grind (arith, ints)

pub interval_rises : (f low high : ℤ) → f ≤ℤ low → high ≤ℤ top → RisesFrom f (interval low high)
interval_rises f low high from to = go (int_le low high) refl
  where
    go : (b : Bool) → int_le low high ≡ b → RisesFrom f (interval low high)
    go true e = rw e (from, in_order e, to, tt)
      where
        in_order : int_le low high ≡ true → low ≤ℤ high
        in_order e = grind (arith, ints)
    go false e = rw e tt

-- ---- ends

pub raised_admits : (end : End) (low n : ℤ) → (raised end low ≤ℤ n) ↔ ((low ≤ℤ n) × IsFrom end n)
raised_admits Open low n = (λ h. (h, tt), λ h. h.0)
raised_admits (Inclusive m) low n = (λ h. (omega (arith, ints, clamps), omega (arith, ints, clamps)), λ h. omega (arith, ints, clamps))
raised_admits (Exclusive m) low n = (λ h. (omega (arith, ints, clamps), omega (arith, ints, clamps)), λ h. omega (arith, ints, clamps))

pub lowered_admits : (end : End) (high n : ℤ) → (n ≤ℤ lowered end high) ↔ ((n ≤ℤ high) × IsTo end n)
lowered_admits Open high n = (λ h. (h, tt), λ h. h.0)
lowered_admits (Inclusive m) high n = (λ h. (omega (arith, ints, clamps), omega (arith, ints, clamps)), λ h. omega (arith, ints, clamps))
lowered_admits (Exclusive m) high n = (λ h. (omega (arith, ints, clamps), omega (arith, ints, clamps)), λ h. omega (arith, ints, clamps))

pub raised_from : (end : End) (low : ℤ) → low ≤ℤ raised end low
raised_from end low = ((raised_admits end low (raised end low)).0 (≤ℤ_refl (raised end low))).0

pub lowered_to : (end : End) (high : ℤ) → lowered end high ≤ℤ high
lowered_to end high = ((lowered_admits end high (lowered end high)).0 (≤ℤ_refl (lowered end high))).0

-- ---- what a range leaves of a set

pub narrowed_span_within : (range : Range) (s : Span) (n : ℤ) → IsWithin (narrowed_span range s) n ↔ (Lies s n × Admits range n)
narrowed_span_within range s n =
    let i = interval_within (raised range.low s.low) (lowered range.high s.high) n in
    let low = raised_admits range.low s.low n in
    let high = lowered_admits range.high s.high n in (
      λ h. let j = i.0 h in let l = low.0 j.0 in let u = high.0 j.1 in ((l.0, u.0), record { from_low = l.1; to_high = u.1 }),
      λ h. i.1 (low.1 (h.0.0, h.1.from_low), high.1 (h.0.1, h.1.to_high)),
    )

pub both_within : (xs ys : List Span) (n : ℤ) → IsWithin (xs ++ ys) n ↔ (IsWithin xs n ⊎ IsWithin ys n)
both_within [] ys n = (λ h. inr h, λ h. elim h [ inl a ↦ absurd a | inr b ↦ b ])
both_within (x ∷ xs) ys n =
    let more = both_within xs ys n in (
      λ h. elim h [ inl a ↦ inl (inl a) | inr b ↦ elim (more.0 b) [ inl c ↦ inl (inr c) | inr d ↦ inr d ] ],
      λ h. elim h [ inl a ↦ elim a [ inl c ↦ inl c | inr d ↦ inr (more.1 (inl d)) ] | inr b ↦ inr (more.1 (inr b)) ],
    )

pub narrowed_within : (range : Range) (spans : List Span) (n : ℤ) → IsWithin (narrowed range spans) n ↔ (IsWithin spans n × Admits range n)
narrowed_within range [] n = (λ h. absurd h, λ h. absurd h.0)
narrowed_within range (s ∷ spans) n =
    let both = both_within (narrowed_span range s) (narrowed range spans) n in
    let here = narrowed_span_within range s n in
    let more = narrowed_within range spans n in (
      λ h. elim (both.0 h) [ inl a ↦ let k = here.0 a in (inl k.0, k.1) | inr b ↦ let k = more.0 b in (inr k.0, k.1) ],
      λ h. elim h.0 [ inl a ↦ both.1 (inl (here.1 (a, h.1))) | inr b ↦ both.1 (inr (more.1 (b, h.1))) ],
    )

span_rises : (f low high end : ℤ) (rest : List Span) → f ≤ℤ low → high ≤ℤ end → end ≤ℤ top → RisesFrom f rest → RisesFrom (end +ℤ pos 2) rest → RisesFrom f (interval low high ++ rest)
span_rises f low high end rest from to most all more = go (int_le low high) refl
  where
    go : (b : Bool) → int_le low high ≡ b → RisesFrom f (interval low high ++ rest)
    go true e = rw e (from, in_order e, omega (arith, ints), rises_lower (high +ℤ pos 2) (end +ℤ pos 2) rest (omega (arith, ints)) more)
      where
        in_order : int_le low high ≡ true → low ≤ℤ high
        in_order e = grind (arith, ints)
    go false e = rw e all

pub narrowed_rises : (range : Range) (f : ℤ) (spans : List Span) → RisesFrom f spans → RisesFrom f (narrowed range spans)
narrowed_rises range f [] r = tt
narrowed_rises range f (s ∷ spans) r =
    let more = narrowed_rises range (s.high +ℤ pos 2) spans r.3 in
    let some = r.1 in
    let raise = raised_from range.low s.low in
    let lower = lowered_to range.high s.high in
    span_rises f (raised range.low s.low) (lowered range.high s.high) s.high (narrowed range spans) (omega (arith, ints, r.0)) (omega (arith, ints)) r.2 (rises_lower f (s.high +ℤ pos 2) (narrowed range spans) (omega (arith, ints, r.0, r.1)) more) more

-- ---- the domain of a form

pub domain_within : (form : IntForm) (range : Range) (n : ℤ) → IsWithin (domain_of form range) n ↔ (HasNumber form n × Admits range n)
domain_within form range n =
    let all = narrowed_span_within range (record { low = least form; high = greatest form }) n in (
      λ h. let k = all.0 h in (record { from_least = k.0.0; to_greatest = k.0.1 }, k.1),
      λ h. all.1 ((h.0.from_least, h.0.to_greatest), h.1),
    )

pub bounds_within : (form : IntForm) → (bottom ≤ℤ least form) × (greatest form ≤ℤ top)
bounds_within form = let small = are_small form.encoding form.bits form.valid.some form.valid.few in (omega (arith, ints, small.least), omega (arith, ints, small.greatest))

pub domain_rises : (form : IntForm) (range : Range) → Rises (domain_of form range)
domain_rises form range =
    let raise = raised_from range.low (least form) in
    let lower = lowered_to range.high (greatest form) in
    let ends = bounds_within form in
    interval_rises bottom (raised range.low (least form)) (lowered range.high (greatest form)) (omega (arith, ints, ends.0)) (omega (arith, ints, ends.1))

-- a set that has the numbers of the domain is the domain
pub domain-is : (form : IntForm) (range : Range) (s : List Span) (low high : ℤ) → Rises s → ((n : ℤ) → IsWithin s n ↔ ((low ≤ℤ n) × (n ≤ℤ high)))
    → ((n : ℤ) → n ≤ℤ top → (low ≤ℤ n) ↔ ((least form ≤ℤ n) × IsFrom range.low n))
    → ((n : ℤ) → bottom ≤ℤ n → (n ≤ℤ high) ↔ ((n ≤ℤ greatest form) × IsTo range.high n))
    → s ≡ domain_of form range
domain-is form range s low high rises is from to =
    one_list bottom bottom s (domain_of form range) rises (domain_rises form range) into onto
  where
    into : (n : ℤ) → IsWithin s n → IsWithin (domain_of form range) n
    into n h =
        let k = (is n).0 h in
        let l = (from n (within_top bottom s n rises h)).0 k.0 in
        let u = (to n (within_floor bottom s n rises h)).0 k.1 in
        (domain_within form range n).1 (record { from_least = l.0; to_greatest = u.0 }, record { from_low = l.1; to_high = u.1 })

    onto : (n : ℤ) → IsWithin (domain_of form range) n → IsWithin s n
    onto n h =
        let k = (domain_within form range n).0 h in
        let ends = bounds_within form in
        let f = k.0.from_least in
        let t = k.0.to_greatest in
        (is n).1 ((from n (omega (arith, ints, ends.1))).1 (f, k.1.from_low), (to n (omega (arith, ints, ends.0))).1 (t, k.1.to_high))

-- ---- the domain of a sub-range

-- a set that has the numbers of a base in an interval is what the range leaves of the base
pub narrowed-is : (range : Range) (base s : List Span) (low high : ℤ) → Rises base → Rises s
    → ((n : ℤ) → IsWithin s n → IsWithin base n × ((low ≤ℤ n) × (n ≤ℤ high))) → ((n : ℤ) → IsWithin base n → (low ≤ℤ n) × (n ≤ℤ high) → IsWithin s n)
    → ((n : ℤ) → n ≤ℤ top → (low ≤ℤ n) ↔ ((bottom ≤ℤ n) × IsFrom range.low n))
    → ((n : ℤ) → bottom ≤ℤ n → (n ≤ℤ high) ↔ ((n ≤ℤ top) × IsTo range.high n))
    → s ≡ narrowed range base
narrowed-is range base s low high base_rises rises is all from to =
    one_list bottom bottom s (narrowed range base) rises (narrowed_rises range bottom base base_rises) into onto
  where
    into : (n : ℤ) → IsWithin s n → IsWithin (narrowed range base) n
    into n h =
        let k = is n h in
        let l = (from n (within_top bottom s n rises h)).0 k.1.0 in
        let u = (to n (within_floor bottom s n rises h)).0 k.1.1 in
        (narrowed_within range base n).1 (k.0, record { from_low = l.1; to_high = u.1 })

    onto : (n : ℤ) → IsWithin (narrowed range base) n → IsWithin s n
    onto n h =
        let k = (narrowed_within range base n).0 h in
        let floor = within_floor bottom base n base_rises k.0 in
        let ceiling = within_top bottom base n base_rises k.0 in
        all n k.0 ((from n ceiling).1 (floor, k.1.from_low), (to n floor).1 (ceiling, k.1.to_high))

-- ---- no numbers

pub none-from : (xs : List Span) (f : ℤ) → RisesFrom f xs → ((n : ℤ) → IsWithin xs n → ⊥) → has_none xs ≡ true
none-from [] f r h = refl
none-from (s ∷ xs) f r h = absurd (h s.low (inl (≤ℤ_refl s.low, r.1)))

pub some-from : (xs : List Span) (n : ℤ) → IsWithin xs n → has_none xs ≡ false
some-from [] n h = absurd h
some-from (s ∷ xs) n h = refl

-- the domain has no numbers exactly where its greatest would lie below its least
pub domain_none : (form : IntForm) (range : Range) (low high : ℤ) (b : Bool) → (b ≡ true → high <ℤ low) → (b ≡ false → low ≤ℤ high) → least form ≤ℤ low → high ≤ℤ greatest form
    → ((n : ℤ) → n ≤ℤ top → (low ≤ℤ n) ↔ ((least form ≤ℤ n) × IsFrom range.low n))
    → ((n : ℤ) → bottom ≤ℤ n → (n ≤ℤ high) ↔ ((n ≤ℤ greatest form) × IsTo range.high n))
    → b ≡ has_none (domain_of form range)
domain_none form range low high true below upto least_low high_greatest from to = sym (none-from (domain_of form range) bottom (domain_rises form range) none)
  where
    none : (n : ℤ) → IsWithin (domain_of form range) n → ⊥
    none n h =
        let k = (domain_within form range n).0 h in
        let ends = bounds_within form in
        let f = k.0.from_least in
        let t = k.0.to_greatest in
        let l = (from n (omega (arith, ints, ends.1))).1 (f, k.1.from_low) in
        let u = (to n (omega (arith, ints, ends.0))).1 (t, k.1.to_high) in
        let e = below refl in
        omega (arith, ints)
domain_none form range low high false below upto least_low high_greatest from to =
    let ends = bounds_within form in
    let order = upto refl in
    let l = (from low (omega (arith, ints, ends.1))).0 (≤ℤ_refl low) in
    let u = (to low (omega (arith, ints, ends.0))).0 order in
    sym (some-from (domain_of form range) low ((domain_within form range low).1 (record { from_least = l.0; to_greatest = u.0 }, record { from_low = l.1; to_high = u.1 })))

-- ---- as the code gives them

pub domain-ok : {E : Type 0} (form : IntForm) (range : Range) (r : Result (List Span) E) (low high : ℤ) → IfOk r Rises → IfOk r (λ s. (n : ℤ) → IsWithin s n ↔ ((low ≤ℤ n) × (n ≤ℤ high)))
    → ((n : ℤ) → n ≤ℤ top → (low ≤ℤ n) ↔ ((least form ≤ℤ n) × IsFrom range.low n))
    → ((n : ℤ) → bottom ≤ℤ n → (n ≤ℤ high) ↔ ((n ≤ℤ greatest form) × IsTo range.high n))
    → IfOk r (λ s. s ≡ domain_of form range)
domain-ok form range (Ok s) low high rises is from to = domain-is form range s low high rises is from to
domain-ok form range (Err e) low high rises is from to = tt
