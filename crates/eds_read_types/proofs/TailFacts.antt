-- Open binaries that end their containers.
use Rattle.std.proofs.Common.{◌≡◌, ℕ, zero, suc, ◌+◌, ◌<◌, ◌==◌, ◌&&◌, ◌||◌, not, Bool, true, false, List, [], ◌∷◌, ◌++◌, length, reverse, slice_get, is_some, Option, Some, None, refl, sym, ap, ◌∙◌, ◌⊎◌, inl, inr, arith, leb-true}
use Rattle.std.specs.Prelude.{IsSome, IsTrue, nat_lt}
use Rattle.std.specs.List.{AllByRecursion, flat_map, list_any}
use Rattle.std.proofs.lemmas.Bool.{and_parts, eqb-true, eq-eqb}
use Rattle.eds_bits.specs.Lists.{Has, HasOne}
use Rattle.eds_types.specs.declared.row.TypeRow.{TypeRow}
use Rattle.eds_types.specs.declared.row.Part.{Part}
use Rattle.eds_types.specs.Rows.{Table, base_in, base_of, number_of_id, container_of, entries_of, trailers_of, chain, chain_before, chain_within, Placed, placed_from, placed_entries, placed_trailers}
use Rattle.eds_types.specs.Sizes.{part_size}
use Rattle.eds_types.specs.Rules.{is_length, TailKeeps}
use Rattle.eds_types.proofs.AllOf.{All-flat, All-reverse}
use Rattle.eds_read_types.specs.Parts.{parts_in}
use Rattle.eds_read_types.specs.LengthField.{is_base, has_derived, is_last, tells_length, lacks_size, is_tail}
use Rattle.eds_type_rows.proofs.SequenceFacts.{has-parts}

either_or : (a b : Bool) → (a || b) ≡ true → (a ≡ true) ⊎ (b ≡ true)
either_or true b h = inl refl
either_or false b h = inr h

none_or : (a b : Bool) → (a || b) ≡ false → (a ≡ false) × (b ≡ false)
none_or true b h = absurd cc
none_or false b h = (refl, h)

was_not : (b : Bool) → not b ≡ true → b ≡ false
was_not true h = absurd cc
was_not false h = refl

was : (b : Bool) → not b ≡ false → b ≡ true
was true h = refl
was false h = absurd cc

-- ---- the last entry

last_placed : (y n : ℕ) (ps : List Part) (k : ℕ) (p : Part) → slice_get ps k ≡ Some p → k + 1 ≡ length ps → (place : ℕ) → n + k ≡ place
    → (before : List Placed) × (placed_from y n ps ≡ before ++ record { container = y; place = place; part = p } ∷ [])
last_placed y n [] k p e l place s = absurd cc
last_placed y n (q ∷ []) zero p e l place s =
    let same_part : q ≡ p = cc in
    let same_place : n ≡ place = omega (arith, s) in
    ([], ap (λ (r : Part). record { container = y; place = n; part = r } ∷ []) same_part ∙ ap (λ (m : ℕ). record { container = y; place = m; part = p } ∷ []) same_place)
last_placed y n (q ∷ r ∷ ps) zero p e l place s = absurd (omega (arith, l))
last_placed y n (q ∷ ps) (suc k) p e l place s =
    let rest = last_placed y (n + 1) ps k p e (omega (arith, l)) place (omega (arith, s)) in
    (record { container = y; place = n; part = q } ∷ rest.0, ap (λ qs. record { container = y; place = n; part = q } ∷ qs) rest.1)

-- ---- no type derives from it

derives_at : (rows : List TypeRow) (k y : ℕ) → base_in (slice_get rows k) ≡ Some y → has_derived rows y ≡ true
derives_at [] k y e = absurd cc
derives_at (r ∷ rows) zero y e = ap (λ o. is_base y o || has_derived rows y) e ∙ ap (λ b. b || has_derived rows y) (eq-eqb y y refl)
derives_at (r ∷ rows) (suc k) y e = go (is_base y (number_of_id r.base)) (derives_at rows k y e)
  where
    go : (b : Bool) → has_derived rows y ≡ true → (b || has_derived rows y) ≡ true
    go true h = refl
    go false h = h

module _ (t : Table) (y : ℕ) (none : has_derived t y ≡ false) where
  empty_has : Has [] y → ⊥
  empty_has h = go h.before h.is
    where
      go : (before : List ℕ) → [] ≡ before ++ y ∷ h.after → ⊥
      go [] e = cc
      go (b ∷ before) e = cc

  alone_has : (k : ℕ) → Has (k ∷ []) y → k ≡ y
  alone_has k h = go h.before h.is
    where
      go : (before : List ℕ) → k ∷ [] ≡ before ++ y ∷ h.after → k ≡ y
      go [] e = cc
      go (b ∷ []) e = absurd cc
      go (b ∷ c ∷ before) e = absurd cc

  clash : (b : Bool) → b ≡ false → b ≡ true → ⊥
  clash b e f = cc

  underived : (n k : ℕ) → Has (chain_within n t k) y → k ≡ y
  unfolding chain_within
  underived zero k h = absurd (empty_has h)
  underived (suc n) k h = elim (has-parts (chain_before (chain_within n t) (base_of t k)) (k ∷ []) y h) [
    | inl l ↦ above (underived n) (base_of t k) refl l
    | inr r ↦ alone_has k r
  ]
    where
      above : ((k : ℕ) → Has (chain_within n t k) y → k ≡ y) → (o : Option ℕ) → base_of t k ≡ o → Has (chain_before (chain_within n t) o) y → k ≡ y
      above up None e l = absurd (empty_has l)
      above up (Some base) e l = absurd (clash (has_derived t y) none (derives_at t k y (e ∙ ap Some (up base l))))

-- ---- a length entry before it

abbrev IsLengthAt : Placed → Type 0
IsLengthAt q = IsTrue (is_length q.part)

one_front : (xs ys : List Placed) → HasOne IsLengthAt xs → HasOne IsLengthAt (xs ++ ys)
one_front [] ys h = absurd h
one_front (x ∷ xs) ys (inl h) = inl h
one_front (x ∷ xs) ys (inr h) = inr (one_front xs ys h)

one_back : (xs ys : List Placed) → HasOne IsLengthAt ys → HasOne IsLengthAt (xs ++ ys)
one_back [] ys h = h
one_back (x ∷ xs) ys h = inr (one_back xs ys h)

one_placed : (y i : ℕ) (ps : List Part) → list_any is_length ps ≡ true → HasOne IsLengthAt (placed_from y i ps)
one_placed y i [] h = absurd cc
one_placed y i (p ∷ ps) h = elim (either_or (is_length p) (list_any is_length ps) h) [ inl l ↦ inl l | inr r ↦ inr (one_placed y (i + 1) ps r) ]

one_told : (t : Table) (ks : List ℕ) → list_any (tells_length t) ks ≡ true → HasOne IsLengthAt (flat_map (placed_entries t) ks)
one_told t [] h = absurd cc
one_told t (k ∷ ks) h = elim (either_or (tells_length t k) (list_any (tells_length t) ks) h) [
  | inl l ↦ one_front (placed_entries t k) (flat_map (placed_entries t) ks) (one_placed k 0 (entries_of t k) l)
  | inr r ↦ one_back (placed_entries t k) (flat_map (placed_entries t) ks) (one_told t ks r)
]

-- ---- trailers with sizes

module _ (t : Table) where
  abbrev IsSizedAt : Placed → Type 0
  IsSizedAt q = IsSome (part_size t q.part)

  some_of : {A : Type 0} (o : Option A) → is_some o ≡ true → IsSome o
  some_of None h = absurd cc
  some_of (Some x) h = refl

  sized_placed : (y i : ℕ) (ps : List Part) → list_any (λ p. not (is_some (part_size t p))) ps ≡ false → AllByRecursion IsSizedAt (placed_from y i ps)
  sized_placed y i [] h = tt
  sized_placed y i (p ∷ ps) h =
      let both = none_or (not (is_some (part_size t p))) (list_any (λ p. not (is_some (part_size t p))) ps) h in
      (some_of (part_size t p) (was (is_some (part_size t p)) both.0), sized_placed y (i + 1) ps both.1)

  each_sized : (ks : List ℕ) → list_any (lacks_size t) ks ≡ false → AllByRecursion (λ k. lacks_size t k ≡ false) ks
  each_sized [] h = tt
  each_sized (k ∷ ks) h = let both = none_or (lacks_size t k) (list_any (lacks_size t) ks) h in (both.0, each_sized ks both.1)

  sized_along : (ks : List ℕ) → list_any (lacks_size t) ks ≡ false → AllByRecursion IsSizedAt (flat_map (placed_trailers t) (reverse ks))
  sized_along ks h =
      All-flat IsSizedAt (λ k. lacks_size t k ≡ false) (placed_trailers t) (λ k e. sized_placed k (length (entries_of t k)) (trailers_of t k) e) (reverse ks)
      (All-reverse (λ k. lacks_size t k ≡ false) ks (each_sized ks h))

-- ---- a tail

front_there : {A : Type 0} (xs ys : List A) (k : ℕ) → k < length xs → slice_get (xs ++ ys) k ≡ slice_get xs k
front_there [] ys k lt = absurd (omega (arith, lt))
front_there (x ∷ xs) ys zero lt = refl
front_there (x ∷ xs) ys (suc k) lt = front_there xs ys k (omega (arith, lt))

-- a part that may be an open binary keeps the rule on tails
pub tail_kept : (t : Table) (y k : ℕ) (p : Part) → slice_get (parts_in (container_of t y)) k ≡ Some p → is_tail t (record { container = y; place = k; part = p }) ≡ true → TailKeeps t (record { container = y; place = k; part = p })
tail_kept t y k p there h =
    let p0 : Placed = record { container = y; place = k; part = p } in
    let first = and_parts (is_last t p0) (not (has_derived t y) && (list_any (tells_length t) (chain t y) && not (list_any (lacks_size t) (chain t y)))) h in
    let second = and_parts (not (has_derived t y)) (list_any (tells_length t) (chain t y) && not (list_any (lacks_size t) (chain t y))) first.1 in
    let third = and_parts (list_any (tells_length t) (chain t y)) (not (list_any (lacks_size t) (chain t y))) second.1 in
    let ends = and_parts (nat_lt k (length (entries_of t y))) (k + 1 == length (entries_of t y)) first.0 in
    let entry = sym (front_there (entries_of t y) (trailers_of t y) k (leb-true (suc k) (length (entries_of t y)) ends.0)) ∙ there in
    let last = last_placed y 0 (entries_of t y) k p entry (eqb-true (k + 1) (length (entries_of t y)) ends.1) k (omega arith) in
    record {
      before = last.0;
      last = last.1;
      not_derived = λ j under. underived t y (was_not (has_derived t y) second.0) 16 j under;
      told = one_told t (chain t y) third.0;
      sized = sized_along t (chain t y) (was_not (list_any (lacks_size t) (chain t y)) third.1);
    }
