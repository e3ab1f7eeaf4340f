-- The size of a tail is a function of what stands before it: where the length entry fits the size of the whole container,
-- it fits at the tail.
use Rattle.std.proofs.Common.{◌≡◌, ℕ, zero, suc, ◌+◌, ◌*◌, ◌<◌, ℤ, pos, Bool, true, false, cond, List, [], ◌∷◌, ◌++◌, length, sum_by, Option, Some, None, option_map, refl, sym, ap, subst, ◌∙◌, append_assoc, arith, ◌⊎◌, inl, inr, unwrap_or}
use Rattle.std.specs.Prelude.{slice_get, IsSome, IfSome, IsTrue}
use Rattle.std.specs.List.{AllByRecursion}
use Rattle.std.proofs.lemmas.List.{length-append}
use Rattle.std.proofs.lemmas.List.Sums.{sum_by-cons}
use Rattle.eds_bits.specs.Bits.{Bits, octets_of, octets_for}
use Rattle.eds_bits.specs.Lists.{HasOne}
use Rattle.eds_bits.specs.Scalars.{IsText}
use Rattle.eds_bits.specs.Style.{any}
use Rattle.eds_types.specs.declared.row.TypeRow.{TypeRow}
use Rattle.eds_types.specs.declared.row.Kind.{Kind}
use Rattle.eds_types.specs.declared.row.Kind.TheVariants as kind
use Rattle.eds_types.specs.declared.row.Part.{Part}
use Rattle.eds_types.specs.declared.row.Part.TheVariants as part
use Rattle.eds_types.specs.Failing.{TailFits, EntryPasses}
use Rattle.eds_types.specs.Plain.{Plain, bits, list_of}
use Rattle.eds_types.specs.Rows.{Table, Placed}
use Rattle.eds_types.specs.Rules.{is_length}
use Rattle.eds_types.specs.Sizes.{open_by, open_in, open_of, tail_of, kind_size, row_size, size_within, part_size, trailers_along, trailers_size}
use Rattle.eds_types.specs.Spelling.{Progress, BinHas, ItemsSpell, PartPasses, PartsPass, SizeFits, KindSpells, SpellsWithin}
use Rattle.eds_types.proofs.AllOf.{All-back}
use Rattle.eds_types.proofs.ScalarReading.{IsTextSize, text_form, size_of}
use Rattle.eds_types.proofs.CanonicalSpelling.{part_before}
use Rattle.eds_types.proofs.TableFacts.{NoLength, IsLengthOnce, IsSized, TailsFollowed}

some_is : (a b : ℕ) → Some a ≡ Some b → a ≡ b
some_is a b e = cc

none_some : {A : Type 0} (b : ℕ) → ◌≡◌ {A = Option ℕ} None (Some b) → A
none_some b e = absurd cc

-- ---- types with a size

items_sized : (E : Plain → Bits → Type 0) (m : ℕ) → ((v : Plain) (b : Bits) → E v b → length b ≡ m) → (vs : List Plain) (b : Bits) → ItemsSpell E vs b → length b ≡ length vs * m
items_sized E m g [] b h = omega (arith, ap length h)
items_sized E m g (v ∷ vs) b h = omega (arith, ap length h.2, length-append h.0 h.1, g v h.0 h.3, items_sized E m g vs h.1 h.4)

text_sized : (l : ℕ) (fixed ascii : Bool) (stop : ℕ) (size : IsTextSize l stop) (s : List ℕ) (b : Bits) (m : ℕ) → cond fixed (Some (8 * l)) None ≡ Some m → IsText any (text_form l fixed ascii stop size) s b → length b ≡ m
text_sized l true ascii stop size s b m e h = h.size ∙ some_is (8 * l) m e
text_sized l false ascii stop size s b m e h = none_some m e

module _ (t : Table) where
  -- all spellings of a type with a size have it
  pub size_is : (n k id m : ℕ) (v : Plain) (b : Bits) → size_within k t id ≡ Some m → SpellsWithin n any t id v b → length b ≡ m
  unfolding size_within SpellsWithin
  size_is zero k id m v b e h = absurd h
  size_is (suc n) zero id m v b e h = none_some m e
  size_is (suc n) (suc k) id m v b e h = by_kind (h.0).kind (ap (row_size (size_within k t)) (sym h.1) ∙ e) h.2 (λ x i w c. size_is n k x i w c)
    where
      by_kind : (q : Kind) → kind_size (size_within k t) q ≡ Some m → KindSpells any t (SpellsWithin n any t) id q v b → ((x i : ℕ) (w : Plain) (c : Bits) → size_within k t x ≡ Some i → SpellsWithin n any t x w c → length c ≡ i) → length b ≡ m
      by_kind (kind.Int form spans) e h ih = (h.3).is.size ∙ some_is form.bits m e
      by_kind (kind.Enum form listing) e h ih = (h.4).is.size ∙ some_is form.bits m e
      by_kind (kind.Bool form) e h ih = (h.2).size ∙ some_is form.bits m e
      by_kind (kind.Str form) e h ih = text_sized form.length form.fixed form.ascii form.stop (size_of form) h.0 b m e h.2
      by_kind (kind.Bin l true) e h ih = none_some m e
      by_kind (kind.Bin l false) e h ih = h.0 ∙ some_is l m e
      by_kind (kind.Arr item l) e h ih = by_item (size_within k t item.0) refl e
        where
          by_item : (o : Option ℕ) → size_within k t item.0 ≡ o → option_map (λ i. l * i) o ≡ Some m → length b ≡ m
          by_item None q e = none_some m e
          by_item (Some i) q e = items_sized (SpellsWithin n any t item.0) i (λ w c s. ih item.0 i w c q s) (list_of h.0) b h.3 ∙ ap (λ z. z * i) h.2 ∙ some_is (l * i) m e
      by_kind (kind.Con c) e h ih = none_some m e

  -- ---- parts with a size

  module _ (n : ℕ) where
    part_sized : (s : Progress) (p : Placed) (q : Part) (u : Progress) (b : Bits) (m : ℕ) → part_size t q ≡ Some m → PartPasses any t (SpellsWithin n any t) s p q u b → length b ≡ m
    part_sized s p (part.Plain name id) u b m e h = size_is n 32 id.0 m h.0 b e h.1
    part_sized s p (part.Fixed name id v) u b m e h = size_is n 32 id.0 m _ b e h.0
    part_sized s p (part.Pad l) u b m e h = h.0 ∙ some_is l m e
    part_sized s p (part.List name id y i) u b m e h = none_some m e
    part_sized s p (part.Length name id c0 c1) u b m e h = size_is n 32 id.0 m _ b e h.1
    part_sized s p (part.Check name id k) u b m e h = size_is n 32 id.0 m _ b e h.0

    -- a part that is no length entry leaves the number of octets as it is, and a length entry tells one
    part_silent : (s : Progress) (p : Placed) (q : Part) (u : Progress) (b : Bits) → NoLength q → PartPasses any t (SpellsWithin n any t) s p q u b → u.octets ≡ s.octets
    part_silent s p (part.Plain name id) u b l h = ap (λ (z : Progress). z.octets) h.2
    part_silent s p (part.Fixed name id v) u b l h = ap (λ (z : Progress). z.octets) h.1
    part_silent s p (part.Pad m) u b l h = ap (λ (z : Progress). z.octets) h.2
    part_silent s p (part.List name id y i) u b l h = ap (λ (z : Progress). z.octets) h.3
    part_silent s p (part.Length name id c0 c1) u b l h = absurd l
    part_silent s p (part.Check name id k) u b l h = ap (λ (z : Progress). z.octets) h.1

    part_told : (s : Progress) (p : Placed) (q : Part) (u : Progress) (b : Bits) → (IsTrue (is_length q) ⊎ IsSome s.octets) → PartPasses any t (SpellsWithin n any t) s p q u b → IsSome u.octets
    part_told s p (part.Plain name id) u b l h = subst IsSome (sym (ap (λ (z : Progress). z.octets) h.2)) (elim l [ inl e ↦ absurd (let z : false ≡ true = e in cc) | inr k ↦ k ])
    part_told s p (part.Fixed name id v) u b l h = subst IsSome (sym (ap (λ (z : Progress). z.octets) h.1)) (elim l [ inl e ↦ absurd (let z : false ≡ true = e in cc) | inr k ↦ k ])
    part_told s p (part.Pad m) u b l h = subst IsSome (sym (ap (λ (z : Progress). z.octets) h.2)) (elim l [ inl e ↦ absurd (let z : false ≡ true = e in cc) | inr k ↦ k ])
    part_told s p (part.List name id y i) u b l h = subst IsSome (sym (ap (λ (z : Progress). z.octets) h.3)) (elim l [ inl e ↦ absurd (let z : false ≡ true = e in cc) | inr k ↦ k ])
    part_told s p (part.Length name id c0 c1) u b l h = subst IsSome (sym (ap (λ (z : Progress). z.octets) h.2)) refl
    part_told s p (part.Check name id k) u b l h = subst IsSome (sym (ap (λ (z : Progress). z.octets) h.1)) (elim l [ inl e ↦ absurd (let z : false ≡ true = e in cc) | inr k ↦ k ])

    -- the sizes of parts that have them
    run_sized : (ps : List Placed) (s u : Progress) (b : Bits) → AllByRecursion (IsSized t) ps → PartsPass any t (SpellsWithin n any t) s ps u b → length u.before ≡ length s.before + sum_by (λ (p : Placed). unwrap_or (part_size t p.part) 0) ps
    run_sized [] s u b a h = ap (λ (z : Progress). length z.before) h.0 ∙ omega arith
    run_sized (p ∷ ps) s u b a h = go (part_size t p.part) refl a.0 (run_sized ps h.0 u h.2 a.1 h.5) ∙ ap (λ z. length s.before + z) (sym (sum_by-cons (λ (p : Placed). unwrap_or (part_size t p.part) 0) p ps))
      where
        one : length (h.0).before ≡ length s.before + length h.1
        one = ap length (part_before t (SpellsWithin n any t) s p p.part h.0 h.1 h.4) ∙ length-append s.before h.1

        rest : ℕ
        rest = sum_by (λ (p : Placed). unwrap_or (part_size t p.part) 0) ps

        go : (o : Option ℕ) → part_size t p.part ≡ o → IsSome o → length u.before ≡ length (h.0).before + rest → length u.before ≡ length s.before + (unwrap_or o 0 + rest)
        go None e i ih = absurd (let z : true ≡ false = sym i in cc)
        go (Some m) e i ih = let l = part_sized s p p.part h.0 h.1 m e h.4 in omega (arith, one, l, ih)

    run_silent : (ps : List Placed) (s u : Progress) (b : Bits) → AllByRecursion (λ (p : Placed). NoLength p.part) ps → PartsPass any t (SpellsWithin n any t) s ps u b → u.octets ≡ s.octets
    run_silent [] s u b a h = ap (λ (z : Progress). z.octets) h.0
    run_silent (p ∷ ps) s u b a h = run_silent ps h.0 u h.2 a.1 h.5 ∙ part_silent s p p.part h.0 h.1 a.0 h.4

-- ---- the length entry before a tail is the only one

length_no : (q : Part) → IsTrue (is_length q) → NoLength q → ⊥
length_no (part.Plain name id) e h = let z : false ≡ true = e in absurd cc
length_no (part.Fixed name id v) e h = let z : false ≡ true = e in absurd cc
length_no (part.Pad n) e h = let z : false ≡ true = e in absurd cc
length_no (part.List name id y i) e h = let z : false ≡ true = e in absurd cc
length_no (part.Length name id c0 c1) e h = h
length_no (part.Check name id k) e h = let z : false ≡ true = e in absurd cc

abbrev pub Tells : Placed → Type 0
Tells q = IsTrue (is_length q.part)

silent_after : (done : List Placed) (p : Placed) (ps : List Placed) → IsLengthOnce (done ++ p ∷ ps) → HasOne Tells done → AllByRecursion (λ (q : Placed). NoLength q.part) ps
silent_after [] p ps h k = absurd k
silent_after (q ∷ done) p ps h (inl e) = (All-back (λ (q : Placed). NoLength q.part) done (p ∷ ps) (h.0 (λ no. length_no q.part e no))).1
silent_after (q ∷ done) p ps h (inr k) = silent_after done p ps h.1 k

pub one_split : (done : List Placed) (p : Placed) → HasOne Tells (done ++ p ∷ []) → HasOne Tells done ⊎ Tells p
one_split [] p (inl e) = inr e
one_split [] p (inr k) = absurd k
one_split (q ∷ done) p (inl e) = inl (inl e)
one_split (q ∷ done) p (inr k) = elim (one_split done p k) [ inl h ↦ inl (inr h) | inr e ↦ inr e ]

-- ---- open binaries

module _ (t : Table) where
  pub open_to : (n x l : ℕ) → open_of t x ≡ Some l → (v : Plain) (c : Bits) → SpellsWithin n any t x v c → BinHas l true (length c) × (v ≡ bits (length c) (octets_of c))
  unfolding SpellsWithin
  open_to zero x l e v c h = absurd h
  open_to (suc n) x l e v c h = by_kind (h.0).kind (ap open_in (sym h.1) ∙ e) h.2
    where
      by_kind : (q : Kind) → open_by q ≡ Some l → KindSpells any t (SpellsWithin n any t) x q v c → BinHas l true (length c) × (v ≡ bits (length c) (octets_of c))
      by_kind (kind.Int form spans) e h = none_some l e
      by_kind (kind.Enum form listing) e h = none_some l e
      by_kind (kind.Bool form) e h = none_some l e
      by_kind (kind.Str form) e h = none_some l e
      by_kind (kind.Bin m true) e h = (subst (λ z. BinHas z true (length c)) (some_is m l e) h.0, h.1)
      by_kind (kind.Bin m false) e h = none_some l e
      by_kind (kind.Arr item m) e h = none_some l e
      by_kind (kind.Con con) e h = none_some l e

  pub open_from : (n x l : ℕ) → 0 < n → open_of t x ≡ Some l → (v : Plain) (c : Bits) → BinHas l true (length c) → v ≡ bits (length c) (octets_of c) → SpellsWithin n any t x v c
  unfolding SpellsWithin
  open_from zero x l lt e v c f h = absurd (omega arith)
  open_from (suc n) x l lt e v c f h = go (slice_get t x) refl e
    where
      by_kind : (q : Kind) → open_by q ≡ Some l → KindSpells any t (SpellsWithin n any t) x q v c
      by_kind (kind.Int form spans) e = none_some l e
      by_kind (kind.Enum form listing) e = none_some l e
      by_kind (kind.Bool form) e = none_some l e
      by_kind (kind.Str form) e = none_some l e
      by_kind (kind.Bin m true) e = (subst (λ z. BinHas z true (length c)) (sym (some_is m l e)) f, h)
      by_kind (kind.Bin m false) e = none_some l e
      by_kind (kind.Arr item m) e = none_some l e
      by_kind (kind.Con con) e = none_some l e

      go : (o : Option TypeRow) → slice_get t x ≡ o → open_in o ≡ Some l → (row : TypeRow) × (slice_get t x ≡ Some row) × KindSpells any t (SpellsWithin n any t) x row.kind v c
      go None q e = none_some l e
      go (Some row) q e = (row, q, by_kind row.kind e)

-- ---- parts that pass, each tail with the size that fits

module _ (t : Table) (SpellsInner : ℕ → Plain → Bits → Type 0) where
  abbrev pub EntriesPass : Progress → List Placed → Progress → Bits → Type 0
  EntriesPass s [] u b = (u ≡ s) × (b ≡ [])
  EntriesPass s (p ∷ ps) u b = (m : Progress) × (c : Bits) × (d : Bits) × (b ≡ c ++ d) × EntryPasses t SpellsInner s p m c × EntriesPass m ps u d

  pub only_parts : (ps : List Placed) (s u : Progress) (b : Bits) → EntriesPass s ps u b → PartsPass any t SpellsInner s ps u b
  only_parts [] s u b h = h
  only_parts (p ∷ ps) s u b h = (h.0, h.1, h.2, h.3, (h.4).0, only_parts ps h.0 u h.2 h.5)

module _ (t : Table) (n : ℕ) where
  E : ℕ → Plain → Bits → Type 0
  E x v b = SpellsWithin n any t x v b

  -- the size of the tail is a function of the bits before it
  pub tail_fits : (s m u : Progress) (p : Placed) (ps : List Placed) (c d : Bits) (j : ℕ) → IsSome s.octets → ps ≡ trailers_along t p.container → AllByRecursion (IsSized t) ps → AllByRecursion (λ (q : Placed). NoLength q.part) ps
      → m.octets ≡ s.octets → m.before ≡ s.before ++ c → length c ≡ 8 * j → PartsPass any t (SpellsWithin n any t) m ps u d → SizeFits u → TailFits t s p j
  tail_fits s m u p ps c d j some is sized silent same before len h fits = go s.octets refl some
    where
      size : length u.before ≡ length s.before + 8 * j + trailers_size t p.container
      size = let l = run_sized t n ps m u d sized h in let k = ap (λ qs. sum_by (λ (p : Placed). unwrap_or (part_size t p.part) 0) qs) is in omega (arith, l, k, ap length before, length-append s.before c, len)

      told : u.octets ≡ s.octets
      told = run_silent t n ps m u d silent h ∙ same

      shift : (a b r : ℕ) → b ≡ a + 8 * j + r → octets_for b ≡ j + octets_for (a + r)
      shift a b r e = omega arith

      go : (o : Option ℤ) → s.octets ≡ o → IsSome o → unwrap_or o (pos 0) ≡ pos (j + octets_for (length s.before + trailers_size t p.container))
      go None e i = absurd (let z : true ≡ false = sym i in cc)
      go (Some k) e i =
          let f : k ≡ pos (octets_for (length u.before)) = subst (λ o. IfSome o (λ n. n ≡ pos (octets_for (length u.before)))) (told ∙ e) fits in
          f ∙ ap pos (shift (length s.before) (length u.before) (trailers_size t p.container) size)

  if_tail : (s m u : Progress) (p : Placed) (ps : List Placed) (c d : Bits) (q : Part) (o : Option ℕ) → tail_of t q ≡ o → PartPasses any t (SpellsWithin n any t) s p q m c → ((j : ℕ) → length c ≡ 8 * j → IsSome o → NoLength q → TailFits t s p j) → IfSome o (λ l. (j : ℕ) × (length c ≡ 8 * j) × TailFits t s p j)
  if_tail s m u p ps c d q None e h k = tt
  if_tail s m u p ps c d (part.Plain name id) (Some l) e h k = let z = (open_to t n id.0 l e h.0 c h.1).0 in ((z.1).0, (z.1).1, k (z.1).0 (z.1).1 refl tt)
  if_tail s m u p ps c d (part.Fixed name id v) (Some l) e h k = none_some l e
  if_tail s m u p ps c d (part.Pad i) (Some l) e h k = none_some l e
  if_tail s m u p ps c d (part.List name id y i) (Some l) e h k = none_some l e
  if_tail s m u p ps c d (part.Length name id c0 c1) (Some l) e h k = none_some l e
  if_tail s m u p ps c d (part.Check name id i) (Some l) e h k = none_some l e

  some_in : (o : Option ℕ) (P : ℕ → Type 0) (A : Type 0) → ((l : ℕ) → P l → A) → IfSome o P → IsSome o → A
  some_in None P A g h i = absurd (let z : true ≡ false = sym i in cc)
  some_in (Some l) P A g h i = g l h

  pub all_entries : (done ps : List Placed) (s u : Progress) (b : Bits) → TailsFollowed t done ps → IsLengthOnce (done ++ ps) → (HasOne Tells done → IsSome s.octets) → SizeFits u → PartsPass any t (SpellsWithin n any t) s ps u b → EntriesPass t (SpellsWithin n any t) s ps u b
  all_entries done [] s u b f once known fits h = h
  all_entries done (p ∷ ps) s u b f once known fits h =
      let one = if_tail s h.0 u p ps h.1 h.2 p.part (tail_of t p.part) refl h.4 (λ j len i no. some_in (tail_of t p.part) (λ l. HasOne Tells done × (ps ≡ trailers_along t p.container) × AllByRecursion (IsSized t) ps) (TailFits t s p j)
      (λ l w. tail_fits s h.0 u p ps h.1 h.2 j (known w.0) w.1 w.2 (silent_after done p ps once w.0) (part_silent t n s p p.part h.0 h.1 no h.4) (part_before t (SpellsWithin n any t) s p p.part h.0 h.1 h.4) len h.5 fits) f.0 i) in (
        h.0,
        h.1,
        h.2,
        h.3,
        (h.4, one),
        all_entries (done ++ p ∷ []) ps h.0 u h.2 f.1 (subst IsLengthOnce (sym (append_assoc done (p ∷ []) ps)) once) (λ k. part_told t n s p p.part h.0 h.1 (elim (one_split done p k) [ inl w ↦ inr (known w) | inr e ↦ inl e ]) h.4) fits h.5,
      )
