-- One pass over the fields of a container finds the size of their canonical spelling, or the fault that is there.
use Rattle.std.proofs.Common.{◌≡◌, ℕ, zero, suc, ◌+◌, ◌*◌, ◌/◌, ◌<◌, ℤ, pos, negsuc, neg_ℤ, ◌+ℤ◌, ◌-ℤ◌, ◌*ℤ◌, int_eq, Bool, true, false, cond, List, [], ◌∷◌, ◌++◌, length, map, reverse, Option, Some, None, Ok, Err, refl, sym, ap, subst, ◌∙◌, append_assoc, mul-pos, arith, ◌⊎◌, inl, inr}
use Rattle.std.specs.Prelude.{int_div, is_ok, is_some, ◌&&◌, ◌==◌, slice_get}
use Rattle.std.specs.List.{AllByRecursion, flat_map, list_all}
use Rattle.std.proofs.Math.Nat.{mul-div_cancel_left}
use Rattle.std.proofs.lemmas.Bool.{and_parts, and_from, both_ways, cases_Bool, eqb-true, eq-eqb, false_from_ne_true}
use Rattle.std.proofs.lemmas.Bool.Decides.{Decides-int_eq}
use Rattle.std.proofs.lemmas.List.{length-append}
use lib.IntN.{+ℤ-neg_ℤ_cancel, +ℤ_comm}
use Rattle.eds_base.specs.declared.fault.Step.TheVariants as step
use Rattle.eds_bits.specs.Bits.{Bits, octets_for}
use Rattle.eds_bits.specs.Style.{any, canonical}
use Rattle.eds_types.specs.declared.reason.PackReason.TheVariants as reason
use Rattle.eds_types.specs.declared.row.Kind.{Kind}
use Rattle.eds_types.specs.declared.row.Kind.TheVariants as kind
use Rattle.eds_types.specs.declared.row.Constraint.{Constraint as Condition}
use Rattle.eds_types.specs.declared.row.Part.{Part}
use Rattle.eds_types.specs.declared.row.Part.TheVariants as part
use Rattle.eds_types.specs.Failing.{Station, condition, entry, choice, end, own_stations, course, length_path, part_step, path_steps}
use Rattle.eds_types.specs.Fields.{Field, value_at, paired, type_by, IsAtOrUnder, constraints_along, field_of}
use Rattle.eds_types.specs.Packing.{PackFault, pack_fault_behind, pack_fault_here, ItemPackFails, PackFailsWithin, StationPackFails, PartPackFails, ListPackFails, FirstPackFails, HasFields, NoSizeFits, ContainerPackFails, valued, pack_fault_at}
use Rattle.eds_types.specs.PackedSizes.{Size, size_inside, after, items_size, tells, told_by, row_bits, form_bits, length_fits, entry_size, list_size, packed_part_size, choice_size, station_size, stations_size, own_size, concrete_size, derived_size, fields_size}
use Rattle.eds_types.specs.Plain.{Plain, num, label, truth, text, bits, items, fields, list_of, plain}
use Rattle.eds_types.specs.Reading.{candidate_under, holds}
use Rattle.eds_types.specs.Rows.{Table, id_of, chain, constraints_of, container_of, list_has, Placed, placed_entries, placed_trailers, sequence}
use Rattle.eds_types.specs.Spelling.{Progress, started, ItemsSpell, KindSpells, PartPasses, PartsPass, SpellsWithin, ContainerSpells}
use Rattle.eds_types.proofs.Tables.{IsTable, IsIntRow, IsIntKind}
use Rattle.eds_types.proofs.AllOf.{All-weaker, All-both, All-front, All-pair, All-each}
use Rattle.eds_types.proofs.CanonicalSpelling.{parts_before}
use Rattle.eds_types.proofs.ContainerPacking.{Known, course_is, front, front_all, at_start, built, fields_of, fits_told, sound_of, told_fits}
use Rattle.eds_types.proofs.DecidedPacking.{Decided, items_decided}
use Rattle.eds_types.proofs.FieldKeys.{IsOther}
use Rattle.eds_types.proofs.FieldTypes.{IsPlaced, Fits, part_keeps, sequence_placed}
use Rattle.eds_types.proofs.Grown.{only_grown}
use Rattle.eds_types.proofs.LengthChoices.{Choice, Choices, Told, tell, tell_all, told_rest, run_chosen}
use Rattle.eds_types.proofs.ListCounts.{found_there}
use Rattle.eds_types.proofs.PackedSizes.{Ties, spelled_by, items_spelled, items_whole, items_fail}
use Rattle.eds_types.proofs.PackingRuns.{At, TypesDecided, Supplies, IsFine, part_passed, tree_decides}
use Rattle.eds_types.proofs.ReadingTests.{has_from, has_in, holds_from, holds_in, found_is, none_is}
use Rattle.eds_types.proofs.SpellingSizes.{canon_spells, part_any, fields_by, parts_any}
use Rattle.eds_types.proofs.TableFacts.{Facts, IsNumbered, IsScaled, IsLengthOnce, ListsFit, NoLength}

-- ---- numbers that tell a size

div_product : (k : ℕ) (r : ℤ) → int_div (pos (suc k) *ℤ r) (pos (suc k)) ≡ r
div_product k (pos a) = ap pos (mul-div_cancel_left a (omega arith))
div_product k (negsuc a) = below (suc k * suc a) (mul-pos (omega arith) (omega arith)) ∙ ap (λ n. neg_ℤ (pos n)) (mul-div_cancel_left (suc a) (omega arith))
  where
    below : (y : ℕ) → 0 < y → int_div (neg_ℤ (pos y)) (pos (suc k)) ≡ neg_ℤ (pos (y / suc k))
    below zero h = absurd (omega arith)
    below (suc y) h = refl

-- the number that tells m is the one that is computed
told_is : (c0 c1 r : ℤ) (k m : ℕ) → c1 ≡ pos (suc k) → c0 +ℤ (c1 *ℤ r) ≡ pos m → told_by c0 c1 m ≡ r
told_is c0 c1 r k m is e =
    let d : pos m -ℤ c0 ≡ c1 *ℤ r = ap (λ z. z -ℤ c0) (sym e ∙ +ℤ_comm c0 (c1 *ℤ r)) ∙ +ℤ-neg_ℤ_cancel (c1 *ℤ r) c0 in
    ap (λ z. int_div z c1) d ∙ ap (λ z. int_div (z *ℤ r) z) is ∙ div_product k r

tells_true : (o : Option Plain) (m : ℕ) → o ≡ Some (num (pos m)) → tells o m ≡ true
tells_true o m e = ap (λ z. tells z m) e ∙ (Decides-int_eq (pos m) (pos m)).1 refl

tells_from : (o : Option Plain) (m : ℕ) → tells o m ≡ true → o ≡ Some (num (pos m))
tells_from None m e = absurd cc
tells_from (Some (num n)) m e = ap (λ z. Some (num z)) ((Decides-int_eq n (pos m)).0 e)
tells_from (Some (label l)) m e = absurd cc
tells_from (Some (truth b)) m e = absurd cc
tells_from (Some (text s)) m e = absurd cc
tells_from (Some (bits n o)) m e = absurd cc
tells_from (Some (items vs)) m e = absurd cc
tells_from (Some (fields k vs)) m e = absurd cc

-- a size that is there
abbrev bits_in : Size → ℕ
bits_in (Ok n) = n
bits_in (Err g) = 0

ok_bits : (r : Size) (n : ℕ) → r ≡ Ok n → r ≡ Ok (bits_in r)
ok_bits (Ok m) n e = refl
ok_bits (Err g) n e = absurd cc

bits_ok : (r : Size) (n : ℕ) → r ≡ Ok n → bits_in r ≡ n
bits_ok r n e = ap bits_in e

module _ (t : Table) (is : IsTable t) (can : Facts t) (n : ℕ) (size : ℕ → Plain → Size) where
  abbrev C : ℕ → Plain → Bits → Type 0
  C = SpellsWithin n canonical t

  abbrev F : ℕ → Plain → PackFault → Type 0
  F = PackFailsWithin n t

  -- sizes of values of a part's type are those that the pass gives
  abbrev pub TypesTied : Part → Type 0
  TypesTied q = (x : ℕ) → type_by (Some q) ≡ Some x → (v : Plain) → Ties (size x v) (C x v) (F x v)

  -- the numbers of an integer type have its size
  number_bits : (m x : ℕ) (r : ℤ) (b : Bits) → IsIntRow (slice_get t x) → SpellsWithin m canonical t x (num r) b → length b ≡ row_bits (slice_get t x)
  unfolding SpellsWithin
  number_bits zero x r b i h = absurd h
  number_bits (suc m) x r b i h = by_kind (h.0).kind (subst IsIntRow h.1 i) h.2 ∙ sym (ap row_bits h.1)
    where
      by_kind : (q : Kind) → IsIntKind q → KindSpells canonical t (SpellsWithin m canonical t) x q (num r) b → length b ≡ form_bits q
      by_kind (kind.Int form spans) i h = (h.3).is.size
      by_kind (kind.Enum form listing) i h = absurd i
      by_kind (kind.Bool form) i h = absurd i
      by_kind (kind.Str form) i h = absurd i
      by_kind (kind.Bin z free) i h = absurd i
      by_kind (kind.Arr item z) i h = absurd i
      by_kind (kind.Con c) i h = absurd i

  module _ (fs : List Field) where
    abbrev PartSize : Placed → Part → Size
    PartSize p q = packed_part_size t size fs p q

    -- ---- the sizes of a run

    value_there : (s u : Progress) (p : Placed) (v : Plain) (rest : List Field) → AllByRecursion (IsOther p.container p.place) s.fields → u.fields ≡ s.fields ++ (field_of p v) ∷ [] → fs ≡ u.fields ++ rest → value_at fs p.container p.place ≡ Some v
    value_there s u p v rest h e w =
        ap (λ l. value_at l p.container p.place) (w ∙ ap (λ l. l ++ rest) e ∙ append_assoc s.fields ((field_of p v) ∷ []) rest)
        ∙ found_there s.fields p.container p.place v rest h

    part_sized : (s u : Progress) (p : Placed) (b : Bits) (rest : List Field) (q : Part) → TypesTied q → TypesDecided t n fs q → IsNumbered t q → IsFine t n fs p q → AllByRecursion (IsOther p.container p.place) s.fields → fs ≡ u.fields ++ rest → PartPasses canonical t C s p q u b → PartSize p q ≡ Ok (length b)
    part_sized s u p b rest (part.Plain name id) ti d nu fine fresh w h =
        ap (entry_size t size fs id.0) (value_there s u p h.0 rest fresh (ap (λ (x : Progress). x.fields) h.2) w) ∙ (ti id.0 refl h.0).spelled b h.1
    part_sized s u p b rest (part.Fixed name id v) ti d nu fine fresh w h = (ti id.0 refl (plain v)).spelled b h.0
    part_sized s u p b rest (part.Pad m) ti d nu fine fresh w h = ap (λ z. Ok z) (sym h.0)
    part_sized s u p b rest (part.List name id y i) ti d nu fine fresh w h =
        ap (list_size t size fs id.0 (value_at fs y.0 i)) there
        ∙ ap (λ c. cond c (items_size (size id.0) 0 0 (list_of h.0)) (Err (pack_fault_here reason.CountWrong))) (tells_true (value_at fs y.0 i) (length (list_of h.0)) count)
        ∙ items_whole (size id.0) (C id.0) (F id.0) (ti id.0 refl) (d id.0 refl) (list_of h.0) b h.2
      where
        there : value_at fs p.container p.place ≡ Some (items h.0)
        there = value_there s u p (items h.0) rest fresh (ap (λ (x : Progress). x.fields) h.3) w

        count : value_at fs y.0 i ≡ Some (num (pos (length (list_of h.0))))
        count = elim (tree_decides (value_at fs y.0 i) (num (pos (length (list_of h.0))))) [
          | inl e ↦ e
          | inr ne ↦ absurd (fine (pack_fault_here reason.CountWrong) (subst (λ o. ListPackFails t F fs id.0 y.0 i o (pack_fault_here reason.CountWrong)) (sym there) (inl (ne, refl))))
        ]
    part_sized s u p b rest (part.Length name id c0 c1) ti d nu fine fresh w h = ap (λ z. Ok z) (sym (number_bits n id.0 h.0 b nu h.1))
    part_sized s u p b rest (part.Check name id k) ti d nu fine fresh w h = ap (λ z. Ok z) (sym (number_bits n id.0 _ b nu h.0))

    -- the bits of parts that don't fail
    abbrev sum_of : List Placed → ℕ
    sum_of [] = 0
    sum_of (p ∷ ps) = bits_in (PartSize p p.part) + sum_of ps

    run_sized : (ps done : List Placed) (s u : Progress) (f : List Plain) (b : Bits) → At fs done ps s.fields f → AllByRecursion (λ (p : Placed). TypesTied p.part) ps → AllByRecursion (λ (p : Placed). TypesDecided t n fs p.part) ps → AllByRecursion (λ (p : Placed). IsNumbered t p.part) ps → ListsFit t done ps → AllByRecursion (IsPlaced t) done → AllByRecursion (IsPlaced t) ps → Fits t n s → u.fields ≡ fs → PartsPass canonical t C s ps u b → length b ≡ sum_of ps
    run_sized [] done s u f b at ti d nu li pl pls fit w h = ap length h.1
    run_sized (p ∷ ps) done s u f b at ti d nu li pl pls fit w h =
        let more = only_grown canonical t C ps h.0 u h.2 h.5 in
        let pack_fault_here = sym w ∙ more.1 in
        let one = part_passed t n fs done p ps s h.0 f h.1 more.0 p.part refl at d.0 li.0 pl fit pack_fault_here h.4 in
        let fits = part_keeps t n s p p.part h.0 h.1 pls.0 fit (part_any t C (SpellsWithin n any t) (canon_spells t n) s p p.part h.0 h.1 h.4) in
        let first = bits_ok (PartSize p p.part) (length h.1) (part_sized s h.0 p h.1 more.0 p.part ti.0 d.0 nu.0 one.fine (at.fresh).0 pack_fault_here h.4) in
        let rest = run_sized ps (done ++ p ∷ []) h.0 u one.rest h.2 one.at ti.1 d.1 nu.1 li.1 (All-both (IsPlaced t) done (p ∷ []) pl (pls.0, tt)) pls.1 fits w h.5 in
        omega (arith, first, rest, ap length h.3, length-append h.1 h.2)

  -- ---- stations

  module _ (id k : ℕ) (f : List Plain) (known : Known t is can n k) (ties : AllByRecursion (λ (p : Placed). TypesTied p.part) (sequence t k)) where
    abbrev fs : List Field
    fs = paired (sequence t k) f

    abbrev NoSize : Type 0
    NoSize = NoSizeFits t C F k fs

    abbrev Stops : Station → PackFault → Type 0
    Stops s g = StationPackFails t F fs NoSize k s g

    abbrev Sound : Station → Type 0
    Sound s = (g : PackFault) → Stops s g → ⊥

    abbrev At0 : ℕ → Station → Size
    At0 before s = station_size t size fs k before s

    -- what is known of a station before the end
    abbrev IsKnown : Station → Type 0
    IsKnown (condition y c) = Unit {0}
    IsKnown (entry p) = TypesTied p.part × TypesDecided t n fs p.part × Supplies t n fs p.part
    IsKnown (choice y) = Unit {0}
    IsKnown end = ⊥

    list_fails : (x y i : ℕ) → ((v : Plain) → Ties (size x v) (C x v) (F x v)) → ((v : Plain) → Decided (C x v) (F x v)) → (o : Option Plain) (w : PackFault) → ListPackFails t F fs x y i o w → list_size t size fs x (value_at fs y i) o ≡ Err w
    list_fails x y i ti d None w h = absurd h
    list_fails x y i ti d (Some (num v)) w h = ap (λ z. Err z) (sym h)
    list_fails x y i ti d (Some (label v)) w h = ap (λ z. Err z) (sym h)
    list_fails x y i ti d (Some (truth v)) w h = ap (λ z. Err z) (sym h)
    list_fails x y i ti d (Some (text v)) w h = ap (λ z. Err z) (sym h)
    list_fails x y i ti d (Some (bits m v)) w h = ap (λ z. Err z) (sym h)
    list_fails x y i ti d (Some (fields l v)) w h = ap (λ z. Err z) (sym h)
    list_fails x y i ti d (Some (items vs)) w (inl h) =
        ap (λ c. cond c (items_size (size x) 0 0 (list_of vs)) (Err (pack_fault_here reason.CountWrong))) (false_from_ne_true (tells (value_at fs y i) (length (list_of vs))) (λ e. h.0 (tells_from (value_at fs y i) (length (list_of vs)) e)))
        ∙ ap (λ z. Err z) (sym h.1)
    list_fails x y i ti d (Some (items vs)) w (inr h) =
        ap (λ c. cond c (items_size (size x) 0 0 (list_of vs)) (Err (pack_fault_here reason.CountWrong))) (tells_true (value_at fs y i) (length (list_of vs)) h.0)
        ∙ items_fail (size x) (C x) (F x) ti d (list_of vs) 0 0 w h.1

    part_fails : (p : Placed) (q : Part) (w : PackFault) → TypesTied q → TypesDecided t n fs q → PartPackFails t F fs p q w → PartSize fs p q ≡ Err w
    part_fails p (part.Plain name x) w ti d h = ap (entry_size t size fs x.0) h.1 ∙ (ti x.0 refl h.0).fails w h.2
    part_fails p (part.Fixed name x v) w ti d h = absurd h
    part_fails p (part.Pad m) w ti d h = absurd h
    part_fails p (part.List name x y i) w ti d h = list_fails x.0 y.0 i (ti x.0 refl) (d x.0 refl) (value_at fs p.container p.place) w h
    part_fails p (part.Length name x c0 c1) w ti d h = absurd h
    part_fails p (part.Check name x c) w ti d h = absurd h

    station_fails : (s : Station) (before : ℕ) (g : PackFault) → IsKnown s → Stops s g → At0 before s ≡ Err g
    station_fails (condition y c) before g i h = ap (λ b. cond b (Ok 0) (Err (pack_fault_at reason.Constraint (path_steps c.path)))) (false_from_ne_true (holds t fs c) (λ e. h.0 (holds_from t fs c e))) ∙ ap (λ z. Err z) (sym h.1)
    station_fails (entry p) before g i h = ap (size_inside (part_step p)) (part_fails p p.part h.0 i.0 i.1 h.1) ∙ ap (λ z. Err z) (sym h.2)
    station_fails (choice y) before g i h = go (candidate_under t k fs) refl
      where
        go : (o : Option ℕ) → candidate_under t k fs ≡ o → choice_size t size fs k o ≡ Err g
        go None e = absurd (none_is t k fs e h.0 h.1 h.3)
        go (Some l) e = ap (λ z. Err z) (sym h.4)
    station_fails end before g i h = absurd i

    -- ---- stations that let the fields pass

    tied_fine : (x : ℕ) (v : Plain) → Ties (size x v) (C x v) (F x v) → Decided (C x v) (F x v) → ((g : PackFault) → F x v g → ⊥) → size x v ≡ Ok (bits_in (size x v))
    tied_fine x v ti d none = elim (spelled_by (size x v) (C x v) (F x v) ti d) [ inl h ↦ ok_bits (size x v) h.0 h.3 | inr h ↦ absurd (none h.0 h.1) ]

    list_fine : (x y i : ℕ) → ((v : Plain) → Ties (size x v) (C x v) (F x v)) → ((v : Plain) → Decided (C x v) (F x v)) → (o : Option Plain) → ((w : PackFault) → ListPackFails t F fs x y i o w → ⊥) → (m : ℕ) × (list_size t size fs x (value_at fs y i) o ≡ Ok m)
    list_fine x y i ti d None none = (0, refl)
    list_fine x y i ti d (Some (num v)) none = absurd (none (pack_fault_here reason.WrongKind) refl)
    list_fine x y i ti d (Some (label v)) none = absurd (none (pack_fault_here reason.WrongKind) refl)
    list_fine x y i ti d (Some (truth v)) none = absurd (none (pack_fault_here reason.WrongKind) refl)
    list_fine x y i ti d (Some (text v)) none = absurd (none (pack_fault_here reason.WrongKind) refl)
    list_fine x y i ti d (Some (bits m v)) none = absurd (none (pack_fault_here reason.WrongKind) refl)
    list_fine x y i ti d (Some (fields l v)) none = absurd (none (pack_fault_here reason.WrongKind) refl)
    list_fine x y i ti d (Some (items vs)) none = go (tree_decides (value_at fs y i) (num (pos (length (list_of vs))))) (items_decided (C x) (F x) d (list_of vs) 0).either
      where
        go : (value_at fs y i ≡ Some (num (pos (length (list_of vs))))) ⊎ (value_at fs y i ≡ Some (num (pos (length (list_of vs)))) → ⊥) → ((b : Bits) × ItemsSpell (C x) (list_of vs) b) ⊎ ((g : PackFault) × ItemPackFails (F x) 0 (list_of vs) g) → (m : ℕ) × (list_size t size fs x (value_at fs y i) (Some (items vs)) ≡ Ok m)
        go (inr ne) r = absurd (none (pack_fault_here reason.CountWrong) (inl (ne, refl)))
        go (inl e) (inr r) = absurd (none r.0 (inr (e, r.1)))
        go (inl e) (inl r) = (
          0 + length r.0,
          ap (λ c. cond c (items_size (size x) 0 0 (list_of vs)) (Err (pack_fault_here reason.CountWrong))) (tells_true (value_at fs y i) (length (list_of vs)) e)
              ∙ items_spelled (size x) (C x) (F x) ti d (list_of vs) 0 0 r.0 r.1,
        )

    entry_fine : (p : Placed) (x : ℕ) (o : Option Plain) → ((v : Plain) → Ties (size x v) (C x v) (F x v)) → ((v : Plain) → Decided (C x v) (F x v)) → ((w : PackFault) → ((v : Plain) × (o ≡ Some v) × F x v w) → ⊥) → (m : ℕ) × (entry_size t size fs x o ≡ Ok m)
    entry_fine p x None ti d none = (0, refl)
    entry_fine p x (Some v) ti d none = (bits_in (size x v), tied_fine x v (ti v) (d v) (λ g h. none g (v, refl, h)))

    part_fine : (p : Placed) (q : Part) → TypesTied q → TypesDecided t n fs q → Supplies t n fs q → IsFine t n fs p q → (m : ℕ) × (PartSize fs p q ≡ Ok m)
    part_fine p (part.Plain name x) ti d su none = entry_fine p x.0 (value_at fs p.container p.place) (ti x.0 refl) (d x.0 refl) none
    part_fine p (part.Fixed name x v) ti d su none = (length su.0, (ti x.0 refl (plain v)).spelled su.0 su.1)
    part_fine p (part.Pad m) ti d su none = (m, refl)
    part_fine p (part.List name x y i) ti d su none = list_fine x.0 y.0 i (ti x.0 refl) (d x.0 refl) (value_at fs p.container p.place) none
    part_fine p (part.Length name x c0 c1) ti d su none = (row_bits (slice_get t x.0), refl)
    part_fine p (part.Check name x c) ti d su none = (row_bits (slice_get t x.0), refl)

    -- the bits that a station adds
    abbrev station_bits : Station → ℕ
    station_bits (condition y c) = 0
    station_bits (entry p) = bits_in (PartSize fs p p.part)
    station_bits (choice y) = 0
    station_bits end = 0

    abbrev all_bits : List Station → ℕ
    all_bits [] = 0
    all_bits (s ∷ ss) = station_bits s + all_bits ss

    station_fine : (s : Station) (before : ℕ) → IsKnown s → Sound s → At0 before s ≡ Ok (station_bits s)
    station_fine (condition y c) before i h = elim (cases_Bool (holds t fs c)) [
      | inl e ↦ ap (λ b. cond b (Ok 0) (Err (pack_fault_at reason.Constraint (path_steps c.path)))) e
      | inr e ↦ absurd (h (pack_fault_at reason.Constraint (path_steps c.path)) ((λ q. both_ways (holds t fs c) e (holds_in t fs c q)), refl))
    ]
    station_fine (entry p) before i h =
        let m = part_fine p p.part i.0 i.1 i.2 (λ w x. h (pack_fault_behind (part_step p) w) (w, x, refl)) in
        ap (size_inside (part_step p)) (ok_bits (PartSize fs p p.part) m.0 m.1)
    station_fine (choice y) before i h = go (candidate_under t k fs) refl
      where
        go : (o : Option ℕ) → candidate_under t k fs ≡ o → choice_size t size fs k o ≡ Ok 0
        go None e = refl
        go (Some l) e = let c = found_is t k fs l e in absurd (h (pack_fault_at reason.NotMostDerived (step.Choice (id_of k) ∷ [])) (l, c.0, (c.1).under, c.1, refl))
    station_fine end before i h = absurd i

    abbrev Goes : ℕ → List Station → Size
    Goes before ss = stations_size t size fs k before ss

    all_fine : (ss rest : List Station) (before : ℕ) → AllByRecursion IsKnown ss → AllByRecursion Sound ss → Goes before (ss ++ rest) ≡ Goes (before + all_bits ss) rest
    all_fine [] rest before i h = ap (λ m. Goes m rest) (omega arith)
    all_fine (s ∷ ss) rest before i h =
        ap (λ r. after r (λ m. Goes (before + m) (ss ++ rest))) (station_fine s before i.0 h.0)
        ∙ all_fine ss rest (before + station_bits s) i.1 h.1
        ∙ ap (λ m. Goes m rest) (omega arith)

    first_fails : (ss rest : List Station) (before : ℕ) (g : PackFault) → AllByRecursion IsKnown ss → FirstPackFails t F fs NoSize k ss g → Goes before (ss ++ rest) ≡ Err g
    first_fails [] rest before g i h = absurd h
    first_fails (s ∷ ss) rest before g i (inl h) = ap (λ r. after r (λ m. Goes (before + m) (ss ++ rest))) (station_fails s before g i.0 h)
    first_fails (s ∷ ss) rest before g i (inr h) = ap (λ r. after r (λ m. Goes (before + m) (ss ++ rest))) (station_fine s before i.0 h.0) ∙ first_fails ss rest (before + station_bits s) g i.1 h.1

    -- ---- all stations before the end

    front_known : AllByRecursion IsKnown (front t k)
    front_known = front_all t IsKnown k (All-each (λ (c : Condition). (y : ℕ) → IsKnown (condition y c)) (λ c y. tt) (constraints_along t k))
        (All-weaker (λ (p : Placed). TypesTied p.part × (TypesDecided t n fs p.part × Supplies t n fs p.part)) (λ (p : Placed). IsKnown (entry p)) (λ p h. (h.0, h.1.0, h.1.1)) (sequence t k)
        (All-pair (λ (p : Placed). TypesTied p.part) (λ (p : Placed). TypesDecided t n fs p.part × Supplies t n fs p.part) (sequence t k) ties (All-pair (λ (p : Placed). TypesDecided t n fs p.part) (λ (p : Placed). Supplies t n fs p.part) (sequence t k) known.types (known.supplies fs)))) tt

    more_bits : (xs ys : List Station) → all_bits (xs ++ ys) ≡ all_bits xs + all_bits ys
    more_bits [] ys = omega arith
    more_bits (x ∷ xs) ys = let h = more_bits xs ys in omega arith

    entry_bits : (ps : List Placed) → all_bits (map entry ps) ≡ sum_of fs ps
    entry_bits [] = refl
    entry_bits (p ∷ ps) = let h = entry_bits ps in omega arith

    more_parts : (ps qs : List Placed) → sum_of fs (ps ++ qs) ≡ sum_of fs ps + sum_of fs qs
    more_parts [] qs = omega arith
    more_parts (p ∷ ps) qs = let h = more_parts ps qs in omega arith

    condition_bits : (y : ℕ) (cs : List Condition) → all_bits (map (condition y) cs) ≡ 0
    condition_bits y [] = refl
    condition_bits y (c ∷ cs) = let h = condition_bits y cs in omega arith

    own_bits : (ys : List ℕ) → all_bits (flat_map (own_stations t) ys) ≡ sum_of fs (flat_map (placed_entries t) ys)
    own_bits [] = refl
    own_bits (y ∷ ys) =
        let h = own_bits ys in
        let a = more_bits (own_stations t y) (flat_map (own_stations t) ys) in
        let b = more_bits (map (condition y) (constraints_of t y)) (map entry (placed_entries t y)) in
        let c = condition_bits y (constraints_of t y) in
        let d = entry_bits (placed_entries t y) in
        let e = more_parts (placed_entries t y) (flat_map (placed_entries t) ys) in
        omega arith

    front_bits : all_bits (front t k) ≡ sum_of fs (sequence t k)
    front_bits =
        let ts = flat_map (placed_trailers t) (reverse (chain t k)) in
        let a = more_bits (flat_map (own_stations t) (chain t k)) (choice k ∷ map entry ts) in
        let b = own_bits (chain t k) in
        let c = entry_bits ts in
        let d = more_parts (flat_map (placed_entries t) (chain t k)) ts in
        omega arith

    at0 : HasFields t k f → At fs [] (sequence t k) [] f
    at0 h = at_start t is can n id k f known h

    run_bits : HasFields t k f → (u : Progress) (b : Bits) → u.fields ≡ fs → PartsPass canonical t C started (sequence t k) u b → length b ≡ all_bits (front t k)
    run_bits h u b w p = run_sized fs (sequence t k) [] started u f b (at0 h) ties known.types (can.numbered k) known.lists tt (sequence_placed t k) tt w p ∙ sym front_bits

    long_before : (u : Progress) (b : Bits) → PartsPass canonical t C started (sequence t k) u b → length u.before ≡ length b
    long_before u b p = let Any = SpellsWithin n any t in ap length (parts_before t Any (sequence t k) started u b (parts_any t C Any (canon_spells t n) (sequence t k) started u b p))

    -- ---- the end

    abbrev Fit : ℕ → Placed → Bool
    Fit m p = length_fits t size m p.part

    -- numbers that tell m, for each length entry
    told_all : (m : ℕ) (ps : List Placed) (o : Option ℤ) → AllByRecursion (λ (p : Placed). TypesTied p.part) ps → AllByRecursion (λ (p : Placed). TypesDecided t n fs p.part) ps → Told C o m → list_all (Fit m) ps ≡ true → (c : Choices C ps) × Told C (tell_all C ps c o) m
    told_all m [] o ti d h e = (tt, h)
    told_all m (p ∷ ps) o ti d h e =
        let a = and_parts (Fit m p) (list_all (Fit m) ps) e in
        let one = told_one p.part ti.0 d.0 a.0 in
        let rest = told_all m ps (tell C p.part one.0 o) ti.1 d.1 one.1 a.1 in
        ((one.0, rest.0), rest.1)
      where
        told_one : (q : Part) → TypesTied q → TypesDecided t n fs q → length_fits t size m q ≡ true → (c : Choice C q) × Told C (tell C q c o) m
        told_one (part.Plain name x) ti d e = (tt, h)
        told_one (part.Fixed name x v) ti d e = (tt, h)
        told_one (part.Pad z) ti d e = (tt, h)
        told_one (part.List name x y i) ti d e = (tt, h)
        told_one (part.Length name x c0 c1) ti d e =
            let r = told_by c0 c1 m in
            let a = and_parts (int_eq (c0 +ℤ (c1 *ℤ r)) (pos m)) (is_ok (size x.0 (num r))) e in
            elim (spelled_by (size x.0 (num r)) (C x.0 (num r)) (F x.0 (num r)) (ti x.0 refl (num r)) (d x.0 refl (num r))) [
              | inl s ↦ ((r, s.1, s.2), (Decides-int_eq (c0 +ℤ (c1 *ℤ r)) (pos m)).0 a.0)
              | inr s ↦ absurd (let z : false ≡ true = sym (ap is_ok s.2) ∙ a.1 in cc)
            ]
        told_one (part.Check name x c) ti d e = (tt, h)

    none_fit : (m : ℕ) (ps : List Placed) → AllByRecursion (λ (p : Placed). NoLength p.part) ps → list_all (Fit m) ps ≡ true
    none_fit m [] h = refl
    none_fit m (p ∷ ps) h = and_from (Fit m p) (list_all (Fit m) ps) (one p.part h.0) (none_fit m ps h.1)
      where
        one : (q : Part) → NoLength q → length_fits t size m q ≡ true
        one (part.Plain name x) h = refl
        one (part.Fixed name x v) h = refl
        one (part.Pad z) h = refl
        one (part.List name x y i) h = refl
        one (part.Length name x c0 c1) h = absurd h
        one (part.Check name x c) h = refl

    all_fit : (m : ℕ) (ps : List Placed) (o : Option ℤ) → AllByRecursion (λ (p : Placed). TypesTied p.part) ps → AllByRecursion (λ (p : Placed). IsScaled p.part) ps → IsLengthOnce ps → (c : Choices C ps) → Told C (tell_all C ps c o) m → list_all (Fit m) ps ≡ true
    all_fit m [] o ti sc once c h = refl
    all_fit m (p ∷ ps) o ti sc once c h = one (λ o h. all_fit m ps o ti.1 sc.1 once.1 c.1 h) p.part refl c.0 h ti.0 sc.0
      where
        one : ((o : Option ℤ) → Told C (tell_all C ps c.1 o) m → list_all (Fit m) ps ≡ true) → (q : Part) → p.part ≡ q → (d : Choice C q) → Told C (tell_all C ps c.1 (tell C q d o)) m → TypesTied q → IsScaled q → (length_fits t size m q && list_all (Fit m) ps) ≡ true
        one later (part.Plain name x) e d h ti sc = later o h
        one later (part.Fixed name x v) e d h ti sc = later o h
        one later (part.Pad z) e d h ti sc = later o h
        one later (part.List name x y i) e d h ti sc = later o h
        one later (part.Length name x c0 c1) e d h ti sc =
            let none = once.0 (λ z. subst NoLength e z) in
            let same = told_is c0 c1 d.0 sc.0 m sc.1 (subst (λ z. Told C z m) (told_rest C ps none c.1 (Some (c0 +ℤ (c1 *ℤ d.0)))) h) in
            and_from (length_fits t size m (part.Length name x c0 c1)) (list_all (Fit m) ps)
            (subst (λ r. (int_eq (c0 +ℤ (c1 *ℤ r)) (pos m) && is_ok (size x.0 (num r))) ≡ true) (sym same)
            (and_from (int_eq (c0 +ℤ (c1 *ℤ d.0)) (pos m)) (is_ok (size x.0 (num d.0)))
            ((Decides-int_eq (c0 +ℤ (c1 *ℤ d.0)) (pos m)).1 (subst (λ z. Told C z m) (told_rest C ps none c.1 (Some (c0 +ℤ (c1 *ℤ d.0)))) h))
            (ap is_ok ((ti x.0 refl (num d.0)).spelled d.1 d.2))))
            (none_fit m ps none)
        one later (part.Check name x k) e d h ti sc = later o h

    -- ---- the whole course

    abbrev total : ℕ
    total = all_bits (front t k)

    abbrev ends : Bool → Size
    ends b = after (cond b (Ok 0) (Err (pack_fault_at reason.LengthField (length_path t k)))) (λ m. Goes (total + m) [])

    goes_on : AllByRecursion Sound (front t k) → own_size t size k f ≡ ends (list_all (Fit (octets_for total)) (sequence t k))
    goes_on h = ap (Goes 0) (course_is t k) ∙ all_fine (front t k) (end ∷ []) 0 front_known h ∙ ap (λ m. Goes m (end ∷ [])) (omega arith)

    pub own_spelled : HasFields t k f → (b : Bits) → ContainerSpells canonical t C id k f b → own_size t size k f ≡ Ok (length b)
    own_spelled h b sp =
        let same : sp.end.fields ≡ fs = fields_by t n k sp.end b f (parts_any t C (SpellsWithin n any t) (canon_spells t n) (sequence t k) started sp.end b sp.parts) sp.values in
        let long = run_bits h sp.end b same sp.parts in
        let c = run_chosen C t (sequence t k) started sp.end b sp.parts in
        let told = fits_told t is can n sp.end.octets (tell_all C (sequence t k) c.0 None) (length sp.end.before) total c.1 (long_before sp.end b sp.parts ∙ long) sp.size in
        goes_on (All-front Sound (front t k) (end ∷ []) (sound_of t is can n id k f known h b sp))
        ∙ ap ends (all_fit (octets_for total) (sequence t k) None ties (can.scaled k) (can.once k) c.0 told)
        ∙ ap (λ m. Ok m) (omega (arith, long))

    pub own_fails : HasFields t k f → (g : PackFault) → FirstPackFails t F fs NoSize k (course t k k) g → own_size t size k f ≡ Err g
    own_fails h g x = go (first_split (front t k) (subst (λ ss. FirstPackFails t F fs NoSize k ss g) (course_is t k) x))
      where
        first_split : (ss : List Station) → FirstPackFails t F fs NoSize k (ss ++ end ∷ []) g → FirstPackFails t F fs NoSize k ss g ⊎ (AllByRecursion Sound ss × Stops end g)
        first_split [] (inl h) = inr (tt, h)
        first_split [] (inr h) = absurd h.1
        first_split (s ∷ ss) (inl h) = inl (inl h)
        first_split (s ∷ ss) (inr h) = elim (first_split ss h.1) [ inl q ↦ inl (inr (h.0, q)) | inr q ↦ inr ((h.0, q.0), q.1) ]

        at_end : AllByRecursion Sound (front t k) → NoSize → list_all (Fit (octets_for total)) (sequence t k) ≡ true → ⊥
        at_end s none e =
            let c = told_all (octets_for total) (sequence t k) None ties known.types tt e in
            let w = built t is can n id k f known h s c.0 in
            none w.u w.b w.passes w.fields (told_fits t is can n w.u.octets (tell_all C (sequence t k) c.0 None) (length w.u.before) total w.octets (long_before w.u w.b w.passes ∙ run_bits h w.u w.b w.fields w.passes) c.1)

        go : (FirstPackFails t F fs NoSize k (front t k) g ⊎ (AllByRecursion Sound (front t k) × Stops end g)) → own_size t size k f ≡ Err g
        go (inl q) = ap (Goes 0) (course_is t k) ∙ first_fails (front t k) (end ∷ []) 0 g front_known q
        go (inr q) = goes_on q.0 ∙ ap ends (false_from_ne_true (list_all (Fit (octets_for total)) (sequence t k)) (at_end q.0 (q.1).0)) ∙ ap (λ z. Err z) (sym (q.1).1)

  -- ---- any container

  module _ (id : ℕ) (known_of : (k : ℕ) → IsAtOrUnder t id k → Known t is can n k) (ties_of : (k : ℕ) → IsAtOrUnder t id k → AllByRecursion (λ (p : Placed). TypesTied p.part) (sequence t k)) (k : ℕ) (f : List Plain) where
    abbrev is_one : Bool
    is_one = is_some (container_of t k) && (length f == valued (sequence t k))

    one_true : HasFields t k f → is_one ≡ true
    one_true h = and_from (is_some (container_of t k)) (length f == valued (sequence t k)) h.container (eq-eqb (length f) (valued (sequence t k)) h.count)

    one_from : is_one ≡ true → HasFields t k f
    one_from e = let p = and_parts (is_some (container_of t k)) (length f == valued (sequence t k)) e in record { container = p.0; count = eqb-true (length f) (valued (sequence t k)) p.1 }

    abbrev first_by : Bool → Size
    first_by b = cond b (derived_size t size id k f) (Err (pack_fault_here reason.WrongKind))

    abbrev second_by : Bool → Size
    second_by b = cond b (concrete_size t size k f) (Err (pack_fault_at reason.NotDerived (step.Choice (id_of k) ∷ [])))

    abbrev third_by : Bool → Size
    third_by b = cond b (own_size t size k f) (Err (pack_fault_at reason.Abstract (step.Choice (id_of k) ∷ [])))

    has_under : IsAtOrUnder t id k → list_has (chain t k) id ≡ true
    has_under u = has_in (chain t k) id u.before u.after u.is

    pub fields_spelled : (b : Bits) → ContainerSpells canonical t C id k f b → fields_size t size id k f ≡ Ok (length b)
    fields_spelled b sp =
        let h = fields_of t is can n id k f (known_of k) b sp in
        ap first_by (one_true h) ∙ ap second_by (has_under sp.under) ∙ ap third_by sp.concrete ∙ own_spelled id k f (known_of k sp.under) (ties_of k sp.under) h b sp

    pub fields_fail : (g : PackFault) → ContainerPackFails t C F id k f g → fields_size t size id k f ≡ Err g
    fields_fail g (inl h) = ap first_by (false_from_ne_true is_one (λ e. h.0 (one_from e))) ∙ ap (λ z. Err z) (sym h.1)
    fields_fail g (inr (inl h)) = ap first_by (one_true h.0) ∙ ap second_by (false_from_ne_true (list_has (chain t k) id) (λ e. h.1 (has_from (chain t k) id e))) ∙ ap (λ z. Err z) (sym h.2)
    fields_fail g (inr (inr (inl h))) = ap first_by (one_true h.0) ∙ ap second_by (has_under h.1) ∙ ap third_by h.2 ∙ ap (λ z. Err z) (sym h.3)
    fields_fail g (inr (inr (inr h))) = ap first_by (one_true h.0) ∙ ap second_by (has_under h.1) ∙ ap third_by h.2 ∙ own_fails id k f (known_of k h.1) (ties_of k h.1) h.0 g h.3
