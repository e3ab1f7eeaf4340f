-- Each value of a type that is there has a canonical spelling or fails to pack at one place for one reason, and not both.
use Rattle.std.proofs.Common.{◌≡◌, ℕ, zero, suc, ◌<◌, ℤ, true, false, List, length, Option, Some, None, refl, sym, ap, subst, ◌∙◌, arith, ◌⊎◌, inl, inr}
use Rattle.std.specs.Prelude.{slice_get, IsSome}
use Rattle.std.proofs.lemmas.Bool.{cases_eq}
use Rattle.eds_types.specs.declared.reason.PackReason.TheVariants as reason
use Rattle.eds_base.specs.declared.ids.TypeId.{TypeId}
use Rattle.eds_types.specs.declared.row.TypeRow.{TypeRow}
use Rattle.eds_types.specs.declared.row.Kind.{Kind}
use Rattle.eds_types.specs.declared.row.Kind.TheVariants as kind
use Rattle.eds_types.specs.declared.row.Container.{Container}
use Rattle.eds_types.specs.declared.row.Part.{Part}
use Rattle.eds_types.specs.declared.row.Part.TheVariants as part
use Rattle.eds_bits.proofs.FormLaws.{has_canonical}
use Rattle.eds_bits.specs.Bits.{Bits}
use Rattle.eds_bits.specs.Style.{canonical}
use Rattle.eds_types.proofs.CanonicalSpelling.{listed_number, check_spelt}
use Rattle.eds_types.proofs.DecidedPacking.{Decided, decided_as, refused, of_kind, of_other_kind, items_decided}
use Rattle.eds_types.proofs.LengthChoices.{Choice, NumbersDecided}
use Rattle.eds_types.proofs.TableFacts.{Facts, IsNumbered, CheckFits, FixedFits}
use Rattle.eds_types.proofs.PackingRuns.{Supplies}
use Rattle.eds_types.proofs.Ranks.{sequence_lower, row_there}
use Rattle.eds_types.proofs.ScalarPacking.{int_decided, enum_decided, bool_decided, text_decided, bin_decided}
use Rattle.eds_types.proofs.CanonicalPatterns.{bool_exists, text_exists}
use Rattle.eds_types.proofs.ScalarReading.{size_of}
use Rattle.eds_types.specs.Rules.{KindKeeps, IsValueOf, HasKind}
use Rattle.eds_types.proofs.SpellingSizes.{same_row}
use Rattle.eds_types.specs.Fields.{Field, listed, type_by, IsAtOrUnder}
use Rattle.eds_types.specs.Packing.{PackFault, pack_fault_here, ItemPackFails, IsOfKind, ContainerPackFails, OfKindFails, KindPackFails, PackFailsWithin}
use Rattle.eds_types.specs.Plain.{Plain, num, bits, items, fields, Plains, list_of, plain}
use Rattle.eds_types.specs.Rows.{Table, Placed, sequence}
use Rattle.eds_types.specs.Spelling.{BinHas, ContainerSpells, ItemsSpell, KindSpells, SpellsWithin}
use Rattle.eds_types.proofs.Tables.{IsTable, IsPartType, IsItemType, IsIntRow, IsIntKind}
use Rattle.eds_types.proofs.AllOf.{All-weaker, All-pair}
use Rattle.eds_types.proofs.ContainerPacking.{Known, container_decided}

module _ (t : Table) (is : IsTable t) (can : Facts t) where
  -- a value of a scalar type has a canonical spelling
  fixed_kind : (E : ℕ → Plain → Bits → Type 0) (id : ℕ) (k : Kind) (v : Plain) → KindKeeps k → IsValueOf k v → (b : Bits) × KindSpells canonical t E id k v b
  fixed_kind E id (kind.Int form spans) v h x = let c = has_canonical form x.0 (h.of_form x.0 x.2) in (c.0, (x.0, x.1, x.2, c.1))
  fixed_kind E id (kind.Enum form listing) v h x = go (listed listing x.0) refl x.2
    where
      go : (o : Option ℤ) → listed listing x.0 ≡ o → IsSome o → (b : Bits) × KindSpells canonical t E id (kind.Enum form listing) v b
      go None e s = absurd (let q : true ≡ false = sym s in cc)
      go (Some n) e s = let c = has_canonical form n (listed_number form listing x.0 n h.of_form e) in (c.0, (x.0, n, x.1, e, c.1))
  fixed_kind E id (kind.Bool form) v h x = let c = bool_exists form x.0 in (c.0, (x.0, x.1, c.1))
  fixed_kind E id (kind.Str form) v h x = let c = text_exists form.length form.fixed form.ascii form.stop (size_of form) x.0 x.2 x.3 in (c.0, (x.0, x.1, c.1))
  fixed_kind E id (kind.Bin n free) v h x = let f = x.4 in (f.0, (subst (BinHas n free) (sym f.1) x.3, x.2 ∙ ap (λ k. bits k x.1) (sym f.1) ∙ ap (bits (length f.0)) (sym f.2)))
  fixed_kind E id (kind.Arr item m) v h x = absurd x
  fixed_kind E id (kind.Con c) v h x = absurd x

  fixed_spelt : (n x : ℕ) (v : Plain) → 0 < n → HasKind t x (λ k. IsValueOf k v) → (b : Bits) × SpellsWithin n canonical t x v b
  unfolding SpellsWithin
  fixed_spelt zero x v h f = absurd (omega arith)
  fixed_spelt (suc n) x v h f = let c = fixed_kind (SpellsWithin n canonical t) x (f.0).kind v (can.kinds x f.0 f.1) f.2 in (c.0, (f.0, f.1, c.1))

  -- a type of numbers has one
  number_spelt : (n x : ℕ) → 0 < n → IsIntRow (slice_get t x) → (r : ℤ) × (b : Bits) × SpellsWithin n canonical t x (num r) b
  unfolding SpellsWithin
  number_spelt zero x h i = absurd (omega arith)
  number_spelt (suc n) x h i = go (slice_get t x) refl i
    where
      by_kind : (q : Kind) → KindKeeps q → IsIntKind q → (r : ℤ) × (b : Bits) × KindSpells canonical t (SpellsWithin n canonical t) x q (num r) b
      by_kind (kind.Int form spans) p i = let r = p.some in let c = has_canonical form r.0 (p.of_form r.0 r.1) in (r.0, c.0, (r.0, refl, r.1, c.1))
      by_kind (kind.Enum form listing) p i = absurd i
      by_kind (kind.Bool form) p i = absurd i
      by_kind (kind.Str form) p i = absurd i
      by_kind (kind.Bin m free) p i = absurd i
      by_kind (kind.Arr item m) p i = absurd i
      by_kind (kind.Con con) p i = absurd i

      go : (o : Option TypeRow) → slice_get t x ≡ o → IsIntRow o → (r : ℤ) × (b : Bits) × ((row : TypeRow) × (slice_get t x ≡ Some row) × KindSpells canonical t (SpellsWithin n canonical t) x row.kind (num r) b)
      go None e i = absurd i
      go (Some row) e i = let c = by_kind row.kind (can.kinds x row e) i in (c.0, c.1, (row, e, c.2))

  abbrev pub DecidedWithin : ℕ → ℕ → Type 0
  DecidedWithin n x = (v : Plain) → Decided (SpellsWithin n canonical t x v) (PackFailsWithin n t x v)

  module _ (n : ℕ) (ih : (x : ℕ) → is.rank x < n → x < length t → DecidedWithin n x) (id : ℕ) (low : is.rank id < suc n) where
    types_of : (q : Part) → IsPartType t is.rank id q → (x : ℕ) → type_by (Some q) ≡ Some x → DecidedWithin n x
    types_of q l x e = let h = l.lower x e in let r = h.0 in ih x (omega arith) h.1

    some_level : (q : Part) → IsPartType t is.rank id q → (x : ℕ) → type_by (Some q) ≡ Some x → 0 < n
    some_level q l x e = let h = (l.lower x e).0 in omega arith

    supply : (fs : List Field) (q : Part) → IsPartType t is.rank id q → CheckFits t q → FixedFits t q → Supplies t n fs q
    supply fs (part.Plain name x) l c f = tt
    supply fs (part.Fixed name x v) l c f = fixed_spelt n x.0 (plain v) (some_level (part.Fixed name x v) l x.0 refl) f
    supply fs (part.Pad m) l c f = tt
    supply fs (part.List name x y i) l c f = tt
    supply fs (part.Length name x c0 c1) l c f = tt
    supply fs (part.Check name x k) l c f = λ before. check_spelt t n x.0 k before (some_level (part.Check name x k) l x.0 refl) c

    choice_of : (q : Part) → IsPartType t is.rank id q → IsNumbered t q → Choice (SpellsWithin n canonical t) q
    choice_of (part.Plain name x) l i = tt
    choice_of (part.Fixed name x v) l i = tt
    choice_of (part.Pad m) l i = tt
    choice_of (part.List name x y j) l i = tt
    choice_of (part.Length name x c0 c1) l i = number_spelt n x.0 (some_level (part.Length name x c0 c1) l x.0 refl) i
    choice_of (part.Check name x k) l i = tt

    numbers_of : (q : Part) → IsPartType t is.rank id q → NumbersDecided (SpellsWithin n canonical t) q
    numbers_of (part.Plain name x) l = tt
    numbers_of (part.Fixed name x v) l = tt
    numbers_of (part.Pad m) l = tt
    numbers_of (part.List name x y j) l = tt
    numbers_of (part.Length name x c0 c1) l = λ r. go r (types_of (part.Length name x c0 c1) l x.0 refl (num r))
      where
        go : (r : ℤ) → Decided (SpellsWithin n canonical t x.0 (num r)) (PackFailsWithin n t x.0 (num r)) → ((b : Bits) × SpellsWithin n canonical t x.0 (num r) b) ⊎ ((b : Bits) → SpellsWithin n canonical t x.0 (num r) b → ⊥)
        go r d = elim (d.either) [ inl h ↦ inl h | inr h ↦ inr (λ b s. d.apart b h.0 s h.1) ]
    numbers_of (part.Check name x k) l = tt

    abbrev Lowers : Placed → Type 0
    Lowers p = IsPartType t is.rank id p.part

    pub known_of : (k : ℕ) → IsAtOrUnder t id k → Known t is can n k
    known_of k u =
        let lows = sequence_lower t is id k u in
        record {
          types = All-weaker Lowers (λ (p : Placed). (x : ℕ) → type_by (Some p.part) ≡ Some x → (v : Plain) → Decided (SpellsWithin n canonical t x v) (PackFailsWithin n t x v)) (λ p l x e. types_of p.part l x e) (sequence t k) lows;
          supplies = λ fs. All-weaker (λ (p : Placed). Lowers p × (CheckFits t p.part × FixedFits t p.part)) (λ (p : Placed). Supplies t n fs p.part) (λ p h. supply fs p.part h.0 h.1.0 h.1.1) (sequence t k)
              (All-pair Lowers (λ (p : Placed). CheckFits t p.part × FixedFits t p.part) (sequence t k) lows (All-pair (λ (p : Placed). CheckFits t p.part) (λ (p : Placed). FixedFits t p.part) (sequence t k) (can.checks k) (can.fixed k)));
          lists = can.lists k;
          choices = All-weaker (λ (p : Placed). Lowers p × IsNumbered t p.part) (λ (p : Placed). Choice (SpellsWithin n canonical t) p.part) (λ p h. choice_of p.part h.0 h.1) (sequence t k) (All-pair Lowers (λ (p : Placed). IsNumbered t p.part) (sequence t k) lows (can.numbered k));
          numbers = All-weaker Lowers (λ (p : Placed). NumbersDecided (SpellsWithin n canonical t) p.part) (λ p l. numbers_of p.part l) (sequence t k) lows;
        }

    abbrev CN : ℕ → Plain → Bits → Type 0
    CN = SpellsWithin n canonical t

    abbrev FN : ℕ → Plain → PackFault → Type 0
    FN = PackFailsWithin n t

    items_is : (vs ws : Plains) → items vs ≡ items ws → vs ≡ ws
    items_is vs ws e = cc

    array_decided : (item : TypeId) (m : ℕ) → DecidedWithin n item.0 → (v : Plain) → Decided (KindSpells canonical t CN id (kind.Arr item m) v) (KindPackFails t CN FN id (kind.Arr item m) v)
    array_decided item m d (items vs) = of_kind t CN FN id (kind.Arr item m) (items vs) (KindSpells canonical t CN id (kind.Arr item m) (items vs)) (λ b p. subst (IsOfKind (kind.Arr item m)) (sym p.1) tt) (λ g f. subst (IsOfKind (kind.Arr item m)) (sym f.1) tt) (go (cases_eq (length (list_of vs)) m))
      where
        Spelt : Bits → Type 0
        Spelt b = KindSpells canonical t CN id (kind.Arr item m) (items vs) b

        go : ((length (list_of vs) ≡ m) ⊎ (length (list_of vs) ≡ m → ⊥)) → Decided (KindSpells canonical t CN id (kind.Arr item m) (items vs)) (OfKindFails t CN FN id (kind.Arr item m) (items vs))
        go (inr ne) = refused (KindSpells canonical t CN id (kind.Arr item m) (items vs)) (OfKindFails t CN FN id (kind.Arr item m) (items vs)) (pack_fault_here reason.WrongSize) (vs, refl, inl (ne, refl)) (λ b p. ne (ap (λ w. length (list_of w)) (items_is vs p.0 p.1) ∙ p.2)) only_size
          where
            only_size : (g : PackFault) → OfKindFails t CN FN id (kind.Arr item m) (items vs) g → g ≡ pack_fault_here reason.WrongSize
            only_size g f = elim (f.2) [ inl k ↦ k.1 | inr k ↦ absurd (ne (ap (λ w. length (list_of w)) (items_is vs f.0 f.1) ∙ k.0)) ]
        go (inl l) = decided_as (ItemsSpell (CN item.0) (list_of vs)) (KindSpells canonical t CN id (kind.Arr item m) (items vs)) (ItemPackFails (FN item.0) 0 (list_of vs)) (OfKindFails t CN FN id (kind.Arr item m) (items vs)) (items_decided (CN item.0) (FN item.0) d (list_of vs) 0)
            (λ b s. (vs, refl, l, s)) (λ b p. subst (λ w. ItemsSpell (CN item.0) (list_of w) b) (sym (items_is vs p.0 p.1)) p.3)
            (λ g f. (vs, refl, inr (l, f))) only_items
          where
            only_items : (g : PackFault) → OfKindFails t CN FN id (kind.Arr item m) (items vs) g → ItemPackFails (FN item.0) 0 (list_of vs) g
            only_items g f = let e = items_is vs f.0 f.1 in elim (f.2) [ inl k ↦ absurd (k.0 (ap (λ w. length (list_of w)) (sym e) ∙ l)) | inr k ↦ subst (λ w. ItemPackFails (FN item.0) 0 (list_of w) g) (sym e) k.1 ]
    array_decided item m d v = of_other_kind t CN FN id (kind.Arr item m) v (KindSpells canonical t CN id (kind.Arr item m) v) (λ b p. subst (IsOfKind (kind.Arr item m)) (sym p.1) tt) (λ g f. subst (IsOfKind (kind.Arr item m)) (sym f.1) tt) (λ e. e)

    fields_is : (k l : ℕ) (f h : Plains) → fields k f ≡ fields l h → (k ≡ l) × (f ≡ h)
    fields_is k l f h e = (cc, cc)

    con_decided : (c : Container) (v : Plain) → Decided (KindSpells canonical t CN id (kind.Con c) v) (KindPackFails t CN FN id (kind.Con c) v)
    con_decided c (fields k f) = of_kind t CN FN id (kind.Con c) (fields k f) (KindSpells canonical t CN id (kind.Con c) (fields k f)) (λ b p. subst (IsOfKind (kind.Con c)) (sym p.2) tt) (λ g q. subst (IsOfKind (kind.Con c)) (sym q.2) tt)
        (decided_as (ContainerSpells canonical t CN id k (list_of f)) (KindSpells canonical t CN id (kind.Con c) (fields k f)) (ContainerPackFails t CN FN id k (list_of f)) (OfKindFails t CN FN id (kind.Con c) (fields k f)) (container_decided t is can n id k (list_of f) (known_of k))
        (λ b sp. (k, f, refl, sp)) back (λ g q. (k, f, refl, q)) fault)
      where
        back : (b : Bits) → KindSpells canonical t CN id (kind.Con c) (fields k f) b → ContainerSpells canonical t CN id k (list_of f) b
        back b p = let e = fields_is k p.0 f p.1 p.2 in subst (λ x. ContainerSpells canonical t CN id x (list_of f) b) (sym e.0) (subst (λ y. ContainerSpells canonical t CN id p.0 (list_of y) b) (sym e.1) p.3)

        fault : (g : PackFault) → OfKindFails t CN FN id (kind.Con c) (fields k f) g → ContainerPackFails t CN FN id k (list_of f) g
        fault g p = let e = fields_is k p.0 f p.1 p.2 in subst (λ x. ContainerPackFails t CN FN id x (list_of f) g) (sym e.0) (subst (λ y. ContainerPackFails t CN FN id p.0 (list_of y) g) (sym e.1) p.3)
    con_decided c v = of_other_kind t CN FN id (kind.Con c) v (KindSpells canonical t CN id (kind.Con c) v) (λ b p. subst (IsOfKind (kind.Con c)) (sym p.2) tt) (λ g q. subst (IsOfKind (kind.Con c)) (sym q.2) tt) (λ e. e)

    kind_decided : (k : Kind) → IsItemType t is.rank id k → KindKeeps k → (v : Plain) → Decided (KindSpells canonical t CN id k v) (KindPackFails t CN FN id k v)
    kind_decided (kind.Int form spans) i h v = int_decided t CN FN id form spans h v
    kind_decided (kind.Enum form listing) i h v = enum_decided t CN FN id form listing h v
    kind_decided (kind.Bool form) i h v = bool_decided t CN FN id form v
    kind_decided (kind.Str form) i h v = text_decided t CN FN id form v
    kind_decided (kind.Bin m free) i h v = bin_decided t CN FN id m free v
    kind_decided (kind.Arr item m) i h v = array_decided item m (let r = i.0 in ih item.0 (omega arith) i.1) v
    kind_decided (kind.Con c) i h v = con_decided c v

    row_decided : (row : TypeRow) → slice_get t id ≡ Some row → (v : Plain)
        → Decided (λ b. (r : TypeRow) × (slice_get t id ≡ Some r) × KindSpells canonical t CN id r.kind v b) (λ g. (r : TypeRow) × (slice_get t id ≡ Some r) × KindPackFails t CN FN id r.kind v g)
    row_decided row e v = decided_as (KindSpells canonical t CN id row.kind v) _ (KindPackFails t CN FN id row.kind v) _ (kind_decided row.kind (is.items id row e) (can.kinds id row e) v)
        (λ b p. (row, e, p)) (λ b p. subst (λ (r : TypeRow). KindSpells canonical t CN id r.kind v b) (same_row t id p.0 row p.1 e) p.2)
        (λ g q. (row, e, q)) (λ g q. subst (λ (r : TypeRow). KindPackFails t CN FN id r.kind v g) (same_row t id q.0 row q.1 e) q.2)

  pub packs_within : (n id : ℕ) → is.rank id < n → id < length t → DecidedWithin n id
  unfolding SpellsWithin PackFailsWithin
  packs_within zero id h l v = absurd (omega arith)
  packs_within (suc n) id h l v = let row = row_there t is id l in row_decided n (packs_within n) id h row.0 row.1 v
