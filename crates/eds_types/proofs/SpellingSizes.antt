-- All spellings of one value have the same number of bits; a canonical spelling is a spelling.
use Rattle.std.proofs.Common.{◌≡◌, ℕ, zero, suc, ◌+◌, ◌*◌, ℤ, Bool, true, false, List, [], ◌∷◌, ◌++◌, length, Option, Some, refl, sym, ap, subst, ◌∙◌, append_assoc, arith}
use Rattle.std.specs.Prelude.{slice_get}
use Rattle.std.specs.List.{AllByRecursion}
use Rattle.std.proofs.lemmas.List.{length-append}
use Rattle.eds_types.proofs.SameValues.{bin_bits}
use Rattle.eds_types.specs.declared.row.TypeRow.{TypeRow}
use Rattle.eds_types.specs.declared.row.Kind.{Kind}
use Rattle.eds_types.specs.declared.row.Kind.TheVariants as kind
use Rattle.eds_types.specs.declared.row.Part.{Part}
use Rattle.eds_types.specs.declared.row.Part.TheVariants as part
use Rattle.eds_bits.specs.Bits.{Bits}
use Rattle.eds_bits.specs.Scalars.{IsText}
use Rattle.eds_bits.specs.Style.{any, canonical}
use Rattle.eds_types.proofs.FieldTypes.{parts_fit, sequence_placed}
use Rattle.eds_types.proofs.Grown.{only_grown}
use Rattle.eds_types.proofs.TableFacts.{IsNumbered}
use Rattle.eds_types.proofs.ScalarReading.{IsTextSize, size_of, text_form}
use Rattle.eds_types.specs.Fields.{Field, values_of, paired, field_of}
use Rattle.eds_types.specs.Plain.{Plain, num, text, items, fields, list_of}
use Rattle.eds_types.specs.Rows.{Table, Placed, sequence}
use Rattle.eds_types.specs.Spelling.{Progress, started, ItemsSpell, PartPasses, PartsPass, ContainerSpells, KindSpells, SpellsWithin}
use Rattle.eds_types.proofs.Tables.{IsIntRow, IsIntKind}

-- ---- a canonical spelling is a spelling

pub items_any : (E F : Plain → Bits → Type 0) → ((v : Plain) (b : Bits) → E v b → F v b) → (vs : List Plain) (b : Bits) → ItemsSpell E vs b → ItemsSpell F vs b
items_any E F g [] b h = h
items_any E F g (v ∷ vs) b h = (h.0, h.1, h.2, g v h.0 h.3, items_any E F g vs h.1 h.4)

module _ (t : Table) (E F : ℕ → Plain → Bits → Type 0) (g : (id : ℕ) (v : Plain) (b : Bits) → E id v b → F id v b) where
  pub part_any : (s : Progress) (p : Placed) (q : Part) (u : Progress) (b : Bits) → PartPasses canonical t E s p q u b → PartPasses any t F s p q u b
  part_any s p (part.Plain name id) u b h = (h.0, g id.0 h.0 b h.1, h.2)
  part_any s p (part.Fixed name id v) u b h = (g id.0 _ b h.0, h.1)
  part_any s p (part.Pad n) u b h = (h.0, tt, h.2)
  part_any s p (part.List name id y i) u b h = (h.0, h.1, items_any (E id.0) (F id.0) (g id.0) (list_of h.0) b h.2, h.3)
  part_any s p (part.Length name id c0 c1) u b h = (h.0, g id.0 _ b h.1, h.2)
  part_any s p (part.Check name id k) u b h = (g id.0 _ b h.0, h.1)

  pub parts_any : (ps : List Placed) (s u : Progress) (b : Bits) → PartsPass canonical t E s ps u b → PartsPass any t F s ps u b
  parts_any [] s u b h = h
  parts_any (p ∷ ps) s u b h = (h.0, h.1, h.2, h.3, part_any s p p.part h.0 h.1 h.4, parts_any ps h.0 u h.2 h.5)

  pub text_any : (n : ℕ) (fixed ascii : Bool) (stop : ℕ) (size : IsTextSize n stop) (s : List ℕ) (b : Bits) → IsText canonical (text_form n fixed ascii stop size) s b → IsText any (text_form n fixed ascii stop size) s b
  text_any n true ascii stop size s b h = record { size = h.size; value = h.value; coded = h.coded; filler = tt }
  text_any n false ascii stop size s b h = h

  kind_any : (id : ℕ) (k : Kind) (v : Plain) (b : Bits) → KindSpells canonical t E id k v b → KindSpells any t F id k v b
  kind_any id (kind.Int form spans) v b h = (h.0, h.1, h.2, record { is = (h.3).is; zero_plain = tt })
  kind_any id (kind.Enum form listing) v b h = (h.0, h.1, h.2, h.3, record { is = (h.4).is; zero_plain = tt })
  kind_any id (kind.Bool form) v b h = (h.0, h.1, record { size = (h.2).size; meaning = (h.2).meaning; one = tt })
  kind_any id (kind.Str form) v b h = (h.0, h.1, text_any form.length form.fixed form.ascii form.stop (size_of form) h.0 b h.2)
  kind_any id (kind.Bin n free) v b h = h
  kind_any id (kind.Arr item n) v b h = (h.0, h.1, h.2, items_any (E item.0) (F item.0) (g item.0) (list_of h.0) b h.3)
  kind_any id (kind.Con c) v b h =
      let sp = h.3 in
      (h.0, h.1, h.2, record { concrete = sp.concrete; under = sp.under; end = sp.end; parts = parts_any (sequence t h.0) started (sp.end) b sp.parts; values = sp.values; size = sp.size; constraints = sp.constraints; most_derived = sp.most_derived })

pub canon_spells : (t : Table) (n id : ℕ) (v : Plain) (b : Bits) → SpellsWithin n canonical t id v b → SpellsWithin n any t id v b
unfolding SpellsWithin
canon_spells t zero id v b h = h
canon_spells t (suc n) id v b h = (h.0, h.1, kind_any t (SpellsWithin n canonical t) (SpellsWithin n any t) (canon_spells t n) id (h.0).kind v b h.2)

-- ---- sizes

pub same_row : (t : Table) (id : ℕ) (r q : TypeRow) → slice_get t id ≡ Some r → slice_get t id ≡ Some q → r ≡ q
same_row t id r q e h = let z : ◌≡◌ {A = Option TypeRow} (Some r) (Some q) = sym e ∙ h in cc

pub tail_same : {A : Type 0} (xs : List A) (ys zs : List A) → xs ++ ys ≡ xs ++ zs → ys ≡ zs
tail_same [] ys zs e = e
tail_same (x ∷ xs) ys zs e = let q : xs ++ ys ≡ xs ++ zs = cc in tail_same xs ys zs q

-- an element added by each of two runs to the same list is the same
pub added_same : (xs ys : List Field) (f g : Field) (more rest : List Field) → xs ≡ ys → (xs ++ f ∷ []) ++ more ≡ (ys ++ g ∷ []) ++ rest → f ≡ g
added_same xs ys f g more rest e h =
    let q : f ∷ more ≡ g ∷ rest = tail_same xs (f ∷ more) (g ∷ rest) (sym (append_assoc xs (f ∷ []) more) ∙ h ∙ append_assoc ys (g ∷ []) rest ∙ ap (λ l. l ++ g ∷ rest) (sym e)) in
    cc

items_size : (E : Plain → Bits → Type 0) → ((v : Plain) (b c : Bits) → E v b → E v c → length b ≡ length c) → (vs : List Plain) (b c : Bits) → ItemsSpell E vs b → ItemsSpell E vs c → length b ≡ length c
items_size E g [] b c h k = ap length h ∙ ap length (sym k)
items_size E g (v ∷ vs) b c h k = omega (arith, ap length h.2, ap length k.2, length-append h.0 h.1, length-append k.0 k.1, g v h.0 k.0 h.3 k.3, items_size E g vs h.1 k.1 h.4 k.4)

-- the numbers of the type have all the same size
pub NumberSize : (ℕ → Plain → Bits → Type 0) → ℕ → Type 0
NumberSize E id = (r q : ℤ) (b c : Bits) → E id (num r) b → E id (num q) c → length b ≡ length c

abbrev pub IsSized : (ℕ → Plain → Bits → Type 0) → Part → Type 0
IsSized E (part.Plain name id) = Unit {0}
IsSized E (part.Fixed name id v) = Unit {0}
IsSized E (part.Pad n) = Unit {0}
IsSized E (part.List name id y i) = Unit {0}
IsSized E (part.Length name id c0 c1) = NumberSize E id.0
IsSized E (part.Check name id k) = NumberSize E id.0

module _ (t : Table) (E : ℕ → Plain → Bits → Type 0) (g : (id : ℕ) (v : Plain) (b c : Bits) → E id v b → E id v c → length b ≡ length c) where
  -- two runs over the same part, with the same fields in the end
  part_size : (s z : Progress) (p : Placed) (q : Part) (u w : Progress) (b c : Bits) (more rest : List Field) → IsSized E q → s.fields ≡ z.fields → u.fields ++ more ≡ w.fields ++ rest → PartPasses any t E s p q u b → PartPasses any t E z p q w c → (length b ≡ length c) × (u.fields ≡ w.fields)
  unfolding NumberSize
  part_size s z p (part.Plain name id) u w b c more rest sz e f h k =
      let uf = ap (λ (x : Progress). x.fields) h.2 in let wf = ap (λ (x : Progress). x.fields) k.2 in
      let a = added_same s.fields z.fields (field_of p h.0) (field_of p k.0) more rest e (ap (λ l. l ++ more) (sym uf) ∙ f ∙ ap (λ l. l ++ rest) wf) in
      let v : h.0 ≡ k.0 = ap (λ (x : Field). x.value) a in
      (g id.0 k.0 b c (subst (λ x. E id.0 x b) v h.1) k.1, uf ∙ ap (λ l. l ++ (field_of p h.0) ∷ []) e ∙ ap (λ x. z.fields ++ x ∷ []) a ∙ sym wf)
  part_size s z p (part.Fixed name id v) u w b c more rest sz e f h k = (g id.0 _ b c h.0 k.0, ap (λ (x : Progress). x.fields) h.1 ∙ e ∙ sym (ap (λ (x : Progress). x.fields) k.1))
  part_size s z p (part.Pad n) u w b c more rest sz e f h k = (h.0 ∙ sym k.0, ap (λ (x : Progress). x.fields) h.2 ∙ e ∙ sym (ap (λ (x : Progress). x.fields) k.2))
  part_size s z p (part.List name id y i) u w b c more rest sz e f h k =
      let uf = ap (λ (x : Progress). x.fields) h.3 in let wf = ap (λ (x : Progress). x.fields) k.3 in
      let a = added_same s.fields z.fields (field_of p (items h.0)) (field_of p (items k.0)) more rest e (ap (λ l. l ++ more) (sym uf) ∙ f ∙ ap (λ l. l ++ rest) wf) in
      let v : items h.0 ≡ items k.0 = ap (λ (x : Field). x.value) a in
      let vs : h.0 ≡ k.0 = cc in
      (items_size (E id.0) (g id.0) (list_of k.0) b c (subst (λ x. ItemsSpell (E id.0) (list_of x) b) vs h.2) k.2, uf ∙ ap (λ l. l ++ (field_of p (items h.0)) ∷ []) e ∙ ap (λ x. z.fields ++ x ∷ []) a ∙ sym wf)
  part_size s z p (part.Length name id c0 c1) u w b c more rest sz e f h k = (sz h.0 k.0 b c h.1 k.1, ap (λ (x : Progress). x.fields) h.2 ∙ e ∙ sym (ap (λ (x : Progress). x.fields) k.2))
  part_size s z p (part.Check name id kd) u w b c more rest sz e f h k = (sz _ _ b c h.0 k.0, ap (λ (x : Progress). x.fields) h.1 ∙ e ∙ sym (ap (λ (x : Progress). x.fields) k.1))

  pub parts_size : (ps : List Placed) (s z u w : Progress) (b c : Bits) → AllByRecursion (λ (p : Placed). IsSized E p.part) ps → s.fields ≡ z.fields → u.fields ≡ w.fields → PartsPass any t E s ps u b → PartsPass any t E z ps w c → length b ≡ length c
  parts_size [] s z u w b c sz e f h k = ap length h.1 ∙ ap length (sym k.1)
  parts_size (p ∷ ps) s z u w b c sz e f h k =
      let one = only_grown any t E ps h.0 u h.2 h.5 in
      let two = only_grown any t E ps k.0 w k.2 k.5 in
      let r = part_size s z p p.part h.0 k.0 h.1 k.1 one.0 two.0 sz.0 e (sym one.1 ∙ f ∙ two.1) h.4 k.4 in
      omega (arith, r.0, parts_size ps h.0 k.0 u w h.2 k.2 sz.1 r.1 f h.5 k.5, ap length h.3, ap length k.3, length-append h.1 h.2, length-append k.1 k.2)

module _ (t : Table) where
  pub number_size : (n x : ℕ) → IsIntRow (slice_get t x) → NumberSize (SpellsWithin n any t) x
  unfolding SpellsWithin NumberSize
  number_size zero x i r q b c h k = absurd h
  number_size (suc n) x i r q b c h k =
      let e = same_row t x k.0 h.0 k.1 h.1 in
      go (h.0).kind (subst IsIntRow h.1 i) h.2 (subst (λ (y : TypeRow). KindSpells any t (SpellsWithin n any t) x y.kind (num q) c) e k.2)
    where
      go : (k : Kind) → IsIntKind k → KindSpells any t (SpellsWithin n any t) x k (num r) b → KindSpells any t (SpellsWithin n any t) x k (num q) c → length b ≡ length c
      go (kind.Int form spans) i h k = (h.3).is.size ∙ sym (k.3).is.size
      go (kind.Enum form listing) i h k = absurd i
      go (kind.Bool form) i h k = absurd i
      go (kind.Str form) i h k = absurd i
      go (kind.Bin m free) i h k = absurd i
      go (kind.Arr item m) i h k = absurd i
      go (kind.Con con) i h k = absurd i

  text_size : (n : ℕ) (fixed ascii : Bool) (stop : ℕ) (size : IsTextSize n stop) (s r : List ℕ) (b c : Bits) → s ≡ r → IsText any (text_form n fixed ascii stop size) s b → IsText any (text_form n fixed ascii stop size) r c → length b ≡ length c
  text_size n true ascii stop size s r b c e h k = h.size ∙ sym k.size
  text_size n false ascii stop size s r b c e h k = h.size ∙ ap (λ l. 8 * (length l + 1)) e ∙ sym k.size

  sized_by : (n : ℕ) (q : Part) → IsNumbered t q → IsSized (SpellsWithin n any t) q
  sized_by n (part.Plain name id) h = tt
  sized_by n (part.Fixed name id v) h = tt
  sized_by n (part.Pad m) h = tt
  sized_by n (part.List name id y i) h = tt
  sized_by n (part.Length name id c0 c1) h = number_size n id.0 h
  sized_by n (part.Check name id k) h = number_size n id.0 h

  pub all_sized : (n : ℕ) (ps : List Placed) → AllByRecursion (λ (p : Placed). IsNumbered t p.part) ps → AllByRecursion (λ (p : Placed). IsSized (SpellsWithin n any t) p.part) ps
  all_sized n [] h = tt
  all_sized n (p ∷ ps) h = (sized_by n p.part h.0, all_sized n ps h.1)

  abbrev pub AllNumbered : Type 0
  AllNumbered = (k : ℕ) → AllByRecursion (λ (p : Placed). IsNumbered t p.part) (sequence t k)

  -- the last fields are those that the value gives
  pub fields_by : (n k : ℕ) (u : Progress) (b : Bits) (f : List Plain) → PartsPass any t (SpellsWithin n any t) started (sequence t k) u b → f ≡ values_of u.fields → u.fields ≡ paired (sequence t k) f
  fields_by n k u b f h e =
      let a = parts_fit t n (sequence t k) started u b (sequence_placed t k) tt h in
      a.1.1 ∙ sym a.1.2 ∙ ap (paired (sequence t k)) (ap values_of (sym a.1.1) ∙ sym e)

  kind_size : AllNumbered → (n : ℕ) → ((id : ℕ) (v : Plain) (b c : Bits) → SpellsWithin n any t id v b → SpellsWithin n any t id v c → length b ≡ length c) → (id : ℕ) (q : Kind) (v : Plain) (b c : Bits) → KindSpells any t (SpellsWithin n any t) id q v b → KindSpells any t (SpellsWithin n any t) id q v c → length b ≡ length c
  kind_size nums n g id (kind.Int form spans) v b c h k = (h.3).is.size ∙ sym (k.3).is.size
  kind_size nums n g id (kind.Enum form listing) v b c h k = (h.4).is.size ∙ sym (k.4).is.size
  kind_size nums n g id (kind.Bool form) v b c h k = (h.2).size ∙ sym (k.2).size
  kind_size nums n g id (kind.Str form) v b c h k = let e : text h.0 ≡ text k.0 = sym h.1 ∙ k.1 in let e' : h.0 ≡ k.0 = cc in text_size form.length form.fixed form.ascii form.stop (size_of form) h.0 k.0 b c e' h.2 k.2
  kind_size nums n g id (kind.Bin m free) v b c h k = ap bin_bits (sym h.1 ∙ k.1)
  kind_size nums n g id (kind.Arr item m) v b c h k = let e : items h.0 ≡ items k.0 = sym h.1 ∙ k.1 in let e' : h.0 ≡ k.0 = cc in items_size (SpellsWithin n any t item.0) (g item.0) (list_of k.0) b c (subst (λ x. ItemsSpell (SpellsWithin n any t item.0) (list_of x) b) e' h.3) k.3
  kind_size nums n g id (kind.Con con) v b c h k =
      let e : fields h.0 h.1 ≡ fields k.0 k.1 = sym h.2 ∙ k.2 in
      let e0 : h.0 ≡ k.0 = cc in let e1 : h.1 ≡ k.1 = cc in
      let sp = subst (λ x. ContainerSpells any t (SpellsWithin n any t) id x (list_of h.1) b) e0 h.3 in
      let sq = k.3 in
      let f1 = fields_by n k.0 (sp.end) b (list_of h.1) sp.parts sp.values in
      let f2 = fields_by n k.0 (sq.end) c (list_of k.1) sq.parts sq.values in
      parts_size t (SpellsWithin n any t) g (sequence t k.0) started started (sp.end) (sq.end) b c (all_sized n (sequence t k.0) (nums k.0)) refl (f1 ∙ ap (λ x. paired (sequence t k.0) (list_of x)) e1 ∙ sym f2) sp.parts sq.parts

  pub same_size : AllNumbered → (n id : ℕ) (v : Plain) (b c : Bits) → SpellsWithin n any t id v b → SpellsWithin n any t id v c → length b ≡ length c
  unfolding SpellsWithin
  same_size nums zero id v b c h k = absurd h
  same_size nums (suc n) id v b c h k = kind_size nums n (same_size nums n) id (h.0).kind v b c h.2 (subst (λ (y : TypeRow). KindSpells any t (SpellsWithin n any t) id y.kind v c) (same_row t id k.0 h.0 k.1 h.1) k.2)
