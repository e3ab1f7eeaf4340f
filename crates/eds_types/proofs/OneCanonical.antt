-- There is at most one canonical spelling of a value.
use Rattle.std.proofs.Common.{◌≡◌, ℕ, zero, suc, ℤ, pos, ◌+ℤ◌, ◌*ℤ◌, List, [], ◌∷◌, ◌++◌, length, Option, Some, None, refl, sym, ap, subst, ◌∙◌, ◌⊎◌, inl, inr}
use Rattle.std.specs.Prelude.{IfSome, is_some}
use Rattle.std.specs.List.{AllByRecursion}
use Rattle.eds_bits.proofs.FormLaws.{one_canonical}
use Rattle.eds_bits.specs.Bits.{Bits, octets_for}
use Rattle.eds_bits.specs.IntForms.{IsNumber}
use Rattle.eds_bits.specs.Scalars.{check_of}
use Rattle.eds_bits.specs.Style.{any, canonical}
use Rattle.eds_types.proofs.SameValues.{bin_bits}
use Rattle.eds_types.specs.declared.row.TypeRow.{TypeRow}
use Rattle.eds_types.specs.declared.row.Kind.{Kind}
use Rattle.eds_types.specs.declared.row.Kind.TheVariants as kind
use Rattle.eds_types.specs.declared.row.Part.{Part}
use Rattle.eds_types.specs.declared.row.Part.TheVariants as part
use Rattle.eds_types.specs.Fields.{Field, paired, listed, field_of}
use Rattle.eds_types.specs.Plain.{Plain, num, text, label, truth, bits, items, fields, list_of}
use Rattle.eds_types.specs.Rows.{Table, Placed, sequence}
use Rattle.eds_types.specs.Spelling.{Progress, started, ItemsSpell, PartPasses, PartsPass, ContainerSpells, KindSpells, SpellsWithin}
use Rattle.eds_types.proofs.CanonicalPatterns.{zero_zeros, false_same, bool_unique, text_unique, octets_same}
use Rattle.eds_types.proofs.CanonicalSpelling.{parts_before}
use Rattle.eds_types.proofs.Grown.{only_grown}
use Rattle.eds_types.proofs.ScalarReading.{size_of}
use Rattle.eds_types.proofs.Scales.{scaled_same}
use Rattle.eds_types.proofs.SpellingSizes.{canon_spells, same_size, parts_any, parts_size, all_sized, same_row, added_same, fields_by}
use Rattle.eds_types.proofs.TableFacts.{Facts, IsScaled, IsLengthOnce, NoLength}

-- ---- parts

items_unique : (E : Plain → Bits → Type 0) → ((v : Plain) (b c : Bits) → E v b → E v c → b ≡ c) → (vs : List Plain) (b c : Bits) → ItemsSpell E vs b → ItemsSpell E vs c → b ≡ c
items_unique E g [] b c h k = h ∙ sym k
items_unique E g (v ∷ vs) b c h k = h.2 ∙ ap (λ l. l ++ h.1) (g v h.0 k.0 h.3 k.3) ∙ ap (λ l. k.0 ++ l) (items_unique E g vs h.1 k.1 h.4 k.4) ∙ sym k.2

some_is : (a b : ℤ) → ◌≡◌ {A = Option ℤ} (Some a) (Some b) → a ≡ b
some_is a b e = cc

module _ (t : Table) (n : ℕ) (g : (id : ℕ) (v : Plain) (b c : Bits) → SpellsWithin n canonical t id v b → SpellsWithin n canonical t id v c → b ≡ c) where
  abbrev C : ℕ → Plain → Bits → Type 0
  C = SpellsWithin n canonical t

  -- two runs over a part go to like states by the same bits
  record Same (b c : Bits) (u w : Progress) : Type 0 where
    bits : b ≡ c
    fields : u.fields ≡ w.fields
    before : u.before ≡ w.before

  part_unique : (s z : Progress) (p : Placed) (q : Part) (u w : Progress) (b c : Bits) (more rest : List Field) → IsScaled q → (NoLength q ⊎ (u.octets ≡ w.octets)) → s.fields ≡ z.fields → s.before ≡ z.before → u.fields ++ more ≡ w.fields ++ rest → PartPasses canonical t C s p q u b → PartPasses canonical t C z p q w c → Same b c u w
  part_unique s z p (part.Plain name id) u w b c more rest sc o e f l h k =
      let uf = ap (λ (x : Progress). x.fields) h.2 in let wf = ap (λ (x : Progress). x.fields) k.2 in
      let a = added_same s.fields z.fields (field_of p h.0) (field_of p k.0) more rest e (ap (λ l. l ++ more) (sym uf) ∙ l ∙ ap (λ l. l ++ rest) wf) in
      let v : h.0 ≡ k.0 = ap (λ (x : Field). x.value) a in
      let bc = g id.0 k.0 b c (subst (λ x. C id.0 x b) v h.1) k.1 in
      record { bits = bc; fields = uf ∙ ap (λ l. l ++ (field_of p h.0) ∷ []) e ∙ ap (λ x. z.fields ++ x ∷ []) a ∙ sym wf; before = ap (λ (x : Progress). x.before) h.2 ∙ ap (λ l. l ++ b) f ∙ ap (λ l. z.before ++ l) bc ∙ sym (ap (λ (x : Progress). x.before) k.2) }
  part_unique s z p (part.Fixed name id v) u w b c more rest sc o e f l h k =
      let bc = g id.0 _ b c h.0 k.0 in
      record { bits = bc; fields = ap (λ (x : Progress). x.fields) h.1 ∙ e ∙ sym (ap (λ (x : Progress). x.fields) k.1); before = ap (λ (x : Progress). x.before) h.1 ∙ ap (λ l. l ++ b) f ∙ ap (λ l. z.before ++ l) bc ∙ sym (ap (λ (x : Progress). x.before) k.1) }
  part_unique s z p (part.Pad m) u w b c more rest sc o e f l h k =
      let bc = false_same b c (h.0 ∙ sym k.0) (zero_zeros b h.1) (zero_zeros c k.1) in
      record { bits = bc; fields = ap (λ (x : Progress). x.fields) h.2 ∙ e ∙ sym (ap (λ (x : Progress). x.fields) k.2); before = ap (λ (x : Progress). x.before) h.2 ∙ ap (λ l. l ++ b) f ∙ ap (λ l. z.before ++ l) bc ∙ sym (ap (λ (x : Progress). x.before) k.2) }
  part_unique s z p (part.List name id y i) u w b c more rest sc o e f l h k =
      let uf = ap (λ (x : Progress). x.fields) h.3 in let wf = ap (λ (x : Progress). x.fields) k.3 in
      let a = added_same s.fields z.fields (field_of p (items h.0)) (field_of p (items k.0)) more rest e (ap (λ l. l ++ more) (sym uf) ∙ l ∙ ap (λ l. l ++ rest) wf) in
      let v : items h.0 ≡ items k.0 = ap (λ (x : Field). x.value) a in
      let vs : h.0 ≡ k.0 = cc in
      let bc = items_unique (C id.0) (g id.0) (list_of k.0) b c (subst (λ x. ItemsSpell (C id.0) (list_of x) b) vs h.2) k.2 in
      record { bits = bc; fields = uf ∙ ap (λ l. l ++ (field_of p (items h.0)) ∷ []) e ∙ ap (λ x. z.fields ++ x ∷ []) a ∙ sym wf; before = ap (λ (x : Progress). x.before) h.3 ∙ ap (λ l. l ++ b) f ∙ ap (λ l. z.before ++ l) bc ∙ sym (ap (λ (x : Progress). x.before) k.3) }
  part_unique s z p (part.Length name id c0 c1) u w b c more rest sc (inl no_length) e f l h k = absurd no_length
  part_unique s z p (part.Length name id c0 c1) u w b c more rest sc (inr o) e f l h k =
      let q : c0 +ℤ (c1 *ℤ h.0) ≡ c0 +ℤ (c1 *ℤ k.0) = some_is (c0 +ℤ (c1 *ℤ h.0)) (c0 +ℤ (c1 *ℤ k.0)) (sym (ap (λ (x : Progress). x.octets) h.2) ∙ o ∙ ap (λ (x : Progress). x.octets) k.2) in
      let bc = g id.0 (num k.0) b c (subst (λ x. C id.0 (num x) b) (scaled_same c0 c1 h.0 k.0 sc.0 sc.1 q) h.1) k.1 in
      record { bits = bc; fields = ap (λ (x : Progress). x.fields) h.2 ∙ e ∙ sym (ap (λ (x : Progress). x.fields) k.2); before = ap (λ (x : Progress). x.before) h.2 ∙ ap (λ l. l ++ b) f ∙ ap (λ l. z.before ++ l) bc ∙ sym (ap (λ (x : Progress). x.before) k.2) }
  part_unique s z p (part.Check name id kd) u w b c more rest sc o e f l h k =
      let bc = g id.0 (num (pos (check_of kd z.before))) b c (subst (λ y. C id.0 (num (pos (check_of kd y))) b) f h.0) k.0 in
      record { bits = bc; fields = ap (λ (x : Progress). x.fields) h.1 ∙ e ∙ sym (ap (λ (x : Progress). x.fields) k.1); before = ap (λ (x : Progress). x.before) h.1 ∙ ap (λ l. l ++ b) f ∙ ap (λ l. z.before ++ l) bc ∙ sym (ap (λ (x : Progress). x.before) k.1) }

  -- the number told stays where no length entry follows
  part_tells : (s : Progress) (p : Placed) (q : Part) (u : Progress) (b : Bits) → NoLength q → PartPasses canonical t C s p q u b → u.octets ≡ s.octets
  part_tells s p (part.Plain name id) u b no_length h = ap (λ (x : Progress). x.octets) h.2
  part_tells s p (part.Fixed name id v) u b no_length h = ap (λ (x : Progress). x.octets) h.1
  part_tells s p (part.Pad m) u b no_length h = ap (λ (x : Progress). x.octets) h.2
  part_tells s p (part.List name id y i) u b no_length h = ap (λ (x : Progress). x.octets) h.3
  part_tells s p (part.Length name id c0 c1) u b no_length h = absurd no_length
  part_tells s p (part.Check name id k) u b no_length h = ap (λ (x : Progress). x.octets) h.1

  parts_tell : (ps : List Placed) (s u : Progress) (b : Bits) → AllByRecursion (λ (p : Placed). NoLength p.part) ps → PartsPass canonical t C s ps u b → u.octets ≡ s.octets
  parts_tell [] s u b a h = ap (λ (x : Progress). x.octets) h.0
  parts_tell (p ∷ ps) s u b a h = parts_tell ps h.0 u h.2 a.1 h.5 ∙ part_tells s p p.part h.0 h.1 a.0 h.4

  length_or : (q : Part) → NoLength q ⊎ (NoLength q → ⊥)
  length_or (part.Plain name id) = inl tt
  length_or (part.Fixed name id v) = inl tt
  length_or (part.Pad m) = inl tt
  length_or (part.List name id y i) = inl tt
  length_or (part.Length name id c0 c1) = inr (λ h. h)
  length_or (part.Check name id k) = inl tt

  -- whether a number was told is the same of two runs
  part_known : (s z : Progress) (p : Placed) (q : Part) (u w : Progress) (b c : Bits) → is_some s.octets ≡ is_some z.octets → PartPasses canonical t C s p q u b → PartPasses canonical t C z p q w c → is_some u.octets ≡ is_some w.octets
  part_known s z p (part.Plain name id) u w b c e h k = ap (λ (x : Progress). is_some x.octets) h.2 ∙ e ∙ sym (ap (λ (x : Progress). is_some x.octets) k.2)
  part_known s z p (part.Fixed name id v) u w b c e h k = ap (λ (x : Progress). is_some x.octets) h.1 ∙ e ∙ sym (ap (λ (x : Progress). is_some x.octets) k.1)
  part_known s z p (part.Pad m) u w b c e h k = ap (λ (x : Progress). is_some x.octets) h.2 ∙ e ∙ sym (ap (λ (x : Progress). is_some x.octets) k.2)
  part_known s z p (part.List name id y i) u w b c e h k = ap (λ (x : Progress). is_some x.octets) h.3 ∙ e ∙ sym (ap (λ (x : Progress). is_some x.octets) k.3)
  part_known s z p (part.Length name id c0 c1) u w b c e h k = ap (λ (x : Progress). is_some x.octets) h.2 ∙ sym (ap (λ (x : Progress). is_some x.octets) k.2)
  part_known s z p (part.Check name id kd) u w b c e h k = ap (λ (x : Progress). is_some x.octets) h.1 ∙ e ∙ sym (ap (λ (x : Progress). is_some x.octets) k.1)

  parts_known : (ps : List Placed) (s z u w : Progress) (b c : Bits) → is_some s.octets ≡ is_some z.octets → PartsPass canonical t C s ps u b → PartsPass canonical t C z ps w c → is_some u.octets ≡ is_some w.octets
  parts_known [] s z u w b c e h k = ap (λ (x : Progress). is_some x.octets) h.0 ∙ e ∙ sym (ap (λ (x : Progress). is_some x.octets) k.0)
  parts_known (p ∷ ps) s z u w b c e h k = parts_known ps h.0 k.0 u w h.2 k.2 (part_known s z p p.part h.0 k.0 h.1 k.1 e h.4 k.4) h.5 k.5

  parts_unique : (ps : List Placed) (s z u w : Progress) (b c : Bits) → AllByRecursion (λ (p : Placed). IsScaled p.part) ps → IsLengthOnce ps → s.fields ≡ z.fields → s.before ≡ z.before → u.fields ≡ w.fields → u.octets ≡ w.octets → PartsPass canonical t C s ps u b → PartsPass canonical t C z ps w c → b ≡ c
  parts_unique [] s z u w b c sc once e f l o h k = h.1 ∙ sym k.1
  parts_unique (p ∷ ps) s z u w b c sc once e f l o h k =
      let one = only_grown canonical t C ps h.0 u h.2 h.5 in
      let two = only_grown canonical t C ps k.0 w k.2 k.5 in
      let r = part_unique s z p p.part h.0 k.0 h.1 k.1 one.0 two.0 sc.0 (tells (length_or p.part)) e f (sym one.1 ∙ l ∙ two.1) h.4 k.4 in
      h.3 ∙ ap (λ y. y ++ h.2) r.bits ∙ ap (λ y. k.1 ++ y) (parts_unique ps h.0 k.0 u w h.2 k.2 sc.1 once.1 r.fields r.before l o h.5 k.5) ∙ sym k.3
    where
      tells : (NoLength p.part ⊎ (NoLength p.part → ⊥)) → NoLength p.part ⊎ ((h.0).octets ≡ (k.0).octets)
      tells (inl x) = inl x
      tells (inr x) = inr (sym (parts_tell ps h.0 u h.2 (once.0 x) h.5) ∙ o ∙ parts_tell ps k.0 w k.2 (once.0 x) k.5)

fits_same : (o q : Option ℤ) (x y : ℕ) → is_some o ≡ is_some q → x ≡ y → IfSome o (λ n. n ≡ pos (octets_for x)) → IfSome q (λ n. n ≡ pos (octets_for y)) → o ≡ q
fits_same None None x y e l h k = refl
fits_same None (Some m) x y e l h k = absurd cc
fits_same (Some n) None x y e l h k = absurd cc
fits_same (Some n) (Some m) x y e l h k = ap Some (h ∙ ap (λ z. pos (octets_for z)) l ∙ sym k)

module _ (t : Table) (can : Facts t) where
  kind_unique : (n : ℕ) → ((id : ℕ) (v : Plain) (b c : Bits) → SpellsWithin n canonical t id v b → SpellsWithin n canonical t id v c → b ≡ c) → (id : ℕ) (q : Kind) (v : Plain) (b c : Bits) → KindSpells canonical t (SpellsWithin n canonical t) id q v b → KindSpells canonical t (SpellsWithin n canonical t) id q v c → b ≡ c
  kind_unique n g id (kind.Int form spans) v b c h k = let e : num h.0 ≡ num k.0 = sym h.1 ∙ k.1 in let e' : h.0 ≡ k.0 = cc in one_canonical form k.0 b c (subst (λ x. IsNumber canonical form x b) e' h.3) k.3
  kind_unique n g id (kind.Enum form listing) v b c h k =
      let e : label h.0 ≡ label k.0 = sym h.2 ∙ k.2 in let e' : h.0 ≡ k.0 = cc in
      let m : h.1 ≡ k.1 = some_is h.1 k.1 (sym h.3 ∙ ap (listed listing) e' ∙ k.3) in
      one_canonical form k.1 b c (subst (λ x. IsNumber canonical form x b) m h.4) k.4
  kind_unique n g id (kind.Bool form) v b c h k = let e : truth h.0 ≡ truth k.0 = sym h.1 ∙ k.1 in let e' : h.0 ≡ k.0 = cc in bool_unique form h.0 k.0 b c e' h.2 k.2
  kind_unique n g id (kind.Str form) v b c h k = let e : text h.0 ≡ text k.0 = sym h.1 ∙ k.1 in let e' : h.0 ≡ k.0 = cc in text_unique form.length form.fixed form.ascii form.stop (size_of form) h.0 k.0 b c e' h.2 k.2
  kind_unique n g id (kind.Bin m free) v b c h k = octets_same b c (ap bin_bits (sym h.1 ∙ k.1)) (ap octets_in (sym h.1 ∙ k.1))
    where
      octets_in : Plain → List ℕ
      octets_in (num x) = []
      octets_in (label x) = []
      octets_in (truth x) = []
      octets_in (text x) = []
      octets_in (bits m o) = o
      octets_in (items x) = []
      octets_in (fields k x) = []
  kind_unique n g id (kind.Arr item m) v b c h k = let e : items h.0 ≡ items k.0 = sym h.1 ∙ k.1 in let e' : h.0 ≡ k.0 = cc in items_unique (SpellsWithin n canonical t item.0) (g item.0) (list_of k.0) b c (subst (λ x. ItemsSpell (SpellsWithin n canonical t item.0) (list_of x) b) e' h.3) k.3
  kind_unique n g id (kind.Con con) v b c h k =
      let e : fields h.0 h.1 ≡ fields k.0 k.1 = sym h.2 ∙ k.2 in
      let e0 : h.0 ≡ k.0 = cc in let e1 : h.1 ≡ k.1 = cc in
      let sp = subst (λ x. ContainerSpells canonical t (SpellsWithin n canonical t) id x (list_of h.1) b) e0 h.3 in
      let sq = k.3 in
      let seq = sequence t k.0 in
      let wp = parts_any t (SpellsWithin n canonical t) (SpellsWithin n any t) (canon_spells t n) seq started (sp.end) b sp.parts in
      let wq = parts_any t (SpellsWithin n canonical t) (SpellsWithin n any t) (canon_spells t n) seq started (sq.end) c sq.parts in
      let ends : (sp.end).fields ≡ (sq.end).fields = fields_by t n k.0 (sp.end) b (list_of h.1) wp sp.values ∙ ap (λ x. paired seq (list_of x)) e1 ∙ sym (fields_by t n k.0 (sq.end) c (list_of k.1) wq sq.values) in
      let size = parts_size t (SpellsWithin n any t) (same_size t can.numbered n) seq started started (sp.end) (sq.end) b c (all_sized t n seq (can.numbered k.0)) refl ends wp wq in
      let before : length (sp.end).before ≡ length (sq.end).before = ap length (parts_before t (SpellsWithin n any t) seq started (sp.end) b wp) ∙ size ∙ ap length (sym (parts_before t (SpellsWithin n any t) seq started (sq.end) c wq)) in
      let known = parts_known t n g seq started started (sp.end) (sq.end) b c refl sp.parts sq.parts in
      let octets = fits_same (sp.end).octets (sq.end).octets (length (sp.end).before) (length (sq.end).before) known before sp.size sq.size in
      parts_unique t n g seq started started (sp.end) (sq.end) b c (can.scaled k.0) (can.once k.0) refl refl ends octets sp.parts sq.parts

  pub unique_within : (n id : ℕ) (v : Plain) (b c : Bits) → SpellsWithin n canonical t id v b → SpellsWithin n canonical t id v c → b ≡ c
  unfolding SpellsWithin
  unique_within zero id v b c h k = absurd h
  unique_within (suc n) id v b c h k = kind_unique n (unique_within n) id (h.0).kind v b c h.2 (subst (λ (y : TypeRow). KindSpells canonical t (SpellsWithin n canonical t) id y.kind v c) (same_row t id k.0 h.0 k.1 h.1) k.2)
