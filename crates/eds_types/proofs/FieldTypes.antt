-- Each number on a path of what is spelled lies in the path's domain; so two candidates of one choice are under one child.
use Rattle.std.proofs.Common.{◌≡◌, ℕ, zero, suc, ◌+◌, ℤ, pos, Bool, true, false, cond, List, [], ◌∷◌, ◌++◌, length, reverse, Option, Some, None, refl, sym, ap, subst, ◌∙◌, append_assoc, append-nil, ◌⊎◌, inl, inr}
use Rattle.std.specs.Prelude.{slice_get, ◌==◌, ◌&&◌}
use Rattle.std.specs.List.{AllByRecursion, flat_map}
use Rattle.std.proofs.lemmas.Bool.{and_parts, eqb-true}
use Rattle.std.proofs.lemmas.List.{length-append}
use Rattle.eds_base.specs.declared.ids.TypeId.{TypeId}
use Rattle.eds_types.specs.declared.row.TypeRow.{TypeRow}
use Rattle.eds_types.specs.declared.row.Kind.{Kind}
use Rattle.eds_types.specs.declared.row.Kind.TheVariants as kind
use Rattle.eds_types.specs.declared.row.Part.{Part}
use Rattle.eds_types.specs.declared.row.Part.TheVariants as part
use Rattle.eds_base.specs.Reading.{same as same_text}
use Rattle.eds_base.specs.Spans.{IsWithin}
use Rattle.eds_bits.specs.Bits.{Bits}
use Rattle.eds_bits.specs.Lists.{HasOne}
use Rattle.eds_bits.specs.Style.{any}
use Rattle.eds_types.proofs.FieldKeys.{on_nothing, no_value}
use Rattle.eds_types.specs.Domains.{InDomainOf, InDomainOfRow, InDomainOfType, InDomain}
use Rattle.eds_types.specs.Fields.{Field, value_at, values_of, has_value, paired, fields_in, value_on, type_by, type_on, listed, labelled_by, row_at, number_by, number_on, field_of}
use Rattle.eds_types.specs.Plain.{Plain, items, Plains}
use Rattle.eds_types.specs.Rows.{Table, chain, entries_of, trailers_of, Placed, placed_from, placed_entries, placed_trailers, sequence}
use Rattle.eds_types.specs.Spelling.{Progress, started, PartPasses, PartsPass, KindSpells, SpellsWithin}
use Rattle.eds_types.proofs.AllOf.{All-both}

module _ (t : Table) where
  -- the part stands at that place of the container
  abbrev pub Stands : ℕ → ℕ → Part → Type 0
  Stands y i q = slice_get (entries_of t y ++ trailers_of t y) i ≡ Some q

  abbrev pub IsPlaced : Placed → Type 0
  IsPlaced p = Stands p.container p.place p.part

  abbrev pub ValueFits : ℕ → Part → Plain → Type 0
  ValueFits n (part.Plain name id) v = (c : Bits) × SpellsWithin n any t id.0 v c
  ValueFits n (part.Fixed name id w) v = ⊥
  ValueFits n (part.Pad m) v = ⊥
  ValueFits n (part.List name id y i) v = (vs : Plains) × (v ≡ items vs)
  ValueFits n (part.Length name id c0 c1) v = ⊥
  ValueFits n (part.Check name id k) v = ⊥

  pub record FieldFits (n : ℕ) (f : Field) : Type 0 where
    pub part : Part
    pub stands : Stands f.container f.place part
    pub fits : ValueFits n part f.value

  abbrev pub Fits : ℕ → Progress → Type 0
  Fits n s = AllByRecursion (FieldFits n) s.fields

  pub part_keeps : (n : ℕ) (s : Progress) (p : Placed) (q : Part) (u : Progress) (b : Bits) → Stands p.container p.place q → Fits n s → PartPasses any t (SpellsWithin n any t) s p q u b → Fits n u
  part_keeps n s p (part.Plain name id) u b e h k = subst (Fits n) (sym k.2) (All-both (FieldFits n) s.fields ((field_of p k.0) ∷ []) h (record { part = part.Plain name id; stands = e; fits = (b, k.1) }, tt))
  part_keeps n s p (part.Fixed name id v) u b e h k = subst (Fits n) (sym k.1) h
  part_keeps n s p (part.Pad m) u b e h k = subst (Fits n) (sym k.2) h
  part_keeps n s p (part.List name id y i) u b e h k = subst (Fits n) (sym k.3) (All-both (FieldFits n) s.fields ((field_of p (items k.0)) ∷ []) h (record { part = part.List name id y i; stands = e; fits = (k.0, refl) }, tt))
  part_keeps n s p (part.Length name id c0 c1) u b e h k = subst (Fits n) (sym k.2) h
  part_keeps n s p (part.Check name id c) u b e h k = subst (Fits n) (sym k.1) h

  -- the values of what was passed, with their parts, are the fields
  record Pairs (p : Placed) (ps : List Placed) (s u : Progress) : Type 0 where
    new : List Field
    is : u.fields ≡ s.fields ++ new
    pairs : (gs : List Field) → paired ps (values_of gs) ≡ gs → paired (p ∷ ps) (values_of (new ++ gs)) ≡ new ++ gs

  by_value : Placed → List Placed → Plain → List Plain → Bool → List Field
  by_value p ps v vs b = cond b ((field_of p v) ∷ paired ps vs) (paired ps (v ∷ vs))

  skipped : (p : Placed) (ps : List Placed) → has_value p.part ≡ false → (gs : List Field) → paired ps (values_of gs) ≡ gs → paired (p ∷ ps) (values_of gs) ≡ gs
  unfolding by_value
  skipped p ps e [] h = refl
  skipped p ps e (g ∷ gs) h = ap (by_value p ps g.value (values_of gs)) e ∙ h

  kept : (p : Placed) (ps : List Placed) (v : Plain) → has_value p.part ≡ true → (gs : List Field) → paired ps (values_of gs) ≡ gs → paired (p ∷ ps) (v ∷ values_of gs) ≡ (field_of p v) ∷ gs
  unfolding by_value
  kept p ps v e gs h = ap (by_value p ps v (values_of gs)) e ∙ ap (λ z. (field_of p v) ∷ z) h

  part_pairs : (n : ℕ) (p : Placed) (ps : List Placed) (s u : Progress) (b : Bits) (q : Part) → p.part ≡ q → PartPasses any t (SpellsWithin n any t) s p q u b → Pairs p ps s u
  part_pairs n p ps s u b (part.Plain name id) e k = record { new = (field_of p k.0) ∷ []; is = ap (λ (z : Progress). z.fields) k.2; pairs = λ gs h. kept p ps k.0 (ap has_value e) gs h }
  part_pairs n p ps s u b (part.Fixed name id v) e k = record { new = []; is = ap (λ (z : Progress). z.fields) k.1 ∙ sym (append-nil s.fields); pairs = λ gs h. skipped p ps (ap has_value e) gs h }
  part_pairs n p ps s u b (part.Pad m) e k = record { new = []; is = ap (λ (z : Progress). z.fields) k.2 ∙ sym (append-nil s.fields); pairs = λ gs h. skipped p ps (ap has_value e) gs h }
  part_pairs n p ps s u b (part.List name id y i) e k = record { new = (field_of p (items k.0)) ∷ []; is = ap (λ (z : Progress). z.fields) k.3; pairs = λ gs h. kept p ps (items k.0) (ap has_value e) gs h }
  part_pairs n p ps s u b (part.Length name id c0 c1) e k = record { new = []; is = ap (λ (z : Progress). z.fields) k.2 ∙ sym (append-nil s.fields); pairs = λ gs h. skipped p ps (ap has_value e) gs h }
  part_pairs n p ps s u b (part.Check name id c) e k = record { new = []; is = ap (λ (z : Progress). z.fields) k.1 ∙ sym (append-nil s.fields); pairs = λ gs h. skipped p ps (ap has_value e) gs h }

  pub parts_fit : (n : ℕ) (ps : List Placed) (s u : Progress) (b : Bits) → AllByRecursion IsPlaced ps → Fits n s → PartsPass any t (SpellsWithin n any t) s ps u b → Fits n u × ((gs : List Field) × (u.fields ≡ s.fields ++ gs) × (paired ps (values_of gs) ≡ gs))
  parts_fit n [] s u b a h k = (subst (Fits n) (sym k.0) h, ([], ap (λ (z : Progress). z.fields) k.0 ∙ sym (append-nil s.fields), refl))
  parts_fit n (p ∷ ps) s u b a h k =
      let one = part_pairs n p ps s k.0 k.1 p.part refl k.4 in
      let rest = parts_fit n ps k.0 u k.2 a.1 (part_keeps n s p p.part k.0 k.1 a.0 h k.4) k.5 in
      (rest.0, (one.new ++ rest.1.0, rest.1.1 ∙ ap (λ z. z ++ rest.1.0) one.is ∙ append_assoc s.fields one.new rest.1.0, one.pairs rest.1.0 rest.1.2))

  -- ---- the parts of a sequence stand where they say

  at_length : {A : Type 0} (before : List A) (x : A) (after : List A) → slice_get (before ++ x ∷ after) (length before) ≡ Some x
  at_length [] x after = refl
  at_length (y ∷ ys) x after = at_length ys x after

  placed_by : (y : ℕ) (before ps after : List Part) → entries_of t y ++ trailers_of t y ≡ before ++ (ps ++ after) → AllByRecursion IsPlaced (placed_from y (length before) ps)
  placed_by y before [] after e = tt
  placed_by y before (p ∷ ps) after e =
      let n : length (before ++ p ∷ []) ≡ length before + 1 = length-append before (p ∷ []) in (
        ap (λ l. slice_get l (length before)) e ∙ at_length before p (ps ++ after),
        subst (λ m. AllByRecursion IsPlaced (placed_from y m ps)) n (placed_by y (before ++ p ∷ []) ps after (e ∙ sym (append_assoc before (p ∷ []) (ps ++ after)))),
      )

  all_flat : {A : Type 0} (P : A → Type 0) (f : ℕ → List A) (ys : List ℕ) → ((y : ℕ) → AllByRecursion P (f y)) → AllByRecursion P (flat_map f ys)
  all_flat P f [] h = tt
  all_flat P f (y ∷ ys) h = All-both P (f y) (flat_map f ys) (h y) (all_flat P f ys h)

  pub sequence_placed : (k : ℕ) → AllByRecursion IsPlaced (sequence t k)
  sequence_placed k = All-both IsPlaced (flat_map (placed_entries t) (chain t k)) (flat_map (placed_trailers t) (reverse (chain t k)))
      (all_flat IsPlaced (placed_entries t) (chain t k) (λ y. placed_by y [] (entries_of t y) (trailers_of t y) refl))
      (all_flat IsPlaced (placed_trailers t) (reverse (chain t k)) (λ y. placed_by y (entries_of t y) (trailers_of t y) [] (ap (λ l. entries_of t y ++ l) (sym (append-nil (trailers_of t y))))))

  -- ---- the domain

  row_same : (id : ℕ) (row : TypeRow) (n : ℤ) → slice_get t id ≡ Some row → InDomainOf t id row.kind n → InDomainOfRow t id (slice_get t id) n
  row_same id row n e h = subst (λ o. InDomainOfRow t id o n) (sym e) h

  some_is : (a b : ℤ) → ◌≡◌ {A = Option ℤ} (Some a) (Some b) → a ≡ b
  some_is a b e = cc

  listed_one : (listing : List (List ℕ × ℤ)) (l : List ℕ) (n : ℤ) → listed listing l ≡ Some n → HasOne (λ e. e.1 ≡ n) listing
  listed_one [] l n e = absurd cc
  listed_one (x ∷ xs) l n e = go (same_text x.0 l) e (listed_one xs l n)
    where
      go : (b : Bool) → cond b (Some x.1) (listed xs l) ≡ Some n → (listed xs l ≡ Some n → HasOne (λ e. e.1 ≡ n) xs) → HasOne (λ e. e.1 ≡ n) (x ∷ xs)
      go true e ih = inl (some_is x.1 n e)
      go false e ih = inr (ih e)

  bit_number : (b : Bool) → (pos (cond b 1 0) ≡ pos 0) ⊎ (pos (cond b 1 0) ≡ pos 1)
  bit_number true = inr refl
  bit_number false = inl refl

  scalar_domain : (n id : ℕ) (v : Plain) (c : Bits) (m : ℤ) (row : TypeRow) (k : Kind) → row.kind ≡ k → KindSpells any t (SpellsWithin n any t) id k v c → number_by (Some row) (Some v) ≡ Some m → InDomainOf t id k m
  scalar_domain n id v c m row (kind.Int form spans) e h q = subst (IsWithin spans) (some_is h.0 m (sym (ap (λ w. number_by (Some row) (Some w)) h.1) ∙ q)) h.2
  scalar_domain n id v c m row (kind.Enum form listing) e h q = listed_one listing h.0 m (sym (ap (λ z. labelled_by z h.0) e) ∙ sym (ap (λ w. number_by (Some row) (Some w)) h.2) ∙ q)
  scalar_domain n id v c m row (kind.Bool form) e h q =
      let e1 = some_is (pos (cond h.0 1 0)) m (sym (ap (λ w. number_by (Some row) (Some w)) h.1) ∙ q) in
      elim (bit_number h.0) [ inl z ↦ inl (sym e1 ∙ z) | inr z ↦ inr (sym e1 ∙ z) ]
  scalar_domain n id v c m row (kind.Str form) e h q = let z : ◌≡◌ {A = Option ℤ} None (Some m) = sym (ap (λ w. number_by (Some row) (Some w)) h.1) ∙ q in absurd cc
  scalar_domain n id v c m row (kind.Bin size free) e h q = let z : ◌≡◌ {A = Option ℤ} None (Some m) = sym (ap (λ w. number_by (Some row) (Some w)) h.1) ∙ q in absurd cc
  scalar_domain n id v c m row (kind.Arr item size) e h q = let z : ◌≡◌ {A = Option ℤ} None (Some m) = sym (ap (λ w. number_by (Some row) (Some w)) h.1) ∙ q in absurd cc
  scalar_domain n id v c m row (kind.Con con) e h q = (h.0, sym (some_is (pos h.0) m (sym (ap (λ w. number_by (Some row) (Some w)) h.2) ∙ q)), (h.3).concrete, (h.3).under)

  value_domain : (n id : ℕ) (v : Plain) (c : Bits) (m : ℤ) → SpellsWithin n any t id v c → number_by (slice_get t id) (Some v) ≡ Some m → InDomainOfRow t id (slice_get t id) m
  unfolding SpellsWithin
  value_domain zero id v c m h q = absurd h
  value_domain (suc n) id v c m h q = row_same id h.0 m h.1 (scalar_domain n id v c m h.0 (h.0).kind refl h.2 (sym (ap (λ o. number_by o (Some v)) h.1) ∙ q))

  part_domain : (n : ℕ) (q : Part) (v : Plain) (m : ℤ) → ValueFits n q v → number_by (row_at t (type_by (Some q))) (Some v) ≡ Some m → InDomainOfType t (type_by (Some q)) m
  part_domain n (part.Plain name id) v m h e = value_domain n id.0 v h.0 m h.1 e
  part_domain n (part.Fixed name id w) v m h e = absurd h
  part_domain n (part.Pad k) v m h e = absurd h
  part_domain n (part.List name id y i) v m h e = let z : ◌≡◌ {A = Option ℤ} None (Some m) = sym (ap (λ w. number_by (row_at t (Some id.0)) (Some w)) h.1) ∙ e in absurd cc
  part_domain n (part.Length name id c0 c1) v m h e = absurd h
  part_domain n (part.Check name id k) v m h e = absurd h

  -- the field that is found
  pub record Found (n y i : ℕ) (v : Plain) : Type 0 where
    pub part : Part
    pub stands : Stands y i part
    pub fits : ValueFits n part v

  pub found_by : (n : ℕ) (fs : List Field) (y i : ℕ) (v : Plain) → AllByRecursion (FieldFits n) fs → value_at fs y i ≡ Some v → Found n y i v
  found_by n [] y i v a e = absurd cc
  found_by n (f ∷ fs) y i v a e = go (f.container == y && f.place == i) refl e (found_by n fs y i v a.1)
    where
      here : (f.container == y && f.place == i) ≡ true → f.value ≡ v → Found n y i v
      here h q =
          let p = and_parts (f.container == y) (f.place == i) h in
          record { part = (a.0).part; stands = subst (λ z. Stands z i (a.0).part) (eqb-true f.container y p.0) (subst (λ z. Stands f.container z (a.0).part) (eqb-true f.place i p.1) (a.0).stands); fits = subst (ValueFits n (a.0).part) q (a.0).fits }

      go : (b : Bool) → (f.container == y && f.place == i) ≡ b → cond b (Some f.value) (value_at fs y i) ≡ Some v → (value_at fs y i ≡ Some v → Found n y i v) → Found n y i v
      go true h e ih = here h (let z : ◌≡◌ {A = Option Plain} (Some f.value) (Some v) = e in cc)
      go false h e ih = ih e

  abbrev Inside : Plain → Type 0
  Inside v = (fields_in t (Some v) ≡ []) ⊎ ((n : ℕ) × AllByRecursion (FieldFits n) (fields_in t (Some v)))

  kind_inside : (n id : ℕ) (v : Plain) (c : Bits) (k : Kind) → KindSpells any t (SpellsWithin n any t) id k v c → Inside v
  kind_inside n id v c (kind.Int form spans) h = inl (ap (λ w. fields_in t (Some w)) h.1)
  kind_inside n id v c (kind.Enum form listing) h = inl (ap (λ w. fields_in t (Some w)) h.2)
  kind_inside n id v c (kind.Bool form) h = inl (ap (λ w. fields_in t (Some w)) h.1)
  kind_inside n id v c (kind.Str form) h = inl (ap (λ w. fields_in t (Some w)) h.1)
  kind_inside n id v c (kind.Bin size free) h = inl (ap (λ w. fields_in t (Some w)) h.1)
  kind_inside n id v c (kind.Arr item size) h = inl (ap (λ w. fields_in t (Some w)) h.1)
  kind_inside n id v c (kind.Con con) h =
      let sp = h.3 in
      let all = parts_fit n (sequence t h.0) started (sp.end) c (sequence_placed h.0) tt sp.parts in
      let same : fields_in t (Some v) ≡ (sp.end).fields = ap (λ w. fields_in t (Some w)) h.2 ∙ ap (paired (sequence t h.0)) (sp.values ∙ ap values_of all.1.1) ∙ all.1.2 ∙ sym all.1.1 in
      inr (n, subst (AllByRecursion (FieldFits n)) (sym same) all.0)

  value_inside : (n id : ℕ) (v : Plain) (c : Bits) → SpellsWithin n any t id v c → Inside v
  unfolding SpellsWithin
  value_inside zero id v c h = absurd h
  value_inside (suc n) id v c h = kind_inside n id v c (h.0).kind h.2

  part_inside : (n : ℕ) (q : Part) (v : Plain) → ValueFits n q v → Inside v
  part_inside n (part.Plain name id) v h = value_inside n id.0 v h.0 h.1
  part_inside n (part.Fixed name id w) v h = absurd h
  part_inside n (part.Pad k) v h = absurd h
  part_inside n (part.List name id y i) v h = inl (ap (λ w. fields_in t (Some w)) h.1)
  part_inside n (part.Length name id c0 c1) v h = absurd h
  part_inside n (part.Check name id k) v h = absurd h

  pub number_in_domain : (path : List (TypeId × ℕ)) (n : ℕ) (fs : List Field) (m : ℤ) → AllByRecursion (FieldFits n) fs → number_on t fs path ≡ Some m → InDomain t path m
  number_in_domain [] n fs m a e = let z : ◌≡◌ {A = Option ℤ} None (Some m) = e in absurd cc
  number_in_domain (p ∷ []) n fs m a e = go (value_at fs (p.0).0 p.1) refl
    where
      go : (o : Option Plain) → value_at fs (p.0).0 p.1 ≡ o → InDomain t (p ∷ []) m
      go None h = let z : ◌≡◌ {A = Option ℤ} None (Some m) = sym (no_value t fs p [] h) ∙ e in absurd cc
      go (Some v) h =
          let f = found_by n fs (p.0).0 p.1 v a h in
          let ty : type_on t (p ∷ []) ≡ type_by (Some f.part) = ap type_by f.stands in
          subst (λ o. InDomainOfType t o m) (sym ty) (part_domain n f.part v m f.fits (sym (ap (λ o. number_by (row_at t o) (Some v)) ty) ∙ sym (ap (number_by (row_at t (type_on t (p ∷ [])))) h) ∙ e))
  number_in_domain (p ∷ q ∷ path) n fs m a e = go (value_at fs (p.0).0 p.1) refl (number_in_domain (q ∷ path))
    where
      inner : List Field → Option ℤ
      inner gs = number_by (row_at t (type_on t (q ∷ path))) (value_on t gs (q ∷ path))

      go : (o : Option Plain) → value_at fs (p.0).0 p.1 ≡ o → ((n : ℕ) (fs : List Field) (m : ℤ) → AllByRecursion (FieldFits n) fs → number_on t fs (q ∷ path) ≡ Some m → InDomain t (q ∷ path) m) → InDomain t (q ∷ path) m
      go None h ih = let z : ◌≡◌ {A = Option ℤ} None (Some m) = sym (no_value t fs p (q ∷ path) h) ∙ e in absurd cc
      go (Some v) h ih =
          let f = found_by n fs (p.0).0 p.1 v a h in
          let e' : inner (fields_in t (Some v)) ≡ Some m = sym (ap (λ o. inner (fields_in t o)) h) ∙ e in
          elim (part_inside n f.part v f.fits) [
            | inl z ↦ let w : ◌≡◌ {A = Option ℤ} None (Some m) = sym (ap (number_by (row_at t (type_on t (q ∷ path)))) (on_nothing t (q ∷ path))) ∙ sym (ap inner z) ∙ e' in absurd cc
            | inr z ↦ ih z.0 (fields_in t (Some v)) m z.1 e'
          ]
