-- A canonical run over the parts of a sequence, from values that don't fail; and a run has no part that fails.
use Rattle.std.proofs.Common.{◌≡◌, ℕ, ◌+◌, ℤ, pos, ◌+ℤ◌, ◌*ℤ◌, Bool, true, false, cond, List, [], ◌∷◌, ◌++◌, length, replicate, Option, Some, None, refl, sym, ap, subst, ◌∙◌, append_assoc, append-nil, arith, ◌⊎◌, inl, inr}
use Rattle.std.specs.List.{AllByRecursion}
use Rattle.std.proofs.lemmas.Bool.{cases_Bool, both_ways}
use Rattle.eds_types.specs.declared.reason.PackReason.TheVariants as reason
use Rattle.eds_types.specs.declared.row.Part.{Part}
use Rattle.eds_types.specs.declared.row.Part.TheVariants as part
use Rattle.eds_bits.specs.Bits.{Bits}
use Rattle.eds_bits.specs.Scalars.{check_of}
use Rattle.eds_bits.specs.Style.{any, canonical}
use Rattle.eds_types.proofs.DecidedPacking.{Decided, items_decided}
use Rattle.eds_types.proofs.DistinctParts.{Pairwise, Apart}
use Rattle.eds_types.proofs.FieldKeys.{IsOther, value_stays}
use Rattle.eds_types.proofs.FieldTypes.{Stands, IsPlaced, ValueFits, Fits, found_by, part_keeps}
use Rattle.eds_types.proofs.Grown.{only_grown}
use Rattle.eds_types.proofs.ListCounts.{IsKnown, found_there, known_more, known_count, count_stands, value_counts}
use Rattle.eds_types.proofs.LengthChoices.{Choice, tell, Choices, tell_all}
use Rattle.eds_types.proofs.TableFacts.{ListFits, ListsFit}
use Rattle.eds_types.proofs.SameValues.{same-is, is-same}
use Rattle.eds_types.proofs.SpellingSizes.{canon_spells, part_any, added_same}
use Rattle.eds_types.proofs.CanonicalPatterns.{zeros_false, length-zeros, zeros_zero}
use Rattle.eds_types.specs.Fields.{Field, value_at, has_value, paired, type_by, field_of}
use Rattle.eds_types.specs.Packing.{PackFault, pack_fault_here, ItemPackFails, ListPackFails, PartPackFails, valued, PackFailsWithin}
use Rattle.eds_types.specs.Plain.{Plain, num, label, truth, text, bits, items, fields, Plains, list_of, plain}
use Rattle.eds_types.specs.Reading.{same}
use Rattle.eds_types.specs.Rows.{Table, Placed}
use Rattle.eds_types.specs.Spelling.{Progress, with_bits, with_value, with_octets, count_in, ItemsSpell, PartPasses, PartsPass, SpellsWithin}
use Rattle.eds_types.proofs.AllOf.{All-weaker, All-both, All-pair}

-- ---- values with their parts

pair_by : Placed → List Placed → Plain → List Plain → Bool → List Field
pair_by p ps v vs b = cond b ((field_of p v) ∷ paired ps vs) (paired ps (v ∷ vs))

pub paired_on : (p : Placed) (ps : List Placed) (v : Plain) (vs : List Plain) → has_value p.part ≡ true → paired (p ∷ ps) (v ∷ vs) ≡ (field_of p v) ∷ paired ps vs
unfolding pair_by
paired_on p ps v vs e = ap (pair_by p ps v vs) e

paired_none : (ps : List Placed) → paired ps [] ≡ []
paired_none [] = refl
paired_none (p ∷ ps) = refl

pub paired_past : (p : Placed) (ps : List Placed) (vs : List Plain) → has_value p.part ≡ false → paired (p ∷ ps) vs ≡ paired ps vs
unfolding pair_by
paired_past p ps [] e = sym (paired_none ps)
paired_past p ps (v ∷ vs) e = ap (pair_by p ps v vs) e

pub count_by : (p : Placed) (ps : List Placed) (b : Bool) → has_value p.part ≡ b → valued (p ∷ ps) ≡ cond b 1 0 + valued ps
count_by p ps b e = ap (λ z. cond z 1 0 + valued ps) e

module _ (fs : List Field) where
  -- the fields l of the parts that are done, and the values f of those to come
  pub record At (done ps : List Placed) (l : List Field) (f : List Plain) : Type 0 where
    pub whole : fs ≡ l ++ paired ps f
    pub count : length f ≡ valued ps
    pub fresh : AllByRecursion (λ (p : Placed). AllByRecursion (IsOther p.container p.place) l) ps
    pub once : Pairwise Apart ps
    pub known : AllByRecursion (IsKnown l) done

  record Next (done : List Placed) (p : Placed) (ps : List Placed) (l : List Field) : Type 0 where
    v : Plain
    rest : List Plain
    there : value_at fs p.container p.place ≡ Some v
    at : At (done ++ p ∷ []) ps (l ++ (field_of p v) ∷ []) rest

  fresh_next : (p : Placed) (ps : List Placed) (l : List Field) (v : Plain) → AllByRecursion (λ (q : Placed). AllByRecursion (IsOther q.container q.place) l) ps → AllByRecursion (Apart p) ps → AllByRecursion (λ (q : Placed). AllByRecursion (IsOther q.container q.place) (l ++ (field_of p v) ∷ [])) ps
  unfolding IsOther
  fresh_next p ps l v h k =
      All-weaker (λ (q : Placed). AllByRecursion (IsOther q.container q.place) l × Apart p q) (λ (q : Placed). AllByRecursion (IsOther q.container q.place) (l ++ (field_of p v) ∷ []))
      (λ q g. All-both (IsOther q.container q.place) l ((field_of p v) ∷ []) g.0 (g.1, tt)) ps
      (All-pair (λ (q : Placed). AllByRecursion (IsOther q.container q.place) l) (Apart p) ps h k)

  next_valued : (done : List Placed) (p : Placed) (ps : List Placed) (l : List Field) (f : List Plain) → At done (p ∷ ps) l f → has_value p.part ≡ true → Next done p ps l
  next_valued done p ps l [] a e = absurd (let c = a.count in let d = count_by p ps true e in omega arith)
  next_valued done p ps l (v ∷ f) a e =
      let whole : fs ≡ l ++ (field_of p v) ∷ paired ps f = a.whole ∙ ap (λ x. l ++ x) (paired_on p ps v f e) in
      let h = a.fresh in
      record {
        v = v;
        rest = f;
        there = ap (λ x. value_at x p.container p.place) whole ∙ found_there l p.container p.place v (paired ps f) h.0;
        at = record {
          whole = whole ∙ sym (append_assoc l ((field_of p v) ∷ []) (paired ps f));
          count = let c = a.count in let d = count_by p ps true e in omega arith;
          fresh = fresh_next p ps l v h.1 (a.once).0;
          once = (a.once).1;
          known = All-both (IsKnown (l ++ (field_of p v) ∷ [])) done (p ∷ []) (known_more done l ((field_of p v) ∷ []) a.known) ((λ _. (v, found_there l p.container p.place v [] h.0)), tt);
        };
      }

  next_other : (done : List Placed) (p : Placed) (ps : List Placed) (l : List Field) (f : List Plain) → At done (p ∷ ps) l f → has_value p.part ≡ false → At (done ++ p ∷ []) ps l f
  next_other done p ps l f a e = record {
    whole = a.whole ∙ ap (λ x. l ++ x) (paired_past p ps f e);
    count = let c = a.count in let d = count_by p ps false e in omega arith;
    fresh = (a.fresh).1;
    once = (a.once).1;
    known = All-both (IsKnown l) done (p ∷ []) a.known ((λ t. absurd (both_ways (has_value p.part) e t)), tt);
  }

  at_as : (done ps : List Placed) (l m : List Field) (f : List Plain) → m ≡ l → At done ps l f → At done ps m f
  at_as done ps l m f e a = subst (λ x. At done ps x f) (sym e) a

-- ---- values that are looked up

pub tree_decides : (o : Option Plain) (w : Plain) → (o ≡ Some w) ⊎ (o ≡ Some w → ⊥)
tree_decides None w = inr (λ e. cc)
tree_decides (Some v) w = elim (cases_Bool (same v w)) [ inl t ↦ inl (ap Some (same-is v w t)) | inr f ↦ inr (λ e. let q : v ≡ w = cc in both_ways (same v w) f (subst (λ x. same v x ≡ true) q (is-same v))) ]

some_tree : (o : Option Plain) (v w : Plain) → o ≡ Some v → o ≡ Some w → v ≡ w
some_tree o v w e h = let q : ◌≡◌ {A = Option Plain} (Some v) (Some w) = sym e ∙ h in cc

module _ (t : Table) (n : ℕ) (fs : List Field) where
  abbrev C : ℕ → Plain → Bits → Type 0
  C = SpellsWithin n canonical t

  abbrev F : ℕ → Plain → PackFault → Type 0
  F = PackFailsWithin n t

  -- the type of the part is decided
  abbrev pub TypesDecided : Part → Type 0
  TypesDecided q = (x : ℕ) → type_by (Some q) ≡ Some x → (v : Plain) → Decided (C x v) (F x v)

  -- what isn't in the value has bits
  abbrev pub Supplies : Part → Type 0
  Supplies (part.Plain name id) = Unit {0}
  Supplies (part.Fixed name id v) = (b : Bits) × C id.0 (plain v) b
  Supplies (part.Pad m) = Unit {0}
  Supplies (part.List name id y i) = Unit {0}
  Supplies (part.Length name id c0 c1) = Unit {0}
  Supplies (part.Check name id k) = (before : Bits) → (b : Bits) × C id.0 (num (pos (check_of k before))) b

  abbrev pub FailsAt : Placed → Part → PackFault → Type 0
  FailsAt p q g = PartPackFails t F fs p q g

  abbrev pub IsFine : Placed → Part → Type 0
  IsFine p q = (g : PackFault) → FailsAt p q g → ⊥

  -- ---- what a part is decided to be

  list_decides : (id y i : ℕ) → ((v : Plain) → Decided (C id v) (F id v)) → (o : Option Plain) → ((g : PackFault) × ListPackFails t F fs id y i o g) ⊎ ((g : PackFault) → ListPackFails t F fs id y i o g → ⊥)
  list_decides id y i d None = inr (λ g f. f)
  list_decides id y i d (Some (num x)) = inl (pack_fault_here reason.WrongKind, refl)
  list_decides id y i d (Some (label x)) = inl (pack_fault_here reason.WrongKind, refl)
  list_decides id y i d (Some (truth x)) = inl (pack_fault_here reason.WrongKind, refl)
  list_decides id y i d (Some (text x)) = inl (pack_fault_here reason.WrongKind, refl)
  list_decides id y i d (Some (bits m o)) = inl (pack_fault_here reason.WrongKind, refl)
  list_decides id y i d (Some (fields k vs)) = inl (pack_fault_here reason.WrongKind, refl)
  list_decides id y i d (Some (items vs)) = go (tree_decides (value_at fs y i) (num (pos (length (list_of vs))))) (items_decided (C id) (F id) d (list_of vs) 0)
    where
      Counts : Type 0
      Counts = value_at fs y i ≡ Some (num (pos (length (list_of vs))))

      go : (value_at fs y i ≡ Some (num (pos (length (list_of vs))))) ⊎ (value_at fs y i ≡ Some (num (pos (length (list_of vs)))) → ⊥) → Decided (ItemsSpell (C id) (list_of vs)) (ItemPackFails (F id) 0 (list_of vs)) → ((g : PackFault) × ListPackFails t F fs id y i (Some (items vs)) g) ⊎ ((g : PackFault) → ListPackFails t F fs id y i (Some (items vs)) g → ⊥)
      go (inr ne) r = inl (pack_fault_here reason.CountWrong, inl (ne, refl))
      go (inl e) r = elim (r.either) [
        | inr f ↦ inl (f.0, inr (e, f.1))
        | inl s ↦ inr (λ g f. elim f [ inl k ↦ k.0 e | inr k ↦ r.apart s.0 g s.1 k.1 ])
      ]

  list_one : (id y i : ℕ) → ((v : Plain) → Decided (C id v) (F id v)) → (o : Option Plain) (g k : PackFault) → ListPackFails t F fs id y i o g → ListPackFails t F fs id y i o k → g ≡ k
  list_one id y i d None g k f h = absurd f
  list_one id y i d (Some (num x)) g k f h = f ∙ sym h
  list_one id y i d (Some (label x)) g k f h = f ∙ sym h
  list_one id y i d (Some (truth x)) g k f h = f ∙ sym h
  list_one id y i d (Some (text x)) g k f h = f ∙ sym h
  list_one id y i d (Some (bits m o)) g k f h = f ∙ sym h
  list_one id y i d (Some (fields l vs)) g k f h = f ∙ sym h
  list_one id y i d (Some (items vs)) g k (inl f) (inl h) = f.1 ∙ sym h.1
  list_one id y i d (Some (items vs)) g k (inl f) (inr h) = absurd (f.0 h.0)
  list_one id y i d (Some (items vs)) g k (inr f) (inl h) = absurd (h.0 f.0)
  list_one id y i d (Some (items vs)) g k (inr f) (inr h) = (items_decided (C id) (F id) d (list_of vs) 0).one g k f.1 h.1

  plain_decides : (id : ℕ) → ((v : Plain) → Decided (C id v) (F id v)) → (o : Option Plain) → ((g : PackFault) × ((v : Plain) × (o ≡ Some v) × F id v g)) ⊎ ((g : PackFault) → ((v : Plain) × (o ≡ Some v) × F id v g) → ⊥)
  plain_decides id d None = inr (λ g f. let e = f.1 in cc)
  plain_decides id d (Some v) = elim ((d v).either) [ inr f ↦ inl (f.0, (v, refl, f.1)) | inl s ↦ inr (λ g f. (d v).apart s.0 g s.1 (subst (λ w. F id w g) (some_tree (Some v) f.0 v f.1 refl) f.2)) ]

  pub part_decides : (p : Placed) (q : Part) → TypesDecided q → ((g : PackFault) × FailsAt p q g) ⊎ IsFine p q
  part_decides p (part.Plain name id) d = plain_decides id.0 (d id.0 refl) (value_at fs p.container p.place)
  part_decides p (part.Fixed name id v) d = inr (λ g f. f)
  part_decides p (part.Pad m) d = inr (λ g f. f)
  part_decides p (part.List name id y i) d = list_decides id.0 y.0 i (d id.0 refl) (value_at fs p.container p.place)
  part_decides p (part.Length name id c0 c1) d = inr (λ g f. f)
  part_decides p (part.Check name id k) d = inr (λ g f. f)

  pub part_one : (p : Placed) (q : Part) → TypesDecided q → (g k : PackFault) → FailsAt p q g → FailsAt p q k → g ≡ k
  part_one p (part.Plain name id) d g k f h = (d id.0 refl h.0).one g k (subst (λ w. F id.0 w g) (some_tree (value_at fs p.container p.place) f.0 h.0 f.1 h.1) f.2) h.2
  part_one p (part.Fixed name id v) d g k f h = absurd f
  part_one p (part.Pad m) d g k f h = absurd f
  part_one p (part.List name id y i) d g k f h = list_one id.0 y.0 i (d id.0 refl) (value_at fs p.container p.place) g k f h
  part_one p (part.Length name id c0 c1) d g k f h = absurd f
  part_one p (part.Check name id kd) d g k f h = absurd f

  -- ---- the number of a list

  -- what stands so far, stands in the whole
  known_whole : (done ps : List Placed) (l : List Field) (f : List Plain) (y i : ℕ) (w : Plain) → At fs done ps l f → value_at l y i ≡ Some w → value_at fs y i ≡ Some w
  known_whole done ps l f y i w a e = ap (λ x. value_at x y i) a.whole ∙ value_stays l (paired ps f) y i w e

  -- ---- values that don't fail have a canonical run

  record Step (done : List Placed) (p : Placed) (ps : List Placed) (s : Progress) (q : Part) (o : Option ℤ) : Type 0 where
    u : Progress
    b : Bits
    passes : PartPasses canonical t C s p q u b
    rest : List Plain
    at : At fs (done ++ p ∷ []) ps u.fields rest
    octets : u.octets ≡ o

  items_of : (p : Placed) (id y i : ℕ) (v : Plain) → value_at fs p.container p.place ≡ Some v → ((g : PackFault) → ListPackFails t F fs id y i (value_at fs p.container p.place) g → ⊥) → (vs : Plains) × (v ≡ items vs)
  items_of p id y i (num x) e fine = absurd (fine (pack_fault_here reason.WrongKind) (subst (λ o. ListPackFails t F fs id y i o (pack_fault_here reason.WrongKind)) (sym e) refl))
  items_of p id y i (label x) e fine = absurd (fine (pack_fault_here reason.WrongKind) (subst (λ o. ListPackFails t F fs id y i o (pack_fault_here reason.WrongKind)) (sym e) refl))
  items_of p id y i (truth x) e fine = absurd (fine (pack_fault_here reason.WrongKind) (subst (λ o. ListPackFails t F fs id y i o (pack_fault_here reason.WrongKind)) (sym e) refl))
  items_of p id y i (text x) e fine = absurd (fine (pack_fault_here reason.WrongKind) (subst (λ o. ListPackFails t F fs id y i o (pack_fault_here reason.WrongKind)) (sym e) refl))
  items_of p id y i (bits m x) e fine = absurd (fine (pack_fault_here reason.WrongKind) (subst (λ o. ListPackFails t F fs id y i o (pack_fault_here reason.WrongKind)) (sym e) refl))
  items_of p id y i (items vs) e fine = (vs, refl)
  items_of p id y i (fields k x) e fine = absurd (fine (pack_fault_here reason.WrongKind) (subst (λ o. ListPackFails t F fs id y i o (pack_fault_here reason.WrongKind)) (sym e) refl))

  part_built : (done : List Placed) (p : Placed) (ps : List Placed) (s : Progress) (f : List Plain) (q : Part) → p.part ≡ q → At fs done (p ∷ ps) s.fields f → TypesDecided q → Supplies q → ListFits t done q → (c : Choice C q) → IsFine p q → Step done p ps s q (tell C q c s.octets)
  part_built done p ps s f (part.Plain name id) e at d sup li c fine = go (d id.0 refl next.v).either
    where
      next : Next fs done p ps s.fields
      next = next_valued fs done p ps s.fields f at (ap has_value e)

      go : ((b : Bits) × C id.0 next.v b) ⊎ ((g : PackFault) × F id.0 next.v g) → Step done p ps s (part.Plain name id) s.octets
      go (inl h) = record { u = with_value s p next.v h.0; b = h.0; passes = (next.v, h.1, refl); rest = next.rest; at = next.at; octets = refl }
      go (inr h) = absurd (fine h.0 (next.v, next.there, h.1))
  part_built done p ps s f (part.Fixed name id v) e at d sup li c fine = record { u = with_bits s sup.0; b = sup.0; passes = (sup.1, refl); rest = f; at = next_other fs done p ps s.fields f at (ap has_value e); octets = refl }
  part_built done p ps s f (part.Pad m) e at d sup li c fine = record { u = with_bits s (replicate m false); b = replicate m false; passes = (length-zeros m, zeros_zero (replicate m false) (zeros_false m), refl); rest = f; at = next_other fs done p ps s.fields f at (ap has_value e); octets = refl }
  part_built done p ps s f (part.List name id y i) e at d sup li c fine = go (tree_decides (value_at fs y.0 i) (num (pos (length (list_of vs))))) (items_decided (C id.0) (F id.0) (d id.0 refl) (list_of vs) 0)
    where
      next : Next fs done p ps s.fields
      next = next_valued fs done p ps s.fields f at (ap has_value e)

      is_items : (vs : Plains) × (next.v ≡ items vs)
      is_items = items_of p id.0 y.0 i next.v next.there fine

      vs : Plains
      vs = is_items.0

      there : value_at fs p.container p.place ≡ Some (items vs)
      there = next.there ∙ ap Some is_items.1

      fine_items : (g : PackFault) → ListPackFails t F fs id.0 y.0 i (Some (items vs)) g → ⊥
      fine_items g h = fine g (subst (λ o. ListPackFails t F fs id.0 y.0 i o g) (sym there) h)

      known : (w : Plain) × (value_at s.fields y.0 i ≡ Some w)
      known = known_count t y.0 i s.fields done li at.known

      go : (value_at fs y.0 i ≡ Some (num (pos (length (list_of vs))))) ⊎ (value_at fs y.0 i ≡ Some (num (pos (length (list_of vs)))) → ⊥) → Decided (ItemsSpell (C id.0) (list_of vs)) (ItemPackFails (F id.0) 0 (list_of vs)) → Step done p ps s (part.List name id y i) s.octets
      go (inr ne) r = absurd (fine_items (pack_fault_here reason.CountWrong) (inl (ne, refl)))
      go (inl k) r = elim (r.either) [
        | inr h ↦ absurd (fine_items h.0 (inr (k, h.1)))
        | inl h ↦ record {
          u = with_value s p (items vs) h.0;
          b = h.0;
          passes = (vs, sym (ap count_in (known.1 ∙ ap Some (some_tree (value_at fs y.0 i) known.0 (num (pos (length (list_of vs)))) (known_whole done (p ∷ ps) s.fields f y.0 i known.0 at known.1) k))), h.1, refl);
          rest = next.rest;
          at = subst (λ w. At fs (done ++ p ∷ []) ps (s.fields ++ (field_of p w) ∷ []) next.rest) is_items.1 next.at;
          octets = refl;
        }
      ]
  part_built done p ps s f (part.Length name id c0 c1) e at d sup li c fine = record { u = with_octets s (c0 +ℤ (c1 *ℤ c.0)) c.1; b = c.1; passes = (c.0, c.2, refl); rest = f; at = next_other fs done p ps s.fields f at (ap has_value e); octets = refl }
  part_built done p ps s f (part.Check name id k) e at d sup li c fine = let x = sup s.before in record { u = with_bits s x.0; b = x.0; passes = (x.1, refl); rest = f; at = next_other fs done p ps s.fields f at (ap has_value e); octets = refl }

  pub record Built (s : Progress) (ps : List Placed) (o : Option ℤ) : Type 0 where
    pub u : Progress
    pub b : Bits
    pub passes : PartsPass canonical t C s ps u b
    pub fields : u.fields ≡ fs
    pub octets : u.octets ≡ o

  pub build : (ps done : List Placed) (s : Progress) (f : List Plain) → At fs done ps s.fields f → AllByRecursion (λ (p : Placed). TypesDecided p.part) ps → AllByRecursion (λ (p : Placed). Supplies p.part) ps → ListsFit t done ps → (c : Choices C ps) → AllByRecursion (λ (p : Placed). IsFine p p.part) ps → Built s ps (tell_all C ps c s.octets)
  build [] done s f at d sup li c fine = record { u = s; b = []; passes = (refl, refl); fields = sym (at.whole ∙ append-nil s.fields); octets = refl }
  build (p ∷ ps) done s f at d sup li c fine =
      let one = part_built done p ps s f p.part refl at d.0 sup.0 li.0 c.0 fine.0 in
      let rest = build ps (done ++ p ∷ []) one.u one.rest one.at d.1 sup.1 li.1 c.1 fine.1 in
      record { u = rest.u; b = one.b ++ rest.b; passes = (one.u, one.b, rest.b, refl, one.passes, rest.passes); fields = rest.fields; octets = rest.octets ∙ ap (tell_all C ps c.1) one.octets }

  -- ---- a canonical run has no part that fails

  abbrev Any : ℕ → Plain → Bits → Type 0
  Any = SpellsWithin n any t

  pub record Passed (done : List Placed) (p : Placed) (ps : List Placed) (q : Part) (u : Progress) : Type 0 where
    pub fine : IsFine p q
    pub rest : List Plain
    pub at : At fs (done ++ p ∷ []) ps u.fields rest

  -- the value that was taken is the one that stands there
  same_value : (done : List Placed) (p : Placed) (ps : List Placed) (s u : Progress) (v : Plain) (gs : List Field) (next : Next fs done p ps s.fields) → u.fields ≡ s.fields ++ (field_of p v) ∷ [] → fs ≡ u.fields ++ gs → next.v ≡ v
  same_value done p ps s u v gs next e w =
      ap (λ (x : Field). x.value) (added_same s.fields s.fields (field_of p next.v) (field_of p v) (paired ps next.rest) gs refl (sym (next.at).whole ∙ w ∙ ap (λ x. x ++ gs) e))

  pub part_passed : (done : List Placed) (p : Placed) (ps : List Placed) (s u : Progress) (f : List Plain) (b : Bits) (gs : List Field) (q : Part) → p.part ≡ q → At fs done (p ∷ ps) s.fields f → TypesDecided q → ListFits t done q → AllByRecursion (IsPlaced t) done → Fits t n s → fs ≡ u.fields ++ gs → PartPasses canonical t C s p q u b → Passed done p ps q u
  part_passed done p ps s u f b gs (part.Plain name id) e at d li pl fit w h =
      let next = next_valued fs done p ps s.fields f at (ap has_value e) in
      let uf = ap (λ (x : Progress). x.fields) h.2 in
      let v = same_value done p ps s u h.0 gs next uf w in
      record {
        fine = λ g k. (d id.0 refl h.0).apart b g h.1 (subst (λ x. F id.0 x g) (some_tree (value_at fs p.container p.place) k.0 h.0 k.1 (next.there ∙ ap Some v)) k.2);
        rest = next.rest;
        at = at_as fs (done ++ p ∷ []) ps (s.fields ++ (field_of p next.v) ∷ []) u.fields next.rest (uf ∙ ap (λ x. s.fields ++ (field_of p x) ∷ []) (sym v)) next.at;
      }
  part_passed done p ps s u f b gs (part.Fixed name id v) e at d li pl fit w h = record { fine = λ g k. k; rest = f; at = at_as fs (done ++ p ∷ []) ps s.fields u.fields f (ap (λ (x : Progress). x.fields) h.1) (next_other fs done p ps s.fields f at (ap has_value e)) }
  part_passed done p ps s u f b gs (part.Pad m) e at d li pl fit w h = record { fine = λ g k. k; rest = f; at = at_as fs (done ++ p ∷ []) ps s.fields u.fields f (ap (λ (x : Progress). x.fields) h.2) (next_other fs done p ps s.fields f at (ap has_value e)) }
  part_passed done p ps s u f b gs (part.List name id y i) e at d li pl fit w h = record {
    fine = λ g k. none g (subst (λ o. ListPackFails t F fs id.0 y.0 i o g) (next.there ∙ ap Some v) k);
    rest = next.rest;
    at = at_as fs (done ++ p ∷ []) ps (s.fields ++ (field_of p next.v) ∷ []) u.fields next.rest (uf ∙ ap (λ x. s.fields ++ (field_of p x) ∷ []) (sym v)) next.at;
  }
    where
      next : Next fs done p ps s.fields
      next = next_valued fs done p ps s.fields f at (ap has_value e)

      uf : u.fields ≡ s.fields ++ (field_of p (items h.0)) ∷ []
      uf = ap (λ (x : Progress). x.fields) h.3

      v : next.v ≡ items h.0
      v = same_value done p ps s u (items h.0) gs next uf w

      known : (x : Plain) × (value_at s.fields y.0 i ≡ Some x)
      known = known_count t y.0 i s.fields done li at.known

      counted : (m : ℕ) × (known.0 ≡ num (pos m))
      counted =
          let found = found_by t n s.fields y.0 i known.0 fit known.1 in
          let stands = count_stands t y.0 i done li pl in
          value_counts t n stands.0 known.0 stands.2 (subst (λ q. ValueFits t n q known.0) (same_part found.part stands.0 found.stands stands.1) found.fits)
        where
          same_part : (q r : Part) → Stands t y.0 i q → Stands t y.0 i r → q ≡ r
          same_part q r a c = let z : ◌≡◌ {A = Option Part} (Some q) (Some r) = sym a ∙ c in cc

      count_is : value_at fs y.0 i ≡ Some (num (pos (length (list_of h.0))))
      count_is = known_whole done (p ∷ ps) s.fields f y.0 i known.0 at known.1 ∙ ap Some (counted.1 ∙ ap (λ m. num (pos m)) (sym (h.1 ∙ ap count_in (known.1 ∙ ap Some counted.1))))

      none : (g : PackFault) → ListPackFails t F fs id.0 y.0 i (Some (items h.0)) g → ⊥
      none g (inl k) = k.0 count_is
      none g (inr k) = (items_decided (C id.0) (F id.0) (d id.0 refl) (list_of h.0) 0).apart b g h.2 k.1
  part_passed done p ps s u f b gs (part.Length name id c0 c1) e at d li pl fit w h = record { fine = λ g k. k; rest = f; at = at_as fs (done ++ p ∷ []) ps s.fields u.fields f (ap (λ (x : Progress). x.fields) h.2) (next_other fs done p ps s.fields f at (ap has_value e)) }
  part_passed done p ps s u f b gs (part.Check name id k) e at d li pl fit w h = record { fine = λ g x. x; rest = f; at = at_as fs (done ++ p ∷ []) ps s.fields u.fields f (ap (λ (x : Progress). x.fields) h.1) (next_other fs done p ps s.fields f at (ap has_value e)) }

  pub run_fine : (ps done : List Placed) (s u : Progress) (f : List Plain) (b : Bits) → At fs done ps s.fields f → AllByRecursion (λ (p : Placed). TypesDecided p.part) ps → ListsFit t done ps → AllByRecursion (IsPlaced t) done → AllByRecursion (IsPlaced t) ps → Fits t n s → u.fields ≡ fs → PartsPass canonical t C s ps u b → AllByRecursion (λ (p : Placed). IsFine p p.part) ps
  run_fine [] done s u f b at d li pl pls fit w h = tt
  run_fine (p ∷ ps) done s u f b at d li pl pls fit w h =
      let more = only_grown canonical t C ps h.0 u h.2 h.5 in
      let one = part_passed done p ps s h.0 f h.1 more.0 p.part refl at d.0 li.0 pl fit (sym w ∙ more.1) h.4 in
      let fits = part_keeps t n s p p.part h.0 h.1 pls.0 fit (part_any t C Any (canon_spells t n) s p p.part h.0 h.1 h.4) in
      (one.fine, run_fine ps (done ++ p ∷ []) h.0 u one.rest h.2 one.at d.1 li.1 (All-both (IsPlaced t) done (p ∷ []) pl (pls.0, tt)) pls.1 fits w h.5)
