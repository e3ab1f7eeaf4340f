-- The types that are spelled by no bits.
use Rattle.std.proofs.Common.{◌≡◌, ℕ, zero, suc, ◌*◌, ◌<◌, ◌≤◌, List, [], ◌∷◌, ◌++◌, length, reverse, Bool, true, false, cond, Option, Some, None, refl, sym, ap, subst, ◌∙◌, append_assoc, ◌⊎◌, inl, inr, arith}
use Rattle.std.specs.Prelude.{slice_get, IsSome, IfSome, IsTrue}
use Rattle.std.specs.List.{AllByRecursion, flat_map}
use Rattle.std.proofs.lemmas.Bool.{cases_eq}
use Rattle.eds_base.specs.declared.ids.TypeId.{TypeId}
use Rattle.eds_bits.specs.Bits.{Bits, first_pieces}
use Rattle.eds_bits.specs.Lists.{Has, HasOne}
use Rattle.eds_bits.specs.Style.{any}
use Rattle.eds_types.specs.declared.row.TypeRow.{TypeRow}
use Rattle.eds_types.specs.declared.row.Kind.{Kind}
use Rattle.eds_types.specs.declared.row.Kind.TheVariants as kind
use Rattle.eds_types.specs.declared.row.Part.{Part}
use Rattle.eds_types.specs.declared.row.Part.TheVariants as part
use Rattle.eds_types.specs.declared.row.Constraint.{Constraint}
use Rattle.eds_types.specs.declared.row.Container.{Container}
use Rattle.eds_types.specs.Fields.{Holds, StartsInEntries, constraints_along}
use Rattle.eds_types.specs.Laws.{EmptyTypes}
use Rattle.eds_types.specs.Plain.{Plain, bits, fields, none, list_of, plain}
use Rattle.eds_types.specs.Rows.{Table, chain, chain_within, chain_before, base_of, container_of, container_by, container_in, concrete_in, is_concrete, entries_of, constraints_of, Placed, placed_from, placed_entries, placed_trailers, sequence}
use Rattle.eds_types.specs.Rules.{KindKeeps, IsContainer, IsValueOf, HasKind, ItemsNest, IsHollow, DerivesFrom, PartKeeps, ConstraintKeeps, KeepsRules}
use Rattle.eds_types.specs.Sizes.{open_by, open_in, open_of, tail_of, trailers_along}
use Rattle.eds_types.specs.Spelling.{Progress, started, PartPasses, PartsPass, ItemsSpell, ContainerSpells, KindSpells, SpellsWithin}
use Rattle.eds_types.proofs.Tables.{IsTable, IsIntRow, IsIntKind}
use Rattle.eds_types.proofs.AllOf.{All-weaker, All-each, All-has, All-flat}
use Rattle.eds_types.proofs.ChainLaws.{chain_step, chain_front, front_same, split_last}
use Rattle.eds_types.proofs.LeastBound.{text_bound}
use Rattle.eds_types.proofs.Ranks.{row_there}
use Rattle.eds_types.proofs.RuleFacts.{table_of, facts_of, on_sequence}
use Rattle.eds_types.proofs.ScalarReading.{size_of}
use Rattle.eds_types.proofs.SpellingSizes.{same_row}
use Rattle.eds_types.proofs.TableFacts.{Facts, IsNumbered, ListFits, ListsFit, IsSized, TailsFollowed}
use Rattle.eds_types.proofs.TailSizes.{Tells, open_from}

-- ---- no bits

no_front : (c d : Bits) → [] ≡ c ++ d → c ≡ []
no_front [] d e = refl
no_front (x ∷ c) d e = absurd cc

no_more : (c d : Bits) → [] ≡ c ++ d → d ≡ []
no_more [] d e = sym e
no_more (x ∷ c) d e = absurd cc

text_some : (n : ℕ) (fixed : Bool) → 1 ≤ n → 1 ≤ cond fixed (8 * n) 8
text_some n true h = omega arith
text_some n false h = omega arith

module _ (t : Table) (E : ℕ → Plain → Bits → Type 0) where
  -- a scalar, a text and a binary that isn't open have bits
  scalar_bits : (id : ℕ) (k : Kind) (v : Plain) → KindKeeps k → IsValueOf k v → open_by k ≡ None → KindSpells any t E id k v [] → ⊥
  scalar_bits id (kind.Int form spans) v keeps i o h = let e = ((h.3).is).size in let w = (form.valid).some in omega arith
  scalar_bits id (kind.Enum form listing) v keeps i o h = let e = ((h.4).is).size in let w = (form.valid).some in omega arith
  scalar_bits id (kind.Bool form) v keeps i o h = let e = (h.2).size in let w = form.some in omega arith
  scalar_bits id (kind.Str form) v keeps i o h = omega (arith, text_bound form.length form.fixed form.ascii form.stop (size_of form) h.0 [] h.2, text_some form.length form.fixed form.some)
  scalar_bits id (kind.Bin n true) v keeps i o h = absurd cc
  scalar_bits id (kind.Bin n false) v keeps i o h = let e = h.0 in let w = keeps.0 in omega arith
  scalar_bits id (kind.Arr item n) v keeps i o h = i
  scalar_bits id (kind.Con c) v keeps i o h = i

  int_bits : (id : ℕ) (k : Kind) (v : Plain) → IsIntKind k → KindSpells any t E id k v [] → ⊥
  int_bits id (kind.Int form spans) v i h = let e = ((h.3).is).size in let w = (form.valid).some in omega arith
  int_bits id (kind.Enum form listing) v i h = i
  int_bits id (kind.Bool form) v i h = i
  int_bits id (kind.Str form) v i h = i
  int_bits id (kind.Bin n free) v i h = i
  int_bits id (kind.Arr item n) v i h = i
  int_bits id (kind.Con c) v i h = i

-- ---- chains and sequences without parts

none_in : (A : Type 0) (f : ℕ → List A) (ys : List ℕ) (y : ℕ) → flat_map f ys ≡ [] → Has ys y → f y ≡ []
none_in A f ys y e h = go h.before ys h.is e
  where
    first_nil : (xs zs : List A) → xs ++ zs ≡ [] → xs ≡ []
    first_nil [] zs e = refl
    first_nil (x ∷ xs) zs e = absurd cc

    last_nil : (xs zs : List A) → xs ++ zs ≡ [] → zs ≡ []
    last_nil [] zs e = e
    last_nil (x ∷ xs) zs e = absurd cc

    go : (before ys : List ℕ) → ys ≡ before ++ y ∷ h.after → flat_map f ys ≡ [] → f y ≡ []
    go [] ys e q = first_nil (f y) (flat_map f h.after) (sym (ap (flat_map f) e) ∙ q)
    go (x ∷ before) ys e q = go before (before ++ y ∷ h.after) refl (last_nil (f x) (flat_map f (before ++ y ∷ h.after)) (sym (ap (flat_map f) e) ∙ q))

unplaced_nil : (y i : ℕ) (ps : List Part) → placed_from y i ps ≡ [] → ps ≡ []
unplaced_nil y i [] e = refl
unplaced_nil y i (p ∷ ps) e = absurd cc

module _ (t : Table) (keeps : KeepsRules t) where
  is : IsTable t
  is = table_of t keeps

  can : Facts t
  can = facts_of t keeps

  -- no path starts in the entries of a container without parts
  none_starts : (k : ℕ) → sequence t k ≡ [] → (path : List (TypeId × ℕ)) → StartsInEntries t k path → ⊥
  none_starts k e [] h = h
  none_starts k e (p ∷ path) h = let lt = h.1 in omega (arith, ap length no_entries)
    where
      first_nil : (xs zs : List Placed) → xs ++ zs ≡ [] → xs ≡ []
      first_nil [] zs e = refl
      first_nil (x ∷ xs) zs e = absurd cc

      no_entries : entries_of t (p.0).0 ≡ []
      no_entries = unplaced_nil (p.0).0 0 (entries_of t (p.0).0) (none_in Placed (placed_entries t) (chain t k) (p.0).0 (first_nil (flat_map (placed_entries t) (chain t k)) (flat_map (placed_trailers t) (reverse (chain t k))) e) h.0)

  -- ---- what is spelled by no bits is hollow, or an open binary

  int_within : (n x : ℕ) (v : Plain) → IsIntRow (slice_get t x) → SpellsWithin n any t x v [] → ⊥
  unfolding SpellsWithin
  int_within zero x v i h = h
  int_within (suc n) x v i h = int_bits t (SpellsWithin n any t) x (h.0).kind v (subst IsIntRow h.1 i) h.2

  value_within : (n x : ℕ) (v : Plain) → HasKind t x (λ k. IsValueOf k v) → open_of t x ≡ None → SpellsWithin n any t x v [] → ⊥
  unfolding SpellsWithin
  value_within zero x v i o h = h
  value_within (suc n) x v i o h = scalar_bits t (SpellsWithin n any t) x (h.0).kind v (keeps.kinds x h.0 h.1) (subst (λ (r : TypeRow). IsValueOf r.kind v) (same_row t x i.0 h.0 i.1 h.1) i.2) (sym (ap open_in h.1) ∙ o) h.2

  module _ (n : ℕ) (ih : (x : ℕ) (v : Plain) → SpellsWithin n any t x v [] → IsHollow t x ⊎ IsSome (open_of t x)) where
    abbrev E : ℕ → Plain → Bits → Type 0
    E x v b = SpellsWithin n any t x v b

    no_int : (x : ℕ) (v : Plain) → IsIntRow (slice_get t x) → E x v [] → ⊥
    no_int x v i h = int_within n x v i h

    no_value : (x : ℕ) (v : Plain) → HasKind t x (λ k. IsValueOf k v) → open_of t x ≡ None → E x v [] → ⊥
    no_value x v i o h = value_within n x v i o h

    none_none : (o : Option ℕ) → o ≡ None → IsSome o → ⊥
    none_none o e h = let q : false ≡ true = subst IsSome e h in cc

    -- the first part of a container has bits
    first_part : (p : Placed) (q : Part) (ps : List Placed) (s u : Progress) → p.part ≡ q → AllByRecursion (λ (p : Placed). PartKeeps t p p.part) (p ∷ ps) → (k : ℕ) → sequence t k ≡ p ∷ ps → PartPasses any t E s p q u [] → ⊥
    first_part p (part.Plain name id) ps s u e keep k is_seq h = elim (ih id.0 h.0 h.1) [
      | inl hollow ↦ (subst (PartKeeps t p) e keep.0).0 hollow
      | inr free ↦ no_tail (open_of t id.0) free (subst (λ (r : Part). IfTold r) e first_tail)
    ]
      where
        IfTold : Part → Type 0
        IfTold r = IfSome (tail_of t r) (λ n. HasOne Tells [] × (ps ≡ trailers_along t p.container) × AllByRecursion (IsSized t) ps)

        first_tail : IfTold p.part
        first_tail = (subst (TailsFollowed t []) is_seq (can.tails k)).0

        no_tail : (o : Option ℕ) → IsSome o → IfSome o (λ n. HasOne Tells [] × (ps ≡ trailers_along t p.container) × AllByRecursion (IsSized t) ps) → ⊥
        no_tail None i f = cc
        no_tail (Some m) i f = f.0
    first_part p (part.Fixed name id v) ps s u e keep k is_seq h = (let fixed = subst (PartKeeps t p) e keep.0 in no_value id.0 (plain v) fixed.0 fixed.1 h.0)
    first_part p (part.Pad m) ps s u e keep k is_seq h = let few = (subst (PartKeeps t p) e keep.0).0 in let size = h.0 in omega arith
    first_part p (part.List name id y i) ps s u e keep k is_seq h = subst (ListFits t []) e (subst (ListsFit t []) is_seq (can.lists k)).0
    first_part p (part.Length name id c0 c1) ps s u e keep k is_seq h = no_int id.0 _ (subst (IsNumbered t) e (subst (AllByRecursion (λ (p : Placed). IsNumbered t p.part)) is_seq (can.numbered k)).0) h.1
    first_part p (part.Check name id c) ps s u e keep k is_seq h = no_int id.0 _ (subst (IsNumbered t) e (subst (AllByRecursion (λ (p : Placed). IsNumbered t p.part)) is_seq (can.numbered k)).0) h.0

    no_parts : (k : ℕ) (u : Progress) (ps : List Placed) → sequence t k ≡ ps → PartsPass any t E started ps u [] → sequence t k ≡ []
    no_parts k u [] e h = e
    no_parts k u (p ∷ ps) e h =
        absurd (first_part p p.part ps started h.0 refl (subst (AllByRecursion (λ (p : Placed). PartKeeps t p p.part)) e (on_sequence t (λ (p : Placed). PartKeeps t p p.part) keeps.parts k)) k e
        (subst (PartPasses any t E started p p.part h.0) (no_front h.1 h.2 h.3) h.4))

    hollow_at : (id k : ℕ) (f : List Plain) → ContainerSpells any t E id k f [] → IsHollow t id
    hollow_at id k f sp =
        let bare = no_parts k sp.end (sequence t k) refl sp.parts in
        record {
          hollow = k;
          concrete = sp.concrete;
          under = sp.under;
          no_parts = bare;
          last = λ l concrete under. elim (cases_eq l k) [
            | inl e ↦ e
            | inr ne ↦ absurd (sp.most_derived l ne under (record { concrete = concrete; under = under; holds = All-each (λ (c : Constraint). StartsInEntries t k c.path → Holds t (sp.end).fields c) (λ c st. absurd (none_starts k bare c.path st)) (constraints_along t l) }))
          ];
        }

    some_items : (id : ℕ) (item : TypeId) (vs : List Plain) (m : ℕ) → 1 ≤ m → length vs ≡ m → ItemsSpell (E item.0) vs [] → IsHollow t item.0 ⊎ IsSome (open_of t item.0)
    some_items id item [] m some e h = absurd (omega arith)
    some_items id item (v ∷ vs) m some e h = ih item.0 v (subst (E item.0 v) (no_front h.0 h.1 h.2) h.3)

    kind_empty : (id : ℕ) (row : TypeRow) → slice_get t id ≡ Some row → (k : Kind) → row.kind ≡ k → (v : Plain) → KindSpells any t E id k v [] → IsHollow t id ⊎ IsSome (open_of t id)
    kind_empty id row r (kind.Int form spans) e v h = absurd (scalar_bits t E id (kind.Int form spans) v (subst KindKeeps e (keeps.kinds id row r)) (h.0, h.1, h.2) refl h)
    kind_empty id row r (kind.Enum form listing) e v h = absurd (let q = ((h.4).is).size in let w = (form.valid).some in omega arith)
    kind_empty id row r (kind.Bool form) e v h = absurd (let q = (h.2).size in let w = form.some in omega arith)
    kind_empty id row r (kind.Str form) e v h = absurd (omega (arith, text_bound form.length form.fixed form.ascii form.stop (size_of form) h.0 [] h.2, text_some form.length form.fixed form.some))
    kind_empty id row r (kind.Bin m true) e v h = inr (subst IsSome (sym (ap open_in r ∙ ap open_by e)) refl)
    kind_empty id row r (kind.Bin m false) e v h = absurd (let q = h.0 in let w = (subst KindKeeps e (keeps.kinds id row r)).0 in omega arith)
    kind_empty id row r (kind.Arr item m) e v h =
        let rule : ItemsNest t keeps.rank id (kind.Arr item m) = subst (ItemsNest t keeps.rank id) e (keeps.items_nest id row r) in
        elim (some_items id item (list_of h.0) m (subst KindKeeps e (keeps.kinds id row r)).0 h.2 h.3) [
          | inl hollow ↦ absurd (rule.1 hollow)
          | inr free ↦ absurd (none_none (open_of t item.0) rule.2 free)
        ]
    kind_empty id row r (kind.Con c) e v h = inl (hollow_at id h.0 (list_of h.1) h.3)

  to_empty : (n id : ℕ) (v : Plain) → SpellsWithin n any t id v [] → IsHollow t id ⊎ IsSome (open_of t id)
  unfolding SpellsWithin
  to_empty zero id v h = absurd h
  to_empty (suc n) id v h = kind_empty n (to_empty n) id h.0 h.1 (h.0).kind refl v h.2

  -- ---- a hollow type is spelled by no bits, and so is an open binary

  is_container : (k : Kind) → IsSome (container_by k) → (c : Container) × (k ≡ kind.Con c)
  is_container (kind.Int form spans) i = absurd cc
  is_container (kind.Enum form listing) i = absurd cc
  is_container (kind.Bool form) i = absurd cc
  is_container (kind.Str form) i = absurd cc
  is_container (kind.Bin n free) i = absurd cc
  is_container (kind.Arr item n) i = absurd cc
  is_container (kind.Con c) i = (c, refl)

  base_kind : (k base : Kind) → IsSome (container_by k) → DerivesFrom k base → IsSome (container_by base)
  base_kind (kind.Int form spans) base i d = absurd cc
  base_kind (kind.Enum form listing) base i d = absurd cc
  base_kind (kind.Bool form) base i d = absurd cc
  base_kind (kind.Str form) base i d = absurd cc
  base_kind (kind.Bin n free) base i d = absurd cc
  base_kind (kind.Arr item n) base i d = absurd cc
  base_kind (kind.Con c) (kind.Int form spans) i d = absurd d
  base_kind (kind.Con c) (kind.Enum form listing) i d = absurd d
  base_kind (kind.Con c) (kind.Bool form) i d = absurd d
  base_kind (kind.Con c) (kind.Str form) i d = absurd d
  base_kind (kind.Con c) (kind.Bin n free) i d = absurd d
  base_kind (kind.Con c) (kind.Arr item n) i d = absurd d
  base_kind (kind.Con c) (kind.Con base) i d = refl

  base_container : (k base : ℕ) → base_of t k ≡ Some base → IsContainer t k → IsContainer t base
  base_container k base e i = go (slice_get t k) refl i
    where
      go : (o : Option TypeRow) → slice_get t k ≡ o → IsSome (container_in o) → IsContainer t base
      go None r i = absurd cc
      go (Some row) r i = let h = keeps.bases k base row r e in subst (λ o. IsSome (container_in o)) (sym h.1) (base_kind row.kind (h.0).kind i h.2)

  -- the bases of a container are containers
  up_container : (n k x : ℕ) → Has (chain_within n t k) x → IsContainer t k → IsContainer t x
  unfolding chain_within
  up_container zero k x h i = absurd (no_item h.before h.after h.is)
    where
      no_item : (before after : List ℕ) → [] ≡ before ++ x ∷ after → ⊥
      no_item [] after e = cc
      no_item (y ∷ before) after e = cc
  up_container (suc n) k x h i = go (base_of t k) refl h (up_container n)
    where
      in_front : (front : List ℕ) → Has (front ++ k ∷ []) x → Has front x ⊎ (x ≡ k)
      in_front front h = elim (split_last front k h.before x h.after h.is) [ inl q ↦ inr q.1 | inr q ↦ inl (record { before = h.before; after = q.0; is = q.2 }) ]

      go : (o : Option ℕ) → base_of t k ≡ o → Has (chain_before (chain_within n t) o ++ k ∷ []) x → ((k x : ℕ) → Has (chain_within n t k) x → IsContainer t k → IsContainer t x) → IsContainer t x
      go None e h ih = elim (in_front [] h) [ inl q ↦ absurd (no_item q.before q.after q.is) | inr q ↦ subst (IsContainer t) (sym q) i ]
        where
          no_item : (before after : List ℕ) → [] ≡ before ++ x ∷ after → ⊥
          no_item [] after e = cc
          no_item (y ∷ before) after e = cc
      go (Some base) e h ih = elim (in_front (chain_within n t base) h) [ inl q ↦ ih base x q (base_container k base e i) | inr q ↦ subst (IsContainer t) (sym q) i ]

  concrete_container : (k : ℕ) → IsTrue (is_concrete t k) → IsContainer t k
  concrete_container k h = go (container_of t k) h
    where
      go : (o : Option Container) → IsTrue (concrete_in o) → IsSome o
      go None h = absurd cc
      go (Some c) h = refl

  -- no constraint stands along a chain without parts
  unconstrained : (k y : ℕ) → sequence t k ≡ [] → Has (chain t k) y → AllByRecursion (Holds t []) (constraints_of t y)
  unconstrained k y bare h = go (base_of t y) refl
    where
      own : chain t y ≡ h.before ++ y ∷ []
      own = chain_front t is 16 k (is.low k) (base_of t k) refl h.before y h.after h.is

      up : (base : ℕ) → base_of t y ≡ Some base → (z : ℕ) → Has (chain t base) z → Has (chain t k) z
      up base e z q =
          let front : h.before ≡ chain t base = front_same h.before (chain t base) y y (sym own ∙ chain_step t is y (Some base) e) in
          record { before = q.before; after = q.after ++ y ∷ h.after; is = h.is ∙ ap (λ w. w ++ y ∷ h.after) (front ∙ q.is) ∙ append_assoc q.before (z ∷ q.after) (y ∷ h.after) }

      starts : (base : ℕ) → base_of t y ≡ Some base → (path : List (TypeId × ℕ)) → StartsInEntries t base path → StartsInEntries t k path
      starts base e [] s = s
      starts base e (p ∷ path) s = (up base e (p.0).0 s.0, s.1)

      go : (o : Option ℕ) → base_of t y ≡ o → AllByRecursion (Holds t []) (constraints_of t y)
      go None e = rw (keeps.root_constraints y e) tt
      go (Some base) e = All-weaker (ConstraintKeeps t base y) (Holds t []) (λ c q. absurd (none_starts k bare c.path (starts base e c.path q.starts))) (constraints_of t y) (keeps.constraints y base e)

  hollow_spells : (n id : ℕ) → id < length t → (h : IsHollow t id) → SpellsWithin (suc n) any t id (fields h.hollow none) []
  unfolding SpellsWithin
  hollow_spells n id there h =
      let r = row_there t is id there in
      let c = is_container (r.0).kind (subst (λ o. IsSome (container_in o)) r.1 (up_container 16 h.hollow id h.under (concrete_container h.hollow h.concrete))) in (
        r.0,
        r.1,
        subst (λ k. KindSpells any t (SpellsWithin n any t) id k (fields h.hollow none) []) (sym c.1) (
          h.hollow,
          none,
          refl,
          record {
            concrete = h.concrete;
            under = h.under;
            end = started;
            parts = subst (λ ps. PartsPass any t (SpellsWithin n any t) started ps started []) (sym h.no_parts) (refl, refl);
            values = refl;
            size = tt;
            constraints = All-flat (Holds t []) (Has (chain t h.hollow)) (constraints_of t) (λ y q. unconstrained h.hollow y h.no_parts q) (chain t h.hollow) (All-has [] (chain t h.hollow));
            most_derived = λ l ne under k. ne (h.last l k.concrete under);
          },
        ),
      )

  open_spells : (n id : ℕ) → IsSome (open_of t id) → SpellsWithin (suc n) any t id (bits 0 []) []
  unfolding first_pieces
  open_spells n id i = go (open_of t id) refl i
    where
      go : (o : Option ℕ) → open_of t id ≡ o → IsSome o → SpellsWithin (suc n) any t id (bits 0 []) []
      go None e i = absurd cc
      go (Some m) e i = open_from t (suc n) id m (omega arith) e (bits 0 []) [] (omega arith, (0, refl)) refl

pub empty_types : EmptyTypes
empty_types t id h = (
  (λ s. to_empty t h.rules 32 id s.0 s.1),
  (λ e. elim e [
    | inl hollow ↦ (fields hollow.hollow none, hollow_spells t h.rules 31 id h.there hollow)
    | inr free ↦ (bits 0 [], open_spells t h.rules 31 id free)
  ]),
)
