-- Types whose rows keep the rules one by one make a table that keeps them all.
use Rattle.std.proofs.Common.{◌≡◌, ℕ, zero, suc, ◌+◌, ◌<◌, ◌≤◌, false, List, [], ◌∷◌, ◌++◌, map, length, slice_get, Option, Some, None, refl, sym, ap, subst, ◌∙◌, inl, inr, arith}
use Rattle.std.specs.Prelude.{is_some, IfSome, IsTrue}
use Rattle.std.specs.List.{AllByRecursion}
use Rattle.eds_bits.specs.Lists.{Has}
use Rattle.eds_types.specs.declared.row.TypeRow.{TypeRow}
use Rattle.eds_types.specs.declared.row.Container.{Container}
use Rattle.eds_types.specs.declared.row.Part.{Part}
use Rattle.eds_types.specs.declared.row.Part.TheVariants as part
use Rattle.eds_types.specs.declared.row.Kind.{Kind}
use Rattle.eds_types.specs.declared.row.Kind.TheVariants as kind
use Rattle.eds_types.specs.Fields.{type_by}
use Rattle.eds_types.specs.Plain.{plain}
use Rattle.eds_types.specs.Sizes.{open_of}
use Rattle.eds_types.specs.Rows.{Table, base_in, base_of, container_by, container_in, container_of, concrete_in, entries_in, trailers_in, constraints_in, constraints_of, own_parts, Placed, placed_from, chain_before, chain_within}
use Rattle.eds_types.specs.Rules.{AreDistinct, KindKeeps, HasKind, IsContainer, IsHollow, IsValueOf, IsInt, IsScale, HoldsCheck, IsCounted, DerivesFrom, IsNested, ItemsNest, TailKeeps, PartKeeps, ConstraintKeeps, KeepsRules}
use Rattle.eds_nesting.specs.Families.{families, family, containers}
use Rattle.eds_type_rows.proofs.SequenceFacts.{OwnDiffer, name_mark, length_mark, has-parts}
use Rattle.eds_read_types.proofs.RowRules.{AreLeveled, AreRows, keeps_all}

-- the type is spelled by some bits where it is a container
abbrev pub IsSolid : Table → ℕ → Type 0
IsSolid t id = IsHollow t id → ⊥

-- what a part of a container keeps
abbrev pub PartFits : Table → Placed → Part → Type 0
PartFits t p (part.Plain name id) = IsSolid t id.0 × IfSome (open_of t id.0) (λ n. TailKeeps t p)
PartFits t p (part.Fixed name id v) = HasKind t id.0 (λ k. IsValueOf k (plain v)) × (open_of t id.0 ≡ None)
PartFits t p (part.Pad n) = (1 ≤ n) × (n ≤ 524288)
PartFits t p (part.List name id y i) = IsSolid t id.0 × (open_of t id.0 ≡ None) × IsCounted t p y.0 i
PartFits t p (part.Length name id c0 c1) = IsInt t id.0 (λ form spans. Unit {0}) × IsScale c0 c1
PartFits t p (part.Check name id check) = IsInt t id.0 (HoldsCheck check) × (base_of t id.0 ≡ None)

-- and its type is nested less deep
pub record EntryKeeps (t : Table) (rank : ℕ → ℕ) (p : Placed) : Type 0 where
  pub fits : PartFits t p p.part
  pub nests : (id : ℕ) → type_by (Some p.part) ≡ Some id → IsNested t rank p.container id

-- a container without constraints
pub record IsPlainContainer (t : Table) (rank : ℕ → ℕ) (id : ℕ) (c : Container) : Type 0 where
  pub bare : c.constraints ≡ []
  pub parts : AllByRecursion (EntryKeeps t rank) (placed_from id 0 (c.entries ++ c.trailers))

-- an array of items that have bits and are nested less deep
pub record IsPlainArray (t : Table) (rank : ℕ → ℕ) (id item : ℕ) : Type 0 where
  pub nests : IsNested t rank id item
  pub solid : IsSolid t item
  pub closed : open_of t item ≡ None

abbrev pub IsPlainKind : Table → (ℕ → ℕ) → ℕ → Kind → Type 0
IsPlainKind t rank id (kind.Int form spans) = Unit {0}
IsPlainKind t rank id (kind.Enum form listing) = Unit {0}
IsPlainKind t rank id (kind.Bool form) = Unit {0}
IsPlainKind t rank id (kind.Str form) = Unit {0}
IsPlainKind t rank id (kind.Bin n free) = Unit {0}
IsPlainKind t rank id (kind.Arr item n) = IsPlainArray t rank id item.0
IsPlainKind t rank id (kind.Con c) = IsPlainContainer t rank id c

-- what a row keeps by itself
pub record KeepsRow (t : Table) (rank : ℕ → ℕ) (id : ℕ) (row : TypeRow) : Type 0 where
  pub kind_keeps : KindKeeps row.kind
  pub derives : (base : ℕ) → base_in (Some row) ≡ Some base → HasKind t base (DerivesFrom row.kind)
  pub plain : IsPlainKind t rank id row.kind

-- rows whose names differ, whose chains are short, whose families are small, whose types are nested not too deep, and each
-- of which keeps the rules by itself
pub record ArePlainRows (t : Table) : Type 0 where
  pub few : length t ≤ 4096
  pub names : AreDistinct (map (λ (row : TypeRow). row.name) t)
  pub levels : AreLeveled t
  pub family_few : (id : ℕ) → IsContainer t id → containers t (families t) (family (families t) id) ≤ 512
  pub rank : ℕ → ℕ
  pub nesting : (id : ℕ) → rank id < 32
  pub base_rank : (id base : ℕ) → base_of t id ≡ Some base → rank id ≡ rank base
  pub rows : (id : ℕ) (row : TypeRow) → slice_get t id ≡ Some row → KeepsRow t rank id row
  pub named : (k : ℕ) → OwnDiffer t levels.level levels.low levels.base_level name_mark k
  pub measured : (k : ℕ) → OwnDiffer t levels.level levels.low levels.base_level length_mark k

placed_append : (y i : ℕ) (ps qs : List Part) → placed_from y i (ps ++ qs) ≡ placed_from y i ps ++ placed_from y (i + length ps) qs
placed_append y i [] qs = ap (λ n. placed_from y n qs) (omega arith)
placed_append y i (p ∷ ps) qs = ap (λ rest. record { container = y; place = i; part = p } ∷ rest) (placed_append y (i + 1) ps qs ∙ ap (λ n. placed_from y (i + 1) ps ++ placed_from y n qs) (omega arith))

-- the parts of a container, each at its place among its entries and then its trailers
pub own_placed : (t : Table) (y : ℕ) → own_parts t y ≡ placed_from y 0 (entries_in (container_of t y) ++ trailers_in (container_of t y))
own_placed t y = ap (λ n. placed_from y 0 (entries_in (container_of t y)) ++ placed_from y n (trailers_in (container_of t y))) (omega arith) ∙ sym (placed_append y 0 (entries_in (container_of t y)) (trailers_in (container_of t y)))

-- a type that is no container, and of which none derives, is not hollow
pub solid_other : (t : Table) → ((id base : ℕ) → base_of t id ≡ Some base → is_some (container_of t base) ≡ is_some (container_of t id)) → (id : ℕ) → container_of t id ≡ None → IsSolid t id
unfolding chain_within
solid_other t alike id none h = clash (container_of t h.hollow) h.concrete (same 16 h.hollow h.under ∙ ap is_some none)
  where
    clash : (o : Option Container) → IsTrue (concrete_in o) → is_some o ≡ false → ⊥
    clash None c e = absurd cc
    clash (Some c) k e = absurd cc

    same : (n k : ℕ) → Has (chain_within n t k) id → is_some (container_of t k) ≡ is_some (container_of t id)
    same zero k has = absurd (no_item has)
      where
        no_item : Has [] id → ⊥
        no_item has = go has.before has.is
          where
            go : (before : List ℕ) → [] ≡ before ++ id ∷ has.after → ⊥
            go [] e = cc
            go (b ∷ before) e = cc
    same (suc n) k has = elim (has-parts (chain_before (chain_within n t) (base_of t k)) (k ∷ []) id has) [
      | inl l ↦ above (same n) (base_of t k) refl l
      | inr r ↦ ap (λ m. is_some (container_of t m)) (only r.before r.after r.is)
    ]
      where
        above : ((k : ℕ) → Has (chain_within n t k) id → is_some (container_of t k) ≡ is_some (container_of t id)) → (o : Option ℕ) → base_of t k ≡ o → Has (chain_before (chain_within n t) o) id → is_some (container_of t k) ≡ is_some (container_of t id)
        above up None e l = absurd (go l.before l.is)
          where
            go : (before : List ℕ) → [] ≡ before ++ id ∷ l.after → ⊥
            go [] e = cc
            go (b ∷ before) e = cc
        above up (Some base) e l = sym (alike k base e) ∙ up base l

        only : (before after : List ℕ) → k ∷ [] ≡ before ++ id ∷ after → k ≡ id
        only [] after e = cc
        only (b ∷ []) after e = absurd cc
        only (b ∷ c ∷ before) after e = absurd cc

container_by_kind : (t : Table) (rank : ℕ → ℕ) (id : ℕ) (k : Kind) → IsPlainKind t rank id k → (c : Container) → container_by k ≡ Some c → IsPlainContainer t rank id c
container_by_kind t rank id (kind.Int form spans) plain c e = absurd cc
container_by_kind t rank id (kind.Enum form listing) plain c e = absurd cc
container_by_kind t rank id (kind.Bool form) plain c e = absurd cc
container_by_kind t rank id (kind.Str form) plain c e = absurd cc
container_by_kind t rank id (kind.Bin n free) plain c e = absurd cc
container_by_kind t rank id (kind.Arr item n) plain c e = absurd cc
container_by_kind t rank id (kind.Con d) plain c e = let q : d ≡ c = cc in subst (IsPlainContainer t rank id) q plain

module _ (t : Table) (f : ArePlainRows t) where
  container_is : (k : ℕ) (c : Container) → container_of t k ≡ Some c → IsPlainContainer t f.rank k c
  container_is k c e = go (slice_get t k) refl e
    where
      go : (o : Option TypeRow) → slice_get t k ≡ o → container_in o ≡ Some c → IsPlainContainer t f.rank k c
      go None q h = absurd cc
      go (Some row) q h = container_by_kind t f.rank k row.kind (f.rows k row q).plain c h

  no_constraints : (k : ℕ) → constraints_of t k ≡ []
  no_constraints k = go (container_of t k) refl
    where
      go : (o : Option Container) → container_of t k ≡ o → constraints_in o ≡ []
      go None e = refl
      go (Some c) e = (container_is k c e).bare

  -- ---- parts

  over_parts : (P : Placed → Type 0) (y : ℕ) → ((ps : List Placed) → AllByRecursion (EntryKeeps t f.rank) ps → AllByRecursion P ps) → AllByRecursion P (own_parts t y)
  over_parts P y g = subst (AllByRecursion P) (sym (own_placed t y)) (go (container_of t y) refl)
    where
      go : (o : Option Container) → container_of t y ≡ o → AllByRecursion P (placed_from y 0 (entries_in o ++ trailers_in o))
      go None e = tt
      go (Some c) e = g (placed_from y 0 (c.entries ++ c.trailers)) (container_is y c e).parts

  nested : (ps : List Placed) → AllByRecursion (EntryKeeps t f.rank) ps → AllByRecursion (λ (p : Placed). (id : ℕ) → type_by (Some p.part) ≡ Some id → IsNested t f.rank p.container id) ps
  nested [] h = tt
  nested (p ∷ ps) h = ((h.0).nests, nested ps h.1)

  owned : (y i : ℕ) (ps : List Part) → AllByRecursion (λ (p : Placed). (id : ℕ) → type_by (Some p.part) ≡ Some id → IsNested t f.rank p.container id) (placed_from y i ps) → AllByRecursion (λ (p : Placed). (id : ℕ) → type_by (Some p.part) ≡ Some id → IsNested t f.rank y id) (placed_from y i ps)
  owned y i [] h = tt
  owned y i (p ∷ ps) h = (h.0, owned y (i + 1) ps h.1)

  parts_nest : (y : ℕ) → AllByRecursion (λ (p : Placed). (id : ℕ) → type_by (Some p.part) ≡ Some id → IsNested t f.rank y id) (own_parts t y)
  parts_nest y = subst (AllByRecursion (λ (p : Placed). (id : ℕ) → type_by (Some p.part) ≡ Some id → IsNested t f.rank y id)) (sym (own_placed t y)) (go (container_of t y) refl)
    where
      go : (o : Option Container) → container_of t y ≡ o → AllByRecursion (λ (p : Placed). (id : ℕ) → type_by (Some p.part) ≡ Some id → IsNested t f.rank y id) (placed_from y 0 (entries_in o ++ trailers_in o))
      go None e = tt
      go (Some c) e = owned y 0 (c.entries ++ c.trailers) (nested (placed_from y 0 (c.entries ++ c.trailers)) (container_is y c e).parts)

  part_keeps : (p : Placed) (q : Part) → PartFits t p q → PartKeeps t p q
  part_keeps p (part.Plain name id) h = h
  part_keeps p (part.Fixed name id v) h = h
  part_keeps p (part.Pad n) h = h
  part_keeps p (part.List name id y i) h = h
  part_keeps p (part.Length name id c0 c1) h = h
  part_keeps p (part.Check name id check) h = h

  keep : (ps : List Placed) → AllByRecursion (EntryKeeps t f.rank) ps → AllByRecursion (λ (p : Placed). PartKeeps t p p.part) ps
  keep [] h = tt
  keep (p ∷ ps) h = (part_keeps p p.part (h.0).fits, keep ps h.1)

  parts : (y : ℕ) → AllByRecursion (λ (p : Placed). PartKeeps t p p.part) (own_parts t y)
  parts y = over_parts (λ (p : Placed). PartKeeps t p p.part) y keep

  -- ---- items

  items_by_kind : (id : ℕ) (k : Kind) → IsPlainKind t f.rank id k → ItemsNest t f.rank id k
  items_by_kind id (kind.Int form spans) h = tt
  items_by_kind id (kind.Enum form listing) h = tt
  items_by_kind id (kind.Bool form) h = tt
  items_by_kind id (kind.Str form) h = tt
  items_by_kind id (kind.Bin n free) h = tt
  items_by_kind id (kind.Arr item n) h = (h.nests, h.solid, h.closed)
  items_by_kind id (kind.Con c) h = tt

  -- ---- the table

  are_rows : AreRows t
  are_rows = record {
    few = f.few;
    names = f.names;
    kinds = λ id row e. (f.rows id row e).kind_keeps;
    bases = λ id base row e g. (f.rows id row e).derives base (sym (ap base_in e) ∙ g);
    levels = f.levels;
    family_few = f.family_few;
    rank = f.rank;
    nesting = f.nesting;
    base_rank = f.base_rank;
    parts_nest = parts_nest;
    items_nest = λ id row e. items_by_kind id row.kind (f.rows id row e).plain;
    parts = parts;
    named = f.named;
    measured = f.measured;
    root_constraints = λ k e. no_constraints k;
    constraints = λ k base e. subst (AllByRecursion (ConstraintKeeps t base k)) (sym (no_constraints k)) tt;
  }

  pub keeps_by_rows : KeepsRules t
  keeps_by_rows = keeps_all t are_rows
