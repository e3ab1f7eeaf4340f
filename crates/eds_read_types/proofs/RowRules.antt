-- Rows that keep what each rule says of them make a table that keeps all rules.
use Rattle.std.proofs.Common.{◌≡◌, ℕ, suc, ◌<◌, ◌≤◌, [], map, length, slice_get, Option, Some, None, refl, arith}
use Rattle.std.specs.Prelude.{is_some}
use Rattle.std.specs.List.{AllByRecursion}
use Rattle.std.proofs.lemmas.Option.{slice_get_within}
use Rattle.eds_types.specs.declared.row.TypeRow.{TypeRow}
use Rattle.eds_types.specs.declared.row.Kind.{Kind}
use Rattle.eds_types.specs.declared.row.Kind.TheVariants as kind
use Rattle.eds_types.specs.Fields.{type_by}
use Rattle.eds_types.specs.Rows.{Table, base_in, base_of, container_by, container_of, constraints_of, own_parts, Placed, sequence}
use Rattle.eds_types.specs.Rules.{AreDistinct, KindKeeps, HasKind, IsContainer, DerivesFrom, IsNested, ItemsNest, PartKeeps, ConstraintKeeps, KeepsRules}
use Rattle.eds_nesting.specs.Families.{families, family, containers}
use Rattle.eds_type_rows.proofs.SequenceFacts.{OwnDiffer, name_mark, length_mark, sequence_differs, sequence_keeps}
use Rattle.eds_read_types.proofs.FamilyFacts.{derived_few}

-- a level for each type, which counts its bases
pub record AreLeveled (t : Table) : Type 0 where
  pub level : ℕ → ℕ
  pub low : (id : ℕ) → level id < 16
  pub base_level : (id base : ℕ) → base_of t id ≡ Some base → level id ≡ suc (level base)

-- what the rules say of rows one by one
pub record AreRows (t : Table) : Type 0 where
  pub few : length t ≤ 4096
  pub names : AreDistinct (map (λ (row : TypeRow). row.name) t)
  pub kinds : (id : ℕ) (row : TypeRow) → slice_get t id ≡ Some row → KindKeeps row.kind
  pub bases : (id base : ℕ) (row : TypeRow) → slice_get t id ≡ Some row → base_of t id ≡ Some base → HasKind t base (DerivesFrom row.kind)
  pub levels : AreLeveled t
  -- the family of a container is small
  pub family_few : (id : ℕ) → IsContainer t id → containers t (families t) (family (families t) id) ≤ 512
  -- how deep the types of a family are nested
  pub rank : ℕ → ℕ
  pub nesting : (id : ℕ) → rank id < 32
  pub base_rank : (id base : ℕ) → base_of t id ≡ Some base → rank id ≡ rank base
  pub parts_nest : (y : ℕ) → AllByRecursion (λ (p : Placed). (id : ℕ) → type_by (Some p.part) ≡ Some id → IsNested t rank y id) (own_parts t y)
  pub items_nest : (id : ℕ) (row : TypeRow) → slice_get t id ≡ Some row → ItemsNest t rank id row.kind
  pub parts : (y : ℕ) → AllByRecursion (λ (p : Placed). PartKeeps t p p.part) (own_parts t y)
  -- a part's name is that of no other of its container and of no part of a base, and neither is it a second length entry
  pub named : (k : ℕ) → OwnDiffer t levels.level levels.low levels.base_level name_mark k
  pub measured : (k : ℕ) → OwnDiffer t levels.level levels.low levels.base_level length_mark k
  pub root_constraints : (k : ℕ) → base_of t k ≡ None → constraints_of t k ≡ []
  pub constraints : (k base : ℕ) → base_of t k ≡ Some base → AllByRecursion (ConstraintKeeps t base k) (constraints_of t k)

-- a container derives from a container, and nothing else does
pub alike_kinds : (k base : Kind) → DerivesFrom k base → is_some (container_by base) ≡ is_some (container_by k)
alike_kinds (kind.Int form spans) (kind.Int f s) d = refl
alike_kinds (kind.Int form spans) (kind.Enum f s) d = absurd d
alike_kinds (kind.Int form spans) (kind.Bool f) d = absurd d
alike_kinds (kind.Int form spans) (kind.Str f) d = absurd d
alike_kinds (kind.Int form spans) (kind.Bin n free) d = absurd d
alike_kinds (kind.Int form spans) (kind.Arr i n) d = absurd d
alike_kinds (kind.Int form spans) (kind.Con c) d = absurd d
alike_kinds (kind.Enum form listing) base d = absurd d
alike_kinds (kind.Bool form) base d = absurd d
alike_kinds (kind.Str form) base d = absurd d
alike_kinds (kind.Bin n free) base d = absurd d
alike_kinds (kind.Arr item n) base d = absurd d
alike_kinds (kind.Con c) (kind.Int f s) d = absurd d
alike_kinds (kind.Con c) (kind.Enum f s) d = absurd d
alike_kinds (kind.Con c) (kind.Bool f) d = absurd d
alike_kinds (kind.Con c) (kind.Str f) d = absurd d
alike_kinds (kind.Con c) (kind.Bin n free) d = absurd d
alike_kinds (kind.Con c) (kind.Arr i n) d = absurd d
alike_kinds (kind.Con c) (kind.Con b) d = refl

module _ (t : Table) (r : AreRows t) where
  base_row : (id base : ℕ) → base_of t id ≡ Some base → (row : TypeRow) × (slice_get t id ≡ Some row) × HasKind t base (DerivesFrom row.kind)
  base_row id base e = go (slice_get t id) refl e
    where
      go : (o : Option TypeRow) → slice_get t id ≡ o → base_in o ≡ Some base → (row : TypeRow) × (slice_get t id ≡ Some row) × HasKind t base (DerivesFrom row.kind)
      go None q h = absurd cc
      go (Some row) q h = (row, q, r.bases id base row q e)

  there : (id base : ℕ) → base_of t id ≡ Some base → base < length t
  there id base e = let b = (base_row id base e).2 in slice_get_within t base b.0 b.1

  alike : (id base : ℕ) → base_of t id ≡ Some base → is_some (container_of t base) ≡ is_some (container_of t id)
  alike id base e = let b = base_row id base e in rw (b.1, b.2.1) (alike_kinds (b.0).kind (b.2.0).kind b.2.2)

  pub keeps_all : KeepsRules t
  keeps_all = record {
    few = r.few;
    names = r.names;
    kinds = r.kinds;
    bases = r.bases;
    level = r.levels.level;
    chains = r.levels.low;
    base_level = r.levels.base_level;
    family = λ id is. (let some = derived_few t (record { level = r.levels.level; base_level = r.levels.base_level; base_within = there }) alike id is in let most = r.family_few id is in omega arith);
    rank = r.rank;
    nesting = r.nesting;
    base_rank = r.base_rank;
    parts_nest = r.parts_nest;
    items_nest = r.items_nest;
    parts = r.parts;
    sequences = λ k. sequence_keeps (sequence t k) (sequence_differs t r.levels.level r.levels.low r.levels.base_level name_mark r.named k) (sequence_differs t r.levels.level r.levels.low r.levels.base_level length_mark r.measured k);
    root_constraints = r.root_constraints;
    constraints = r.constraints;
  }
