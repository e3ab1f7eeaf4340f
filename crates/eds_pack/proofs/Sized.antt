-- The first pass finds the size of what the second one writes, however deep types are nested.
use Rattle.std.proofs.Common.{◌≡◌, ℕ, zero, suc, ◌+◌, ◌<◌, Bool, true, false, cond, List, [], ◌∷◌, ◌++◌, length, Some, Ok, Err, refl, sym, ap, ◌∙◌, arith, inl, inr}
use Rattle.std.specs.Prelude.{◌&&◌, ◌==◌, is_some}
use Rattle.std.specs.List.{AllByRecursion}
use Rattle.eds_base.specs.declared.fault.Step.TheVariants as step
use Rattle.eds_bits.specs.Bits.{Bits}
use Rattle.eds_bits.specs.Style.{canonical}
use Rattle.eds_types.specs.declared.reason.PackReason.TheVariants as reason
use Rattle.eds_types.specs.declared.row.Container.{Container}
use Rattle.eds_types.specs.declared.row.Kind.{Kind}
use Rattle.eds_types.specs.declared.row.Kind.TheVariants as kind
use Rattle.eds_types.specs.declared.row.Part.{Part}
use Rattle.eds_types.specs.Fields.{IsAtOrUnder, type_by}
use Rattle.eds_types.specs.Packing.{PackFault, pack_fault_at, pack_fault_here, valued, IsOfKind, KindPackFails, PackFailsWithin}
use Rattle.eds_types.specs.PackedSizes.{Size, own_size, fields_size, container_size, packed_kind_size, packed_row_size, packed_size_within}
use Rattle.eds_types.specs.Plain.{Plain, fields, list_of}
use Rattle.eds_types.specs.Rows.{Table, Placed, chain, container_of, entries_of, id_of, is_concrete, list_has, sequence, trailers_of}
use Rattle.eds_types.specs.Rules.{IsNested, ItemsNest, KeepsRules}
use Rattle.eds_types.specs.Spelling.{KindSpells, ContainerSpells, SpellsWithin}
use Rattle.eds_types.proofs.Tables.{IsTable, IsPartType, IsItemType}
use Rattle.eds_types.proofs.AllOf.{All-pair, All-weaker}
use Rattle.eds_types.proofs.ContainerPacking.{Known}
use Rattle.eds_types.proofs.PackedFields.{TypesTied, fields_spelled, fields_fail}
use Rattle.eds_types.proofs.PackedSizes.{Ties, array_ties, bin_ties, bool_ties, enum_ties, int_ties, text_ties}
use Rattle.eds_types.proofs.PackingLaws.{known_of, packs_within}
use Rattle.eds_types.proofs.Ranks.{sequence_lower}
use Rattle.eds_types.proofs.RuleFacts.{table_of, facts_of}
use Rattle.eds_types.proofs.TableFacts.{Facts}
use Rattle.eds_pack.proofs.Ranks.{parts_lower}

module _ (t : Table) (is : IsTable t) (can : Facts t) where
  abbrev TiedWithin : ℕ → ℕ → Type 0
  TiedWithin n x = (v : Plain) → Ties (packed_size_within n t x v) (SpellsWithin n canonical t x v) (PackFailsWithin n t x v)

  module _ (n : ℕ) (ih : (x : ℕ) → is.rank x < n → x < length t → TiedWithin n x) (id : ℕ) (low : is.rank id < suc n) where
    abbrev C : ℕ → Plain → Bits → Type 0
    C = SpellsWithin n canonical t

    abbrev F : ℕ → Plain → PackFault → Type 0
    F = PackFailsWithin n t

    abbrev S : ℕ → Plain → Size
    S = packed_size_within n t

    ties_of : (k : ℕ) → IsAtOrUnder t id k → AllByRecursion (λ (p : Placed). TypesTied t is can n S p.part) (sequence t k)
    ties_of k u = All-weaker (λ (p : Placed). IsPartType t is.rank id p.part) (λ (p : Placed). TypesTied t is can n S p.part) (λ p l x e. let h = l.lower x e in let r = h.0 in ih x (omega arith) h.1) (sequence t k) (sequence_lower t is id k u)

    known : (k : ℕ) → IsAtOrUnder t id k → Known t is can n k
    known k u = known_of t is can n (packs_within t is can n) id low k u

    con_ties : (c : Container) (v : Plain) → Ties (container_size t S id v) (KindSpells canonical t C id (kind.Con c) v) (KindPackFails t C F id (kind.Con c) v)
    con_ties c v = record {
      spelled = λ b p. ap (container_size t S id) p.2 ∙ fields_spelled t is can n S id known ties_of p.0 (list_of p.1) b p.3;
      fails = λ g f. elim f [
        | inl h ↦ other v h.0 ∙ ap (λ w. Err w) (sym h.1)
        | inr h ↦ ap (container_size t S id) h.2 ∙ fields_fail t is can n S id known ties_of h.0 (list_of h.1) g h.3
      ];
    }
      where
        other : (v : Plain) → (IsOfKind (kind.Con c) v → ⊥) → container_size t S id v ≡ Err (pack_fault_here reason.WrongKind)
        other (fields k f) h = absurd (h tt)
        other v h = refl

    kind_ties : (k : Kind) → IsItemType t is.rank id k → (v : Plain) → Ties (packed_kind_size t S id k v) (KindSpells canonical t C id k v) (KindPackFails t C F id k v)
    kind_ties (kind.Int form spans) i v = int_ties t C F id form spans v
    kind_ties (kind.Enum form listing) i v = enum_ties t C F id form listing v
    kind_ties (kind.Bool form) i v = bool_ties t C F id form v
    kind_ties (kind.Str form) i v = text_ties t C F id form v
    kind_ties (kind.Bin m free) i v = bin_ties t C F id m free v
    kind_ties (kind.Arr item m) i v = array_ties t C F S id item m (let r = i.0 in ih item.0 (omega arith) i.1) (let r = i.0 in packs_within t is can n item.0 (omega arith) i.1) v
    kind_ties (kind.Con c) i v = con_ties c v

    spelled_fields : (k : ℕ) (f : List Plain) (b : Bits) → ContainerSpells canonical t C id k f b → fields_size t S id k f ≡ Ok (length b)
    spelled_fields k f b p = fields_spelled t is can n S id known ties_of k f b p

  ties_within : (n id : ℕ) → is.rank id < n → TiedWithin n id
  unfolding packed_size_within SpellsWithin PackFailsWithin
  ties_within zero id h v = absurd (omega arith)
  ties_within (suc n) id h v = record {
    spelled = λ b p. ap (λ o. packed_row_size t (packed_size_within n t) id o v) p.1 ∙ (kind_ties n (λ x r l. ties_within n x r) id h (p.0).kind (is.items id p.0 p.1) v).spelled b p.2;
    fails = λ g f. ap (λ o. packed_row_size t (packed_size_within n t) id o v) f.1 ∙ (kind_ties n (λ x r l. ties_within n x r) id h (f.0).kind (is.items id f.0 f.1) v).fails g f.2;
  }

-- what has a size as the fields of a container has it as its own
own_of : (t : Table) (size : ℕ → Plain → Size) (id k : ℕ) (f : List Plain) (n : ℕ) → fields_size t size id k f ≡ Ok n → own_size t size k f ≡ Ok n
own_of t size id k f n = go (is_some (container_of t k) && length f == valued (sequence t k)) (list_has (chain t k) id) (is_concrete t k)
  where
    not_ok : {P : Type 0} (g : PackFault) → ◌≡◌ {A = Size} (Err g) (Ok n) → P
    not_ok g e = absurd cc

    go : (a b c : Bool) → cond a (cond b (cond c (own_size t size k f) (Err (pack_fault_at reason.Abstract (step.Choice (id_of k) ∷ [])))) (Err (pack_fault_at reason.NotDerived (step.Choice (id_of k) ∷ [])))) (Err (pack_fault_here reason.WrongKind)) ≡ Ok n → own_size t size k f ≡ Ok n
    go true true true e = e
    go true true false e = not_ok (pack_fault_at reason.Abstract (step.Choice (id_of k) ∷ [])) e
    go true false c e = not_ok (pack_fault_at reason.NotDerived (step.Choice (id_of k) ∷ [])) e
    go false b c e = not_ok (pack_fault_here reason.WrongKind) e

-- what is known of the table, with the ranks that its rules give
pub item_ranked : (t : Table) (rank : ℕ → ℕ) (id : ℕ) (k : Kind) → ItemsNest t rank id k → IsItemType t rank id k
item_ranked t rank id (kind.Int form spans) h = tt
item_ranked t rank id (kind.Enum form listing) h = tt
item_ranked t rank id (kind.Bool form) h = tt
item_ranked t rank id (kind.Str form) h = tt
item_ranked t rank id (kind.Bin n free) h = tt
item_ranked t rank id (kind.Arr item n) h = ((h.0).1, (h.0).0, h.2)
item_ranked t rank id (kind.Con c) h = tt

abbrev pub ranked : (t : Table) → KeepsRules t → IsTable t
ranked t rules = record (table_of t rules) {
  rank = rules.rank;
  nested = rules.nesting;
  base_rank = rules.base_rank;
  parts = λ y. All-weaker (λ (p : Part). IsPartType t (table_of t rules).rank y p × ((id : ℕ) → type_by (Some p) ≡ Some id → IsNested t rules.rank y id)) (IsPartType t rules.rank y)
      (λ p h. record { lower = λ x e. (let n = h.1 x e in (n.1, n.0)); length_is_int = (h.0).length_is_int; free = (h.0).free })
      (entries_of t y ++ trailers_of t y) (All-pair (IsPartType t (table_of t rules).rank y) (λ (p : Part). (id : ℕ) → type_by (Some p) ≡ Some id → IsNested t rules.rank y id) (entries_of t y ++ trailers_of t y) ((table_of t rules).parts y) (parts_lower t rules y));
  items = λ id row e. item_ranked t rules.rank id row.kind (rules.items_nest id row e);
}

-- the bits of a container are as many as the first pass finds
pub own_sized : (t : Table) (rules : KeepsRules t) (n id k : ℕ) → rules.rank id < n + 1 → (f : List Plain) (b : Bits) → ContainerSpells canonical t (SpellsWithin n canonical t) id k f b → own_size t (packed_size_within n t) k f ≡ Ok (length b)
own_sized t rules n id k low f b p =
    let is = ranked t rules in let can = facts_of t rules in
    own_of t (packed_size_within n t) id k f (length b) (spelled_fields t is can n (λ x r l. ties_within t is can n x r) id (omega (arith, low)) k f b p)
