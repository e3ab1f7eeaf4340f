-- A container is passed over by its segment as the reading function reads it.
use Rattle.std.proofs.Common.{◌≡◌, ℕ, suc, ◌+◌, ◌-◌, ◌≤◌, true, List, [], ◌∷◌, length, drop, Option, Some, None, Ok, refl, ap, ◌∙◌, arith, length-drop}
use Rattle.std.specs.Prelude.{slice_get}
use Rattle.std.specs.List.{All, AllByRecursion, AllZip}
use Rattle.std.proofs.lemmas.List.Elements.{recursion_from_All}
use Rattle.eds_bits.specs.Bits.{Bits}
use Rattle.eds_overlap.specs.Laws.{read_type}
use Rattle.eds_types.specs.declared.row.Kind.{Kind}
use Rattle.eds_types.specs.declared.row.Kind.TheVariants as kind
use Rattle.eds_types.specs.declared.row.TypeRow.{TypeRow}
use Rattle.eds_types.specs.Plain.{Plain, fields, plains_of}
use Rattle.eds_types.specs.Reading.{read_kind, read_row, read_within, read_to_end, ended}
use Rattle.eds_types.specs.Rows.{Table, is_concrete, concrete_in, container_in, container_by}
use Rattle.eds_types.specs.Rules.{KeepsRules}
use Rattle.eds_unpack.specs.declared.segment.Operation.{Operation}
use Rattle.eds_unpack.specs.declared.segment.Segment.{Segment}
use Rattle.eds_unpack.specs.Entries.{IsLow}
use Rattle.eds_unpack.specs.Readers.{sized}
use Rattle.eds_unpack.specs.Segments.{HasValue, IsSegmentOf, ReadsAs, Says}
use Rattle.eds_unpack.specs.Straight.{is_straight}
use Rattle.eds_unpack.specs.Walks.{type_of}
use Rattle.eds_unpack.proofs.SegmentReads.{segment_reads}
use Rattle.eds_unpack.proofs.StraightReads.{concrete}

container_row : (t : Table) (n id : ℕ) (b : Bits) → is_concrete t id ≡ true → read_within (suc n) t id b ≡ ended t (read_within n t) (read_to_end t (read_within n t) id b)
unfolding read_within
container_row t n id b e = go (slice_get t id) e
  where
    by_kind : (k : Kind) → concrete_in (container_by k) ≡ true → read_kind t (read_within n t) id k b ≡ ended t (read_within n t) (read_to_end t (read_within n t) id b)
    by_kind (kind.Int form spans) e = absurd cc
    by_kind (kind.Enum form listing) e = absurd cc
    by_kind (kind.Bool form) e = absurd cc
    by_kind (kind.Str form) e = absurd cc
    by_kind (kind.Bin m free) e = absurd cc
    by_kind (kind.Arr item m) e = absurd cc
    by_kind (kind.Con c) e = refl

    go : (row : Option TypeRow) → concrete_in (container_in row) ≡ true → read_row t (read_within n t) id row b ≡ ended t (read_within n t) (read_to_end t (read_within n t) id b)
    go None e = absurd cc
    go (Some row) e = by_kind row.kind e

record Values (t : Table) (b : Bits) (os : List Operation) : Type 0 where
  pub values : List Plain
  pub say : AllZip (Says t b) os values

all_values : (t : Table) (b : Bits) (os : List Operation) → AllByRecursion (HasValue t b) os → Values t b os
all_values t b [] h = record { values = []; say = tt }
all_values t b (o ∷ os) h = let more = all_values t b os h.1 in record { values = (h.0).0 ∷ more.values; say = ((h.0).1, more.say) }

-- the container is read as the values of its operations, and has so many bits
pub segment_sized : (t : Table) (rules : KeepsRules t) (id : ℕ) (s : Segment) (b : Bits) (vs : List Plain) → IsSegmentOf t id s → s.bits ≤ length b → AllZip (Says t b) s.operations.items vs → sized b (read_type t id b) ≡ Ok (fields id (plains_of vs), s.bits)
segment_sized t rules id s b vs is enough say =
    let low : IsLow t 32 id = record { rules = rules; low = rules.nesting id } in
    let reads : read_type t id b ≡ Ok (fields id (plains_of vs), drop s.bits b) = container_row t 31 id b (concrete t id is.straight) ∙ segment_reads t id s b vs is enough say 31 low in
    let size : length b - length (drop s.bits b) ≡ s.bits = omega (arith, length-drop s.bits b) in
    ap (sized b) reads ∙ ap (λ n. Ok (fields id (plains_of vs), n)) size

pub segment_passes : (t : Table) (rules : KeepsRules t) (id : ℕ) (s : Segment) (b : Bits) → IsSegmentOf t id s → s.bits ≤ length b → All (HasValue t b) s.operations.items → (v : Plain) × (sized b (read_type t id b) ≡ Ok (v, s.bits)) × (type_of id v ≡ id)
segment_passes t rules id s b is enough have =
    let all = all_values t b s.operations.items (recursion_from_All (HasValue t b) s.operations.items have) in
    (fields id (plains_of all.values), segment_sized t rules id s b all.values is enough all.say, refl)

-- a container that is read as a value so wherever it is nested is read so by itself, and has the bits before the rest
pub straight_sized : (t : Table) (rules : KeepsRules t) (id : ℕ) (b rest : Bits) (v : Plain) (n : ℕ) → is_straight t id ≡ true → ReadsAs t id b v rest → length b ≡ n + length rest → sized b (read_type t id b) ≡ Ok (v, n)
straight_sized t rules id b rest v n straight reads e =
    let low : IsLow t 32 id = record { rules = rules; low = rules.nesting id } in
    let read : read_type t id b ≡ Ok (v, rest) = container_row t 31 id b (concrete t id straight) ∙ reads 31 low in
    let size : length b - length rest ≡ n = omega (arith, e) in
    ap (sized b) read ∙ ap (λ m. Ok (v, m)) size
