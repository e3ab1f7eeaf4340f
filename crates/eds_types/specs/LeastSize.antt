-- The least size of a type: a bound below on the bits of a value.
use Rattle.std.specs.Prelude.{ℕ, zero, suc, ◌+◌, ◌*◌, min, int_le, nat_abs, List, [], ◌∷◌, map, filter, sum_by, Option, Some, None, slice_get, slice_index, slice_index_or, if◌then◌else◌}
use Rattle.std.specs.List.{range_with_len}
use Rattle.eds_base.specs.declared.ids.TypeId.{TypeId}
use Rattle.eds_base.specs.declared.spans.Span.{Span}
use Rattle.eds_types.specs.declared.row.TypeRow.{TypeRow}
use Rattle.eds_types.specs.declared.row.Kind.{Kind}
use Rattle.eds_types.specs.declared.row.Kind.TheVariants as kind
use Rattle.eds_types.specs.declared.row.Part.{Part}
use Rattle.eds_types.specs.declared.row.Part.TheVariants as part
use Rattle.eds_types.specs.Rows.{Table, numbers, entries_of, trailers_of, is_concrete, chain, list_has, derived, Placed, sequence}
use Rattle.eds_types.specs.Fields.{row_at, type_by, part_at}
use Rattle.eds_types.specs.Domains.{int_domain_in}

-- more bits than a packed value may have: the size where there is no value, or only larger ones
abbrev pub no_size : ℕ
no_size = 524289

-- a size, or the one above where it is larger
abbrev pub capped : ℕ → ℕ
capped n = min n no_size

-- the least of some sizes
abbrev pub least_of : List ℕ → ℕ
least_of [] = no_size
least_of (n ∷ ns) = min n (least_of ns)

-- the least number of an interval that has no negative ones; an empty interval has none
abbrev pub least_in : Span → ℕ
least_in s = if int_le s.low s.high then nat_abs s.low else no_size

-- the least number of a domain that has no negative ones, or the size above where it is larger
abbrev pub least_number : List Span → ℕ
least_number [] = no_size
least_number (s ∷ spans) = min (least_in s) (least_number spans)

-- the same where there is a domain
abbrev pub least_number_in : Option (List Span) → ℕ
least_number_in None = 0
least_number_in (Some spans) = least_number spans

-- the least number of items that the entry at this place of a container can tell
abbrev pub least_count : Table → TypeId → ℕ → ℕ
least_count t y i = least_number_in (int_domain_in (row_at t (type_by (part_at t (y, i)))))

-- a size of a list of all types' sizes
abbrev pub size_in : List ℕ → ℕ → ℕ
size_in sizes id = slice_index_or sizes id no_size

-- the size of a kind by those of all types, where that of a container is given
abbrev pub size_by : (ℕ → ℕ) → Kind → ℕ → ℕ
size_by least (kind.Int form spans) container = form.bits
size_by least (kind.Enum form listing) container = form.bits
size_by least (kind.Bool form) container = form.bits
size_by least (kind.Str form) container = if form.fixed then 8 * form.length else 8
size_by least (kind.Bin n free) container = if free then 0 else n
size_by least (kind.Arr item n) container = n * least item.0
size_by least (kind.Con c) container = container

-- where least says the least sizes of the types that are nested in this one
module _ (t : Table) (least : ℕ → ℕ) where
  -- the least size of a part
  abbrev pub least_part : Part → ℕ
  least_part (part.Plain name id) = least id.0
  least_part (part.Fixed name id v) = least id.0
  least_part (part.Pad n) = n
  least_part (part.List name id y i) = least_count t y i * least id.0
  least_part (part.Length name id c0 c1) = least id.0
  least_part (part.Check name id k) = least id.0

  -- the sum over a container's own parts
  abbrev pub least_own : ℕ → ℕ
  least_own y = sum_by least_part (entries_of t y) + sum_by least_part (trailers_of t y)

  -- the sum over all parts of a container
  abbrev pub least_sequence : ℕ → ℕ
  least_sequence k = sum_by (λ (p : Placed). least_part p.part) (sequence t k)

  -- the least of the concrete containers at or under this one
  abbrev pub least_family : ℕ → ℕ
  least_family id = least_of (map least_sequence (filter (is_concrete t) (derived t id)))

  -- the least size of a row's type
  abbrev pub least_row : ℕ → Option TypeRow → ℕ
  least_row id None = no_size
  least_row id (Some row) = capped (size_by least row.kind (least_family id))

-- the least size, where at most n types are nested in each other
unfoldable pub least_within : ℕ → Table → ℕ → ℕ
least_within zero t id = no_size
least_within (suc n) t id = least_row t (least_within n t) id (slice_get t id)

-- the least size of a type, in bits
abbrev pub least_size : Table → ℕ → ℕ
least_size t id = least_within 32 t id

-- ---- how the table computes them: from the sizes of what is nested less deep, for all types at once

-- the size of the parts of a chain, by the sizes of each container's own parts
abbrev pub chain_size : List ℕ → List ℕ → ℕ
chain_size own ids = capped (sum_by (λ y. slice_index own y) ids)

-- the least of the concrete containers at or under this one, of the first n types
abbrev pub family_size : Table → List ℕ → ℕ → ℕ → ℕ
family_size t own n id = least_of (map (λ k. chain_size own (chain t k)) (filter (is_concrete t) (filter (λ k. list_has (chain t k) id) (range_with_len 0 n))))

-- a size, lowered to another one where the type is of the chain
abbrev pub lowered : ℕ → List TypeId → ℕ → ℕ → ℕ
lowered size ids id old = if list_has (map (λ (y : TypeId). y.0) ids) id then min old size else old

-- the least sizes of all types, from those where types are nested less deep
abbrev pub next_sizes : Table → List ℕ → List ℕ
next_sizes t sizes = map (λ id. least_row t (size_in sizes) id (slice_get t id)) (numbers t)
