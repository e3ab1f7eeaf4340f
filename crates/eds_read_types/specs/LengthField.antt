-- A length entry has an integer type or a sub-range, and a scale: no exponent stands twice, c1 is at least 1, and neither
-- coefficient is past 2^32 in size. It is the only one of its container's chain. An open binary takes its size from a length
-- entry. Nothing is kept.
use Rattle.std.specs.Prelude.{ℕ, ◌+◌, ◌==◌, List, ◌++◌, length, nat_lt, drop, map, filter, codes, Bool, true, false, not, ◌&&◌, is_some, if◌then◌else◌, Option, Some, None, slice_get}
use Rattle.std.specs.List.{list_any}
use Rattle.eds_base.specs.declared.ids.Place.{Place}
use Rattle.eds_base.specs.declared.refusal.Refusal.{Refusal}
use Rattle.eds_base.specs.declared.rule.Rule.TheVariants.{LengthField}
use Rattle.eds_tree.specs.declared.tree.Node.{Node}
use Rattle.eds_names.specs.LookUp.{Names}
use Rattle.eds_types.specs.declared.row.TypeRow.{TypeRow}
use Rattle.eds_types.specs.declared.row.Kind.{Kind}
use Rattle.eds_types.specs.declared.row.Kind.TheVariants as kind
use Rattle.eds_types.specs.declared.row.Part.{Part}
use Rattle.eds_types.specs.declared.row.Part.TheVariants as part
use Rattle.eds_types.specs.Rows.{Table, number_of_id, base_of, entries_of, trailers_of, chain, Placed}
use Rattle.eds_types.specs.Sizes.{open_of, part_size}
use Rattle.eds_types.specs.Rules.{is_length}
use Rattle.eds_type_rows.specs.Places.{is_element}
use Rattle.eds_read_types.specs.Breaks.{broken, broken_where}
use Rattle.eds_type_rows.specs.Entries.{parts_at}
use Rattle.eds_type_rows.specs.Calibrators.{has_scale}
use Rattle.eds_read_types.specs.Parts.{PartJudgement, RowJudgement, at_rows, at_parts}
use Rattle.eds_read_types.specs.PartElements.{ElementJudgement, at_part_elements}

-- ---- the type of a length entry

-- the kind is that of integer types and sub-ranges
abbrev pub is_int_by : Kind → Bool
is_int_by (kind.Int form spans) = true
is_int_by (kind.Enum form listing) = false
is_int_by (kind.Bool form) = false
is_int_by (kind.Str form) = false
is_int_by (kind.Bin n free) = false
is_int_by (kind.Arr item n) = false
is_int_by (kind.Con c) = false

-- a row, if there is one, is that of an integer type or a sub-range
abbrev pub is_int_in : Option TypeRow → Bool
is_int_in None = false
is_int_in (Some row) = is_int_by row.kind

-- the type is an integer type or a sub-range
abbrev pub is_int : Table → ℕ → Bool
is_int t id = is_int_in (slice_get t id)

-- ---- open binaries

-- a type has a base, and it is this one
abbrev pub is_base : ℕ → Option ℕ → Bool
is_base id None = false
is_base id (Some other) = other == id

-- some type derives from this one
abbrev pub has_derived : Table → ℕ → Bool
has_derived t id = list_any (λ (row : TypeRow). is_base id (number_of_id row.base)) t

-- nothing follows the part among the entries of its container
abbrev pub is_last : Table → Placed → Bool
is_last t p = nat_lt p.place (length (entries_of t p.container)) && (p.place + 1 == length (entries_of t p.container))

-- a length entry stands among the entries of a container
abbrev pub tells_length : Table → ℕ → Bool
tells_length t k = list_any is_length (entries_of t k)

-- a trailer of a container has no size
abbrev pub lacks_size : Table → ℕ → Bool
lacks_size t k = list_any (λ p. not (is_some (part_size t p))) (trailers_of t k)

-- the part may be an open binary: it ends the entries of a container from which none derives, a length entry stands before it
-- among the entries of the chain, and no trailer of the chain lacks a size
abbrev pub is_tail : Table → Placed → Bool
is_tail t p = is_last t p && (not (has_derived t p.container) && (list_any (tells_length t) (chain t p.container) && not (list_any (lacks_size t) (chain t p.container))))

-- an open binary is the type of nothing but such an entry
abbrev pub is_astray : Table → Placed → Part → Bool
is_astray t p (part.Plain name id) = is_some (open_of t id.0) && not (is_tail t p)
is_astray t p (part.Fixed name id v) = is_some (open_of t id.0)
is_astray t p (part.Pad n) = false
is_astray t p (part.List name id y i) = is_some (open_of t id.0)
is_astray t p (part.Length name id c0 c1) = not (is_int t id.0)
is_astray t p (part.Check name id check) = is_some (open_of t id.0)

-- at one part, by its type
abbrev pub length_field_at : PartJudgement
length_field_at t p at = broken_where (is_astray t p p.part) LengthField at

-- ---- scales

-- at the element of one part
abbrev pub scale_at : ElementJudgement
scale_at trees names at = broken_where (is_element trees (codes "LengthEntry") at && not (has_scale trees at)) LengthField at

-- ---- one length entry in a chain

-- the length entries of a container in document order
abbrev pub lengths_at : List (List Node) → Place → List Place
lengths_at trees at = filter (is_element trees (codes "LengthEntry")) (parts_at trees at)

-- a part of a container is one
abbrev pub has_length : Table → ℕ → Bool
has_length t k = list_any is_length (entries_of t k ++ trailers_of t k)

-- one stands in the chain of a base
abbrev pub has_length_above : Table → Option ℕ → Bool
has_length_above t None = false
has_length_above t (Some base) = list_any (has_length t) (chain t base)

-- all of a container but the first, and that too where one stands above
abbrev pub further : (above : Bool) → List Place → List Place
further above ats = if above then ats else drop 1 ats

-- at the length entries of one container
abbrev pub second_length_at : RowJudgement
second_length_at trees t id at = map (broken LengthField) (further (has_length_above t (base_of t id)) (lengths_at trees at))

-- ---- all containers

-- what breaks LengthField at all parts by their types, at length entries by their scales, and at each but the first of a chain
abbrev pub breaks_length : List (List Node) → Names → List Refusal
breaks_length trees names = at_parts length_field_at trees names ++ (at_part_elements scale_at trees names ++ at_rows second_length_at trees names)
