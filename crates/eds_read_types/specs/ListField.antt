-- The number of a list's items is told by an entry of its container or of a base that stands before it, whose type is an integer
-- type or a sub-range without negative numbers. Nothing is kept.
use Rattle.std.specs.Prelude.{ℕ, pos, int_lt, List, [], ◌∷◌, Bool, false, not, ◌&&◌, ◌==◌, nat_lt, if◌then◌else◌, Option, Some, None, slice_get}
use Rattle.std.specs.List.{list_any}
use Rattle.eds_base.specs.declared.ids.Place.{Place}
use Rattle.eds_base.specs.declared.spans.Span.{Span}
use Rattle.eds_base.specs.declared.refusal.Refusal.{Refusal}
use Rattle.eds_base.specs.declared.rule.Rule.TheVariants.{ListField}
use Rattle.eds_tree.specs.declared.tree.Node.{Node}
use Rattle.eds_names.specs.LookUp.{Names}
use Rattle.eds_types.specs.declared.row.TypeRow.{TypeRow}
use Rattle.eds_types.specs.declared.row.Kind.{Kind}
use Rattle.eds_types.specs.declared.row.Kind.TheVariants as kind
use Rattle.eds_types.specs.declared.row.Part.{Part}
use Rattle.eds_types.specs.declared.row.Part.TheVariants as part
use Rattle.eds_types.specs.Rows.{Table, container_of, entries_in, chain, list_has}
use Rattle.eds_read_types.specs.Breaks.{broken}
use Rattle.eds_read_types.specs.Parts.{PartJudgement, at_parts, parts_in}

-- a number among these is negative
abbrev pub has_negative : List Span → Bool
has_negative spans = list_any (λ s. int_lt s.low (pos 0)) spans

-- a type counts: it is an integer type or a sub-range, and has no negative numbers
abbrev pub counts_by : Kind → Bool
counts_by (kind.Int form spans) = not (has_negative spans)
counts_by (kind.Enum form listing) = false
counts_by (kind.Bool form) = false
counts_by (kind.Str form) = false
counts_by (kind.Bin n free) = false
counts_by (kind.Arr item n) = false
counts_by (kind.Con c) = false

-- the type of a row counts, if there is a row
abbrev pub counts_in : Option TypeRow → Bool
counts_in None = false
counts_in (Some row) = counts_by row.kind

-- a part is an entry of such a type
abbrev pub is_count : Table → Option Part → Bool
is_count t None = false
is_count t (Some (part.Plain name id)) = counts_in (slice_get t id.0)
is_count t (Some (part.Fixed name id v)) = false
is_count t (Some (part.Pad n)) = false
is_count t (Some (part.List name id y i)) = false
is_count t (Some (part.Length name id c0 c1)) = false
is_count t (Some (part.Check name id check)) = false

-- The part of a position in a container y stands before another: that is a later one of y, or one of a container that derives
-- from y.
abbrev pub stands_before : Table → (y i : ℕ) → (container place : ℕ) → Bool
stands_before t y i container place = if y == container then nat_lt i place else list_has (chain t container) y

-- The parts of a container y that may stand before a list of some container: all parts of that container itself, and of a base
-- its entries alone, since the trailers of a base stand behind the parts of what derives from it.
abbrev pub may_tell : Table → (y : ℕ) → (container : ℕ) → List Part
may_tell t y container = if y == container then parts_in (container_of t y) else entries_in (container_of t y)

-- the part of a position in a container is an entry that counts, and stands before a part
abbrev pub is_told : Table → (y i : ℕ) → (container place : ℕ) → Bool
is_told t y i container place = stands_before t y i container place && is_count t (slice_get (may_tell t y container) i)

-- what breaks ListField at one part: a list, unless an entry that counts and stands before it tells its number of items
abbrev pub list_field_by : Table → (container place : ℕ) → Place → Part → List Refusal
list_field_by t container place at (part.Plain name id) = []
list_field_by t container place at (part.Fixed name id v) = []
list_field_by t container place at (part.Pad n) = []
list_field_by t container place at (part.List name id y i) = if is_told t y.0 i container place then [] else broken ListField at ∷ []
list_field_by t container place at (part.Length name id c0 c1) = []
list_field_by t container place at (part.Check name id check) = []

-- at one part
abbrev pub list_field_at : PartJudgement
list_field_at t p at = list_field_by t p.container p.place at p.part

-- at the parts of all containers
abbrev pub breaks_list_field : List (List Node) → Names → List Refusal
breaks_list_field trees names = at_parts list_field_at trees names
