-- The rows of types with the constraints of their containers.
use Rattle.std.specs.Prelude.{ℕ, ◌+◌, ◌≡◌, ◌≤◌, ℤ, ◌≤ℤ◌, List, [], ◌∷◌, length, Bool, true, false, Option, Some, None, slice_get}
use Rattle.std.specs.List.{AllByRecursion, filter_map}
use Rattle.eds_base.specs.Reading.{◌>>=◌}
use Rattle.eds_base.specs.declared.spans.Span.{Span}
use Rattle.eds_base.specs.Spans.{bottom, top}
use Rattle.eds_types.specs.declared.row.Constraint.{Constraint}
use Rattle.eds_types.specs.declared.row.Kind.{Kind}
use Rattle.eds_types.specs.declared.row.Kind.TheVariants as kind
use Rattle.eds_types.specs.declared.row.TypeRow.{TypeRow}
use Rattle.eds_types.specs.Rows.{Table}
use Rattle.eds_constraints.specs.declared.asked.Aim.{Aim}
use Rattle.eds_constraints.specs.declared.asked.Test.{Test}
use Rattle.eds_constraints.specs.declared.asked.Test.TheVariants.{Value, Within, Under}
use Rattle.eds_constraints.specs.Breaks.{Lists, Posed, aim_at, posed_of}
use Rattle.eds_constraints.specs.Sets.{set_of}

-- the value of a label is one that a set may hold
abbrev pub IsSmallLabel : List ℕ × ℤ → Type 0
IsSmallLabel entry = (bottom ≤ℤ entry.1) × (entry.1 ≤ℤ top)

-- what every kind has as elements give it, whether it breaks a rule or not: small values of labels, and few parts
abbrev pub IsReadKind : Kind → Type 0
IsReadKind (kind.Int form spans) = Unit {0}
IsReadKind (kind.Enum form listing) = AllByRecursion IsSmallLabel listing
IsReadKind (kind.Bool form) = Unit {0}
IsReadKind (kind.Str form) = Unit {0}
IsReadKind (kind.Bin n free) = Unit {0}
IsReadKind (kind.Arr item n) = Unit {0}
IsReadKind (kind.Con c) = (length c.entries ≤ 32767) × (length c.trailers ≤ 32767)

-- What all rows of a sheet have by the shape of its elements: there are at most 4,096 types, each of a kind as elements give it.
pub record AreRead (t : Table) : Type 0 where
  pub few : length t ≤ 4096
  pub kinds : (id : ℕ) (row : TypeRow) → slice_get t id ≡ Some row → IsReadKind row.kind

-- a constraint on a type admits numbers of types
abbrev pub is_on_kind : Test → Bool
is_on_kind (Value text) = false
is_on_kind (Within range) = false
is_on_kind (Under id) = true

-- a constraint as a row holds it, by where it leads and what it admits
abbrev pub constraint_by : Test → Aim → Option (List Span) → Option Constraint
constraint_by test aim None = None
constraint_by test aim (Some set) = Some (record { path = aim.path; set = set; on_kind = is_on_kind test })

-- a constraint as a row holds it; none where it breaks a rule by itself
abbrev pub constraint_of : Table → Posed → Option Constraint
constraint_of t c = aim_at t c >>= λ aim. constraint_by c.asked.test aim (set_of t aim.target.0 c.asked.test)

-- those of a container
abbrev pub constraints_for : Table → Lists → ℕ → List Constraint
constraints_for t lists id = filter_map (constraint_of t) (posed_of t lists id)

-- a kind, whose container gets constraints
abbrev pub kind_with : List Constraint → Kind → Kind
kind_with cs (kind.Int form spans) = kind.Int form spans
kind_with cs (kind.Enum form listing) = kind.Enum form listing
kind_with cs (kind.Bool form) = kind.Bool form
kind_with cs (kind.Str form) = kind.Str form
kind_with cs (kind.Bin n free) = kind.Bin n free
kind_with cs (kind.Arr item n) = kind.Arr item n
kind_with cs (kind.Con c) = kind.Con (record { hidden = c.hidden; constraints = cs; entries = c.entries; trailers = c.trailers })

-- a row, whose container gets constraints
abbrev pub row_with : List Constraint → TypeRow → TypeRow
row_with cs row = record { name = row.name; base = row.base; kind = kind_with cs row.kind }

-- rows, each with the constraints that are given for it, as far as there are some
abbrev pub rows_each : List (List Constraint) → List TypeRow → List TypeRow
rows_each each [] = []
rows_each [] (row ∷ rows) = []
rows_each (own ∷ each) (row ∷ rows) = row_with own row ∷ rows_each each rows

-- some rows with their constraints, of which the first has the number n
abbrev pub rows_with : Table → Lists → ℕ → List TypeRow → List TypeRow
rows_with t lists n [] = []
rows_with t lists n (row ∷ rows) = row_with (constraints_for t lists n) row ∷ rows_with t lists (n + 1) rows

-- all rows with their constraints
abbrev pub constrained : Table → Lists → Table
constrained t lists = rows_with t lists 0 t
