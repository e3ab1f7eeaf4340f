-- The least number that constraints and the domain leave on a path, worked out.
use Rattle.std.specs.Prelude.{ℕ, ℤ, pos, int_le, List, [], ◌∷◌, map, filter, Bool, if◌then◌else◌, Option, Some, None, slice_get}
use Rattle.std.specs.List.{flat_map, list_all}
use Rattle.eds_base.specs.declared.spans.Span.{Span}
use Rattle.eds_types.specs.declared.row.Constraint.{Constraint}
use Rattle.eds_types.specs.declared.row.Kind.{Kind}
use Rattle.eds_types.specs.declared.row.Kind.TheVariants as kind
use Rattle.eds_types.specs.declared.row.TypeRow.{TypeRow}
use Rattle.eds_types.specs.Fields.{type_on}
use Rattle.eds_types.specs.Reading.{is_within}
use Rattle.eds_types.specs.Rows.{Table, derived, is_concrete}
use Rattle.eds_overlap.specs.Pairs.{Steps, same_path}

-- ---- the numbers that some sets have in common

-- a number is in all of the sets
abbrev pub is_in_all : List (List Span) → ℤ → Bool
is_in_all sets n = list_all (λ set. is_within set n) sets

-- the numbers at which intervals of some set begin
abbrev pub beginnings : List (List Span) → List ℤ
beginnings sets = flat_map (λ set. map (λ (s : Span). s.low) set) sets

-- the lesser of a number and one that may be there
abbrev pub lesser : ℤ → Option ℤ → ℤ
lesser n None = n
lesser n (Some m) = if int_le n m then n else m

-- the least of some numbers
abbrev pub least_of : List ℤ → Option ℤ
least_of [] = None
least_of (n ∷ ns) = Some (lesser n (least_of ns))

-- the least number that is in all of the sets: some interval begins there
abbrev pub least_in_all : List (List Span) → Option ℤ
least_in_all sets = least_of (filter (is_in_all sets) (beginnings sets))

-- ---- domains

-- one number alone
abbrev pub single : ℤ → Span
single n = record { low = n; high = n }

-- the domain of a type of this kind, as intervals: that of a container are the concrete containers at or under it
abbrev pub domain_by : Table → ℕ → Kind → List Span
domain_by t id (kind.Int form spans) = spans
domain_by t id (kind.Enum form listing) = map (λ (e : List ℕ × ℤ). single e.1) listing
domain_by t id (kind.Bool form) = single (pos 0) ∷ single (pos 1) ∷ []
domain_by t id (kind.Str form) = []
domain_by t id (kind.Bin size free) = []
domain_by t id (kind.Arr item size) = []
domain_by t id (kind.Con c) = map (λ k. single (pos k)) (filter (is_concrete t) (derived t id))

-- the same of a row, if there is one
abbrev pub domain_in : Table → ℕ → Option TypeRow → List Span
domain_in t id None = []
domain_in t id (Some row) = domain_by t id row.kind

-- the same of a type, if there is one
abbrev pub domain_of_type : Table → Option ℕ → List Span
domain_of_type t None = []
domain_of_type t (Some id) = domain_in t id (slice_get t id)

-- the domain of a path
abbrev pub domain_on : Table → Steps → List Span
domain_on t path = domain_of_type t (type_on t path)

-- the domain of a path, and the sets of the constraints on it
abbrev pub sets_on_path : Table → List Constraint → Steps → List (List Span)
sets_on_path t cs path = domain_on t path ∷ map (λ (c : Constraint). c.set) (filter (λ (c : Constraint). same_path c.path path) cs)

-- the least number that the constraints and the domain leave on a path
abbrev pub least_on : Table → List Constraint → Steps → Option ℤ
least_on t cs path = least_in_all (sets_on_path t cs path)
