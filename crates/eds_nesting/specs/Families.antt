-- Families of types, and how they hold one another by the types of parts and items.
use Rattle.std.specs.Prelude.{ℕ, zero, suc, ◌+◌, List, [], ◌∷◌, ◌++◌, map, filter, length, Bool, ◌&&◌, ◌==◌, if◌then◌else◌, Option, Some, None, is_some, option_to_list, slice_get, unwrap_or}
use Rattle.std.specs.List.{flat_map, list_any, range_with_len}
use Rattle.eds_types.specs.declared.row.TypeRow.{TypeRow}
use Rattle.eds_types.specs.declared.row.Kind.{Kind}
use Rattle.eds_types.specs.declared.row.Kind.TheVariants as kind
use Rattle.eds_types.specs.declared.row.Part.{Part}
use Rattle.eds_types.specs.Fields.{type_by}
use Rattle.eds_types.specs.Rows.{Table, base_of, container_by}
use Rattle.eds_graph.specs.declared.course.Course.{Course}
use Rattle.eds_graph.specs.declared.course.Course.TheVariants.{Ends}
use Rattle.eds_graph.specs.Ways.{is_met, all_courses}

-- ---- families

-- what stands for a type behind its base
abbrev pub after_base : (ℕ → ℕ) → ℕ → Option ℕ → ℕ
after_base up id None = id
after_base up id (Some base) = up base

-- where a type's bases end, or where they are after n of them
unfoldable pub base_after : ℕ → Table → ℕ → ℕ
base_after zero t id = id
base_after (suc n) t id = after_base (base_after n t) id (base_of t id)

-- the last of a type's bases, or the type itself where it has none
abbrev pub topmost : Table → ℕ → ℕ
topmost t id = base_after (length t) t id

-- for each type its family: that of all types with the same last base, by which it is named
abbrev pub families : Table → List ℕ
families t = map (topmost t) (range_with_len 0 (length t))

-- the family of a type; what is no type is alone
abbrev pub family : List ℕ → ℕ → ℕ
family names id = unwrap_or (slice_get names id) id

-- ---- what types hold

-- the types that some parts have
abbrev pub types_of : List Part → List ℕ
types_of parts = flat_map (λ p. option_to_list (type_by (Some p))) parts

-- the types of a container's parts, in both its lists, and that of an array's items
abbrev pub types_in : Kind → List ℕ
types_in (kind.Int form spans) = []
types_in (kind.Enum form listing) = []
types_in (kind.Bool form) = []
types_in (kind.Str form) = []
types_in (kind.Bin n free) = []
types_in (kind.Arr item n) = item.0 ∷ []
types_in (kind.Con c) = types_of c.entries ++ types_of c.trailers

-- the families that a type holds, if it belongs to the family of a name
abbrev pub held_from : List ℕ → ℕ → ℕ → TypeRow → List ℕ
held_from names name id row = if family names id == name then map (family names) (types_in row.kind) else []

-- the same of some types, of which the first has the number id
abbrev pub held_over : List ℕ → ℕ → ℕ → List TypeRow → List ℕ
held_over names name id [] = []
held_over names name id (row ∷ rows) = held_from names name id row ++ held_over names name (id + 1) rows

-- a family whose last base has a base has bases that go in a circle; it counts as one that holds itself
abbrev pub itself : Table → ℕ → List ℕ
itself t name = if is_some (base_of t name) then name ∷ [] else []

-- all families that the types of a family hold
abbrev pub held_in : Table → List ℕ → ℕ → List ℕ
held_in t names name = itself t name ++ held_over names name 0 t

-- what each family holds, at its name
abbrev pub holding : Table → List ℕ → List (List ℕ)
holding t names = map (held_in t names) (range_with_len 0 (length t))

-- ---- nesting

-- the course of a family
abbrev pub course_at : List Course → ℕ → Course
course_at courses name = unwrap_or (slice_get courses name) (Ends 1)

-- for each type where the ways go on which its family holds others
abbrev pub nesting : Table → List ℕ → List Course
nesting t names = map (course_at (all_courses (holding t names))) names

-- ---- families whose bases have no end

-- those of the types' families whose last base has a base, so that their bases go in a circle
abbrev pub endless : Table → List ℕ → List ℕ
endless t names = filter (λ name. is_some (base_of t name)) names

-- a family is one of these, or holds one over any number of steps
abbrev pub meets_endless : Table → List ℕ → ℕ → Bool
meets_endless t names name = list_any (is_met (holding t names) name) (endless t names)

-- for each type whether its family does
abbrev pub endless_met : Table → List ℕ → List Bool
endless_met t names = map (meets_endless t names) names

-- ---- the containers of a family

-- the kind is a container
abbrev pub is_container : Kind → Bool
is_container k = is_some (container_by k)

-- the types of some that are containers and belong to the family of a name, counted; the first of them has the number id
abbrev pub containers_over : List ℕ → ℕ → ℕ → List TypeRow → ℕ
containers_over names name id [] = 0
containers_over names name id (row ∷ rows) = if is_container row.kind && (family names id == name) then suc (containers_over names name (id + 1) rows) else containers_over names name (id + 1) rows

-- how many containers the family of a name has
abbrev pub containers : Table → List ℕ → ℕ → ℕ
containers t names name = containers_over names name 0 t

-- for each type how many containers its family has
abbrev pub family_sizes : Table → List ℕ → List ℕ
family_sizes t names = map (containers t names) names
