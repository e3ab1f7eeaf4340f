-- The members of an interface under a map of its generic names.
use Rattle.std.specs.Prelude.{ℕ, Bool, List, [], ◌∷◌, ◌++◌, length, map, Option, Some, None, slice_get, if◌then◌else◌}
use Rattle.std.specs.List.{flat_map, list_any}
use Rattle.eds_base.specs.Reading.{same}
use Rattle.eds_base.specs.declared.ids.TypeId.{TypeId}
use Rattle.eds_base.specs.declared.ids.FaceId.{FaceId}
use Rattle.eds_plan.specs.declared.instance.Argument.{Argument}
use Rattle.eds_plan.specs.declared.instance.Member.{Member}
use Rattle.eds_plan.specs.declared.instance.Member.TheVariants as member
use Rattle.eds_generic.specs.declared.face.Face.{Face}
use Rattle.eds_generic.specs.declared.face.Base.{Base}
use Rattle.eds_generic.specs.declared.face.Mapped.{Mapped}
use Rattle.eds_generic.specs.declared.face.Source.{Source}
use Rattle.eds_generic.specs.declared.face.Source.TheVariants as source
use Rattle.eds_generic.specs.declared.face.OwnArgument.{OwnArgument}
use Rattle.eds_generic.specs.declared.face.OwnMember.{OwnMember}
use Rattle.eds_generic.specs.declared.face.OwnMember.TheVariants as own_member
use Rattle.eds_generic.specs.declared.pair.Bound.{Bound}
use Rattle.eds_generic.specs.declared.pair.Bound.TheVariants as bound
use Rattle.eds_generic.specs.declared.pair.Pair.{Pair}
use Rattle.eds_names.specs.Positions.{place_among}
use Rattle.eds_generic.specs.Faces.{generics, names_of, own}
use Rattle.eds_generic.specs.Pairs.{below_by, gathered, most, put_all}

-- ---- own members, each generic name replaced

-- the first type where there is none; in an interface that is not refused each generic name stands for a type
abbrev pub id_or_first : Option Bound → TypeId
id_or_first None = record { 0 = 0 }
id_or_first (Some bound.Unmapped) = record { 0 = 0 }
id_or_first (Some (bound.Unknown face k)) = record { 0 = 0 }
id_or_first (Some (bound.Sort id)) = id

-- the type of a source under a map
abbrev pub type_in : List Bound → Source → TypeId
type_in types (source.Generic k) = id_or_first (slice_get types k)
type_in types (source.Sort id) = id

-- an argument, its type being that under a map
abbrev pub argument_of : List Bound → OwnArgument → Argument
argument_of types a = record { name = a.name; id = type_in types a.source; mode = a.mode }

-- a member, each of its types being that under a map
abbrev pub member_of : List Bound → OwnMember → Member
member_of types (own_member.Parameter name s read_only) = member.Parameter name (type_in types s) read_only
member_of types (own_member.Command name arguments) = member.Command name (map (argument_of types) arguments)

-- the own members of an interface under a map
abbrev pub members_of : List Face → Pair → List Member
members_of faces p = map (member_of p.types) (own faces p.face.0)

-- ---- all members

-- an interface with all its bases, each under its map, behind its own bases, and each once at its first place
abbrev pub each_once : List Face → Pair → List Pair
each_once faces p = put_all [] (gathered (most faces) faces p)

-- the members of an interface under a map: those of its bases in order, and then its own; what comes again from one
-- declaration under one map counts once, at its first place
unfoldable pub members : List Face → Pair → List Member
members faces p = flat_map (members_of faces) (each_once faces p)

-- how many members some interfaces under maps declare
abbrev pub declared_count : List Face → List Pair → ℕ
declared_count faces ps = length (flat_map (members_of faces) ps)

-- ---- an interface under a given map

-- one name of a given map: its position among the own generic names, where it is one, and its type
abbrev pub mapped_given : List (List ℕ) → (List ℕ × TypeId) → Mapped
mapped_given own m = record { name = m.0; generic = place_among own m.0; source = source.Sort m.1 }

-- a given map as that of a base
abbrev pub base_given : List Face → FaceId → List (List ℕ × TypeId) → Base
base_given faces face ms = record { face = face; maps = map (mapped_given (names_of (generics faces face.0))) ms }

-- an interface under a given map
abbrev pub under : List Face → FaceId → List (List ℕ × TypeId) → Pair
under faces face ms = below_by faces face [] (base_given faces face ms)

-- ---- names of members

-- the name of a member
abbrev pub name_of : Member → List ℕ
name_of (member.Parameter name id read_only) = name
name_of (member.Command name arguments) = name

-- a member has the name
abbrev pub is_name_of : List ℕ → Member → Bool
is_name_of name m = same (name_of m) name

-- the names that a later member has too, each at its earlier member
abbrev pub repeated : List Member → List (List ℕ)
repeated [] = []
repeated (m ∷ ms) = (if list_any (is_name_of (name_of m)) ms then name_of m ∷ [] else []) ++ repeated ms
