-- The types that interfaces name: in the maps of their bases, and as arguments of their commands.
use Rattle.std.specs.Prelude.{◌≡◌, ◌==◌, ◌++◌, ℕ, Bool, true, List, [], ◌∷◌, Option, map}
use Rattle.std.specs.List.{AllByRecursion, flat_map, list_any}
use Rattle.eds_base.specs.declared.ids.TypeId.{TypeId}
use Rattle.eds_tree.specs.declared.tree.Node.{Node}
use Rattle.eds_names.specs.LookUp.{Names}
use Rattle.eds_plan.specs.Arguments.{OnArguments}
use Rattle.eds_generic.specs.declared.face.Base.{Base}
use Rattle.eds_generic.specs.declared.face.Face.{Face}
use Rattle.eds_generic.specs.declared.face.Mapped.{Mapped}
use Rattle.eds_generic.specs.declared.face.OwnArgument.{OwnArgument}
use Rattle.eds_generic.specs.declared.face.OwnMember.{OwnMember}
use Rattle.eds_generic.specs.declared.face.OwnMember.TheVariants as own_member
use Rattle.eds_generic.specs.declared.face.Source.{Source}
use Rattle.eds_generic.specs.declared.face.Source.TheVariants as source
use Rattle.eds_generic.specs.declared.used.FaceUse.{FaceUse}
use Rattle.eds_generic.specs.Reading.{faces_of}
use Rattle.eds_generic.specs.Uses.{use_breaks, use_instance}

-- the type that is named, where it is no own generic name
abbrev pub source_types : Source → List TypeId
source_types (source.Generic k) = []
source_types (source.Sort id) = id ∷ []

-- those that the map of a base names
abbrev pub base_types : Base → List TypeId
base_types b = flat_map (λ (m : Mapped). source_types m.source) b.maps

-- those that the arguments of a member name, if it is a command
abbrev pub member_types : OwnMember → List TypeId
member_types (own_member.Parameter name s read_only) = []
member_types (own_member.Command name arguments) = flat_map (λ (a : OwnArgument). source_types a.source) arguments

-- those that an interface names so
abbrev pub face_types : Face → List TypeId
face_types f = flat_map base_types f.bases ++ flat_map member_types f.members

-- those that some interfaces name so
abbrev pub named_types : List Face → List TypeId
named_types faces = flat_map face_types faces

-- those of a map that is given to an interface that is used
abbrev pub used_types : FaceUse → List TypeId
used_types u = map (λ (m : List ℕ × TypeId). m.1) u.map

-- the type of a number is one of these
abbrev pub is_named : List TypeId → (id : ℕ) → Bool
is_named types id = list_any (λ (y : TypeId). y.0 == id) types

-- Where an interface of a sheet is used and breaks no rule under the map that is given, each argument of its commands has a type
-- that an interface or the map names.
abbrev pub UsesCarryNamedTypes : Type 0
UsesCarryNamedTypes = (trees : List (List Node)) (names : Names) (bases : List (Option TypeId)) (u : FaceUse) → use_breaks (faces_of trees names) bases u ≡ []
    → AllByRecursion (OnArguments (λ id. is_named (named_types (faces_of trees names) ++ used_types u) id ≡ true)) (use_instance (faces_of trees names) u).members
