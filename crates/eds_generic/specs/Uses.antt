-- Interfaces that are used under maps: by the ends of components.
use Rattle.std.specs.Prelude.{List, ◌++◌, Option}
use Rattle.std.specs.List.{flat_map}
use Rattle.eds_base.specs.declared.ids.TypeId.{TypeId}
use Rattle.eds_base.specs.declared.refusal.Refusal.{Refusal}
use Rattle.eds_plan.specs.declared.instance.Instance.{Instance}
use Rattle.eds_generic.specs.declared.face.Face.{Face}
use Rattle.eds_generic.specs.declared.used.FaceUse.{FaceUse}
use Rattle.eds_generic.specs.Every.{own_cycles, alone_breaks}
use Rattle.eds_generic.specs.Members.{under}
use Rattle.eds_generic.specs.Resolved.{judged_first, pair_breaks, instance_of}

-- what an interface breaks where it is used under a map
abbrev pub use_breaks : List Face → List (Option TypeId) → FaceUse → List Refusal
use_breaks faces types u = pair_breaks faces types u.place (under faces u.face u.map)

-- the instance that it is there
abbrev pub use_instance : List Face → FaceUse → Instance
use_instance faces u = instance_of faces u.face u.map

-- All that the interfaces of a sheet break: one is its own base; or, where none is, one without own generic names breaks
-- a rule under the empty map, or one that is used breaks it under its map.
abbrev pub breaks_with_uses : List Face → List (Option TypeId) → List FaceUse → List Refusal
breaks_with_uses faces types uses = judged_first (own_cycles faces) (alone_breaks faces types ++ flat_map (use_breaks faces types) uses)
