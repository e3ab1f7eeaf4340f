-- The interfaces of a sheet, of which the trees, the names and the table of types are given.
use Rattle.std.specs.Prelude.{ℕ, List, map, Option, Result}
use Rattle.eds_base.specs.declared.ids.FaceId.{FaceId}
use Rattle.eds_base.specs.declared.ids.Place.{Place}
use Rattle.eds_base.specs.declared.ids.TypeId.{TypeId}
use Rattle.eds_base.specs.declared.refusal.Refusal.{Refusal}
use Rattle.eds_tree.specs.declared.tree.Node.{Node}
use Rattle.eds_names.specs.LookUp.{Names}
use Rattle.eds_types.specs.Rows.{Table}
use Rattle.eds_plan.specs.declared.instance.Instance.{Instance}
use Rattle.eds_generic.specs.Reading.{faces_of}
use Rattle.eds_generic.specs.Resolved.{resolved}

-- for each type the one that it derives from
abbrev pub bases_of : Table → List (Option TypeId)
bases_of table = map (λ row. row.base) table

-- An interface of a sheet under a map of its generic names: the instance with its members, or the first rule that is
-- broken there. The refusal stands at the place of the end or interface that is resolved.
abbrev pub instance_in : List (List Node) → Names → Table → Place → FaceId → List (List ℕ × TypeId) → Result Instance Refusal
instance_in trees names table at face map = resolved (faces_of trees names) (bases_of table) at face map
