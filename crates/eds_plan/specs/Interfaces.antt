-- Whether two instances are one interface under equal maps.
use Rattle.std.specs.Prelude.{ℕ, List, [], ◌∷◌, map, Bool, true, false, ◌&&◌, ◌==◌, if◌then◌else◌, Option, Some, None}
use Rattle.eds_base.specs.Reading.{same}
use Rattle.eds_base.specs.declared.ids.FaceId.{FaceId}
use Rattle.eds_base.specs.declared.ids.TypeId.{TypeId}
use Rattle.eds_plan.specs.declared.instance.Instance.{Instance}

-- the type that a map has for a name, of one name the first
abbrev pub type_named : List (List ℕ × TypeId) → List ℕ → Option ℕ
type_named [] name = None
type_named (p ∷ ps) name = if same p.0 name then Some (p.1).0 else type_named ps name

-- two types that may be there are one, or neither is there
abbrev pub same_type : Option ℕ → Option ℕ → Bool
same_type None None = true
same_type None (Some b) = false
same_type (Some a) None = false
same_type (Some a) (Some b) = a == b

-- the other map has for each name of the first the same type
abbrev pub agrees : List (List ℕ × TypeId) → List (List ℕ × TypeId) → List (List ℕ × TypeId) → Bool
agrees m n [] = true
agrees m n (p ∷ ps) = if same_type (type_named m p.0) (type_named n p.0) then agrees m n ps else false

-- two maps are one as finite maps
abbrev pub same_map : List (List ℕ × TypeId) → List (List ℕ × TypeId) → Bool
same_map m n = agrees m n m && agrees m n n

-- one interface under equal maps
abbrev pub same_interface : Instance → Instance → Bool
same_interface a b = a.face.0 == b.face.0 && same_map a.map b.map

-- the number of an interface, and those of the types that a map has, in its order
abbrev pub numbers_under : FaceId → List (List ℕ × TypeId) → List ℕ
numbers_under face given = face.0 ∷ map (λ (p : List ℕ × TypeId). (p.1).0) given
