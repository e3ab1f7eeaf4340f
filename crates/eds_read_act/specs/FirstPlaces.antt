-- The first place at which a part of a name stands.
use Rattle.std.specs.Prelude.{ℕ, List, [], ◌∷◌, map, if◌then◌else◌, Option, Some, None}
use Rattle.eds_base.specs.declared.ids.TypeId.{TypeId}
use Rattle.eds_types.specs.Rows.{Table, sequence, address}
use Rattle.eds_types.specs.Fields.{part_at}
use Rattle.eds_read_act.specs.Naming.{has_name}

-- the first of some places at which a part has the name
abbrev pub first_place : Table → List ℕ → List (TypeId × ℕ) → Option (TypeId × ℕ)
first_place t name [] = None
first_place t name (p ∷ ps) = if has_name name (part_at t p) then Some p else first_place t name ps

-- the place of the first part with the name in the sequence of a type
abbrev pub first_named : Table → TypeId → List ℕ → Option (TypeId × ℕ)
first_named t id name = first_place t name (map address (sequence t id.0))
