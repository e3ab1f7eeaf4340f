-- What is noted of values that are passed over: the numbers on the paths that are asked for, each in its slot.
use Rattle.std.specs.Prelude.{◌≡◌, ℕ, ◌<◌, ℤ, List, ◌∷◌, length, Option, Some, slice_get}
use Rattle.eds_base.specs.declared.ids.TypeId.{TypeId}
use Rattle.eds_types.specs.declared.row.Constraint.{Constraint}
use Rattle.eds_types.specs.Fields.{Field, number_on, value_at}
use Rattle.eds_types.specs.Plain.{Plain}
use Rattle.eds_types.specs.Rows.{Table}
use Rattle.eds_types.specs.Rules.{KeepsRules}
use Rattle.eds_overlap.specs.Pairs.{Steps}
use Rattle.eds_unpack.specs.Index.{Among}

-- wherever the path is asked for, its slot has the number that the fields have on it
abbrev pub IsNoted : Table → List Steps → List (Option ℤ) → List Field → Steps → Type 0
IsNoted t paths ns fs path = (g : ℕ) → slice_get paths g ≡ Some path → slice_get ns g ≡ Some (number_on t fs path)

-- the number of each path that begins in one of the fields is noted
abbrev pub Shows : Table → List Steps → List (Option ℤ) → List Field → Type 0
Shows t paths ns fs = (p : TypeId × ℕ) (path : Steps) (v : Plain) → value_at fs (p.0).0 p.1 ≡ Some v → IsNoted t paths ns fs (p ∷ path)

-- the constraint's path is asked for, and its number is noted
abbrev pub IsNotedFor : Table → List Steps → List (Option ℤ) → List Field → Constraint → Type 0
IsNotedFor t paths ns fs c = Among paths c.path × IsNoted t paths ns fs c.path

-- the slots are as many as before, and those of paths that begin in containers of a higher rank than this type are as before
pub record KeepsOuter (t : Table) (paths : List Steps) (id : ℕ) (old new : List (Option ℤ)) : Type 0 where
  pub long : length new ≡ length old
  pub same : (rules : KeepsRules t) (g : ℕ) (p : TypeId × ℕ) (path : Steps) → slice_get paths g ≡ Some (p ∷ path) → rules.rank id < rules.rank (p.0).0 → slice_get new g ≡ slice_get old g
