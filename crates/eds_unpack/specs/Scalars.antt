-- The values of scalars.
use Rattle.std.specs.Prelude.{◌≡◌, pos, List, [], ◌∷◌, ◌++◌, map, Result, Ok}
use Rattle.eds_base.specs.declared.fault.Fault.{Fault}
use Rattle.eds_types.specs.Plain.{Plain, num, label, truth, text}
use Rattle.eds_unpack.specs.declared.scalar.Scalar.{Scalar}
use Rattle.eds_unpack.specs.declared.scalar.Scalar.TheVariants as scalar

-- the value that a scalar is
abbrev pub plain_of : Scalar → Plain
plain_of (scalar.Num n) = num n
plain_of (scalar.Large n) = num (pos n)
plain_of (scalar.Label l) = label l.now
plain_of (scalar.Bool b) = truth b
plain_of (scalar.Text s) = text s.now

-- the value that was found was put last in a room
pub record IsPutLast (found : Result Plain Fault) (old new : List Scalar) : Type 0 where
  pub value : Plain
  pub is : found ≡ Ok value
  pub last : map plain_of new ≡ map plain_of old ++ value ∷ []
