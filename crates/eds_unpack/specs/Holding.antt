-- Octets that are held in a room.
use Rattle.std.specs.Prelude.{ℕ, List, take, drop}

-- how many octets there is room for, and those that are held
pub record Holding : Type 0 where
  pub size : ℕ
  pub octets : List ℕ

-- the octets of a room from one place on, up to another
abbrev pub from_to : ℕ → ℕ → List ℕ → List ℕ
from_to first last room = drop first (take last room)
