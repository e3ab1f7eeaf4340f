-- What a program is made for, and what it holds.
use Rattle.std.specs.Prelude.{◌≡◌, ◌<◌, ℕ, List, length}
use Rattle.eds_types.specs.Rows.{Table}
use Rattle.eds_overlap.specs.Common.{each_once}
use Rattle.eds_overlap.specs.Pairs.{Steps}
use Rattle.eds_unpack.specs.Asked.{asked}

-- a type by its number in a table
pub record TypeIn : Type 0 where
  pub table : Table
  pub id : ℕ

-- the type is there, the notes are what the constraints and lists of the table ask for, each once, and the segments are those
-- of its containers
pub record IsReady (t : Table) (id : ℕ) (notes : List Steps) (segmented : Table) : Type 0 where
  pub there : id < length t
  pub noted : notes ≡ each_once (asked t)
  pub segments : segmented ≡ t
