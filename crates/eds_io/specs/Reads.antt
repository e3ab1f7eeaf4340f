-- Reads of a file, one after another.
use Rattle.std.specs.Prelude.{◌≡◌, ℕ, ◌+◌, ◌<◌, ◌≤◌, List, [], ◌∷◌, length, take, Result, Ok, Err, ⊤}
use Rattle.std.specs.List.{flat_map}
use Rattle.eds_base.specs.declared.fail.Fail.{Fail}
use Rattle.eds_base.specs.declared.fail.Fail.TheVariants.{Named, Memory}
use Rattle.eds_io.specs.declared.shelf.Got.{Got}
use Rattle.eds_io.specs.declared.shelf.Got.TheVariants as got
use Rattle.eds_io.specs.declared.piece.PieceEnd.{PieceEnd}
use Rattle.eds_io.specs.declared.piece.PieceEnd.TheVariants as piece
use Rattle.eds_io.specs.declared.whole.ReadEnd.{ReadEnd}
use Rattle.eds_io.specs.declared.whole.ReadEnd.TheVariants.{NoFile, ReadFault, TooBig}

-- what a read gave, and the room after it
pub record Given : Type 0 where
  pub got : Got
  pub room : List ℕ

-- the octets that came by it
abbrev pub octets_by : Got → List ℕ → List ℕ
octets_by (got.Bytes n) room = take n room
octets_by got.NoFile room = []
octets_by got.Failed room = []

-- the octets that a read gave
abbrev pub octets_of : Given → List ℕ
octets_of g = octets_by g.got g.room

-- Reads of a name that may be made one after another, the first from this octet, and each further one from where the
-- octets of the one before it end.
abbrev pub AreMade : {S : Type 0} → (S → List ℕ → ℕ → Given → S → Type 0) → List ℕ → ℕ → S → List Given → S → Type 0
AreMade gives name from before [] after = before ≡ after
AreMade {S} gives name from before (g ∷ gs) after = (between : S) × gives before name from g between × AreMade gives name (from + length (octets_of g)) between gs after

-- by reads from the beginning of a file on these octets came
abbrev pub Come : {S : Type 0} → (S → List ℕ → ℕ → Given → S → Type 0) → List ℕ → S → List ℕ → S → Type 0
Come gives name before octets after = (reads : List Given) × AreMade gives name 0 before reads after × (flat_map octets_of reads ≡ octets)

-- how the reading of a file ends where these octets came: TooBig where they are more than so many, and nothing else then
abbrev pub EndsBy : ℕ → List ℕ → Result (List ℕ) (Fail ReadEnd) → Type 0
EndsBy most came (Ok octets) = (came ≡ octets) × (length came ≤ most)
EndsBy most came (Err (Named TooBig)) = most < length came
EndsBy most came (Err (Named NoFile)) = length came ≤ most
EndsBy most came (Err (Named ReadFault)) = length came ≤ most
EndsBy most came (Err Memory) = ⊤

-- what the read gave by which a piece was read, or was not
abbrev pub got_of_piece : Result ℕ PieceEnd → Got
got_of_piece (Ok n) = got.Bytes n
got_of_piece (Err piece.NoFile) = got.NoFile
got_of_piece (Err piece.ReadFault) = got.Failed
