-- The lines of a snapshot.
use Rattle.std.specs.Prelude.{ℕ, ◌+◌, List, [], ◌∷◌, Bool, true, false}
use Rattle.eds_script.specs.Lines.{pieces}

-- a line: its number, its text, and whether a line feed ends it
pub record Line : Type 0 where
  pub number : ℕ
  pub text : List ℕ
  pub ended : Bool

-- behind the last line feed stands nothing, or a line that none ends
abbrev pub last_line : ℕ → List ℕ → List Line
last_line n [] = []
last_line n (c ∷ cs) = record { number = n; text = c ∷ cs; ended = false } ∷ []

-- lines with their numbers, the first of which is n
abbrev pub lines_from : ℕ → List (List ℕ) → List Line
lines_from n [] = []
lines_from n (piece ∷ []) = last_line n piece
lines_from n (piece ∷ other ∷ pieces) = record { number = n; text = piece; ended = true } ∷ lines_from (n + 1) (other ∷ pieces)

-- the lines of a snapshot, with their numbers from 1
unfoldable pub snap_lines : List ℕ → List Line
snap_lines octets = lines_from 1 (pieces octets)
