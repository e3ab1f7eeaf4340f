-- Named files, and what a read of one of them gives.
use Rattle.std.specs.Prelude.{◌≡◌, ℕ, ◌≤◌, List, [], ◌∷◌, length, take, drop, Bool, Option, None, ⊤}
use Rattle.std.specs.List.{find}
use Rattle.std.specs.Option.{option_map}
use Rattle.eds_base.specs.Reading.{same}
use Rattle.eds_io.specs.declared.files.NamedFile.{NamedFile}

-- files by name
abbrev pub Files : Type 0
Files = List NamedFile

-- whether a file has that name
abbrev pub is_named : List ℕ → NamedFile → Bool
is_named name file = same file.name name

-- the octets of the file of that name: of two files of one name those of the first
abbrev pub file_named : List ℕ → Files → Option (List ℕ)
file_named name files = option_map (λ file. file.octets) (find (is_named name) files)

-- no two files have one name
abbrev pub HaveOwnNames : Files → Type 0
HaveOwnNames [] = ⊤
HaveOwnNames (file ∷ files) = (file_named file.name files ≡ None) × HaveOwnNames files

-- the room begins with the n octets of the file that stand from a place on
pub record IsPiece (file : List ℕ) (from n : ℕ) (room : List ℕ) : Type 0 where
  pub same : take n room ≡ take n (drop from file)
  pub within : n ≤ length (drop from file)
