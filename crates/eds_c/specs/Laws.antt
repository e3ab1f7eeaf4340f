-- What is written as a block is read as what was written.
use Rattle.std.specs.Prelude.{◌≡◌, ℕ, ◌/◌, ◌%◌, List, [], ◌∷◌, ◌++◌, length, All, Some, true}
use Rattle.std.specs.Str.{is_utf8}
use Rattle.eds_io.specs.Files.{Files, HaveOwnNames}
use Rattle.eds_io.specs.declared.files.NamedFile.{NamedFile}
use Rattle.eds_c.specs.Blocks.{IsRequest, files_in, words_in}

-- a field before the rest of a block; the four numbers are octets where the field has fewer than 2 ^ 32 of them
abbrev pub before : (field rest : List ℕ) → List ℕ
before field rest = let n = length field in n % 256 ∷ n / 256 % 256 ∷ n / 256 / 256 % 256 ∷ n / 256 / 256 / 256 ∷ field ++ rest

-- the block of these fields
abbrev pub block_of : List (List ℕ) → List ℕ
block_of [] = []
block_of (field ∷ fields) = before field (block_of fields)

-- the name and the octets of each file
abbrev pub fields_of : Files → List (List ℕ)
fields_of [] = []
fields_of (file ∷ files) = file.name ∷ file.octets ∷ fields_of files

-- they are texts in UTF-8
abbrev pub AreTexts : List (List ℕ) → Type 0
AreTexts ws = All (λ w. is_utf8 w ≡ true) ws

-- their names are
abbrev pub HaveTextNames : Files → Type 0
HaveTextNames fs = All (λ (f : NamedFile). is_utf8 f.name ≡ true) fs

-- texts are read from their block
abbrev pub WordsAreRead : Type 0
WordsAreRead = (ws : List (List ℕ)) → AreTexts ws → words_in (block_of ws) ≡ Some ws

-- and so are files whose names are texts
abbrev pub FilesAreRead : Type 0
FilesAreRead = (fs : Files) → HaveTextNames fs → files_in (block_of (fields_of fs)) ≡ Some fs

-- so the blocks of words and of files, of which no two have one name, spell the request of these
abbrev pub RequestsAreRead : Type 0
RequestsAreRead = (ws : List (List ℕ)) (fs : Files) → AreTexts ws → HaveTextNames fs → HaveOwnNames fs → IsRequest (block_of ws) (block_of (fields_of fs)) ws fs
