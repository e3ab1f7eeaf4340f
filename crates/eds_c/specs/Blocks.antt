-- Blocks of fields: a field is its length in four octets, the least first, and then so many octets.
use Rattle.std.specs.Prelude.{◌≡◌, ℕ, ◌+◌, ◌*◌, nat_le, zero, suc, List, [], ◌∷◌, length, take, drop, Option, Some, None}
use Rattle.std.specs.Option.{option_map}
use Rattle.std.specs.Str.{is_utf8}
use Rattle.eds_base.specs.Reading.{◌>>=◌, only}
use Rattle.eds_io.specs.Files.{Files, HaveOwnNames}
use Rattle.eds_io.specs.declared.files.NamedFile.{NamedFile}

-- what stands at the front of a block, and what is behind it
pub record Got (A : Type 0) : Type 0 where
  pub item : A
  pub rest : List ℕ

-- the number that four octets spell, the least first
abbrev pub size_of : ℕ → ℕ → ℕ → ℕ → ℕ
size_of a b c d = a + 256 * b + 65536 * c + 16777216 * d

-- the first so many octets, where there are so many
abbrev pub cut_at : ℕ → List ℕ → Option (Got (List ℕ))
cut_at n octets = only (nat_le n (length octets)) (record { item = take n octets; rest = drop n octets })

-- the first field
abbrev pub field_at : List ℕ → Option (Got (List ℕ))
field_at [] = None
field_at (a ∷ []) = None
field_at (a ∷ b ∷ []) = None
field_at (a ∷ b ∷ c ∷ []) = None
field_at (a ∷ b ∷ c ∷ d ∷ octets) = cut_at (size_of a b c d) octets

-- the first field, which is a text in UTF-8
abbrev pub text_at : List ℕ → Option (Got (List ℕ))
text_at block = field_at block >>= λ got. only (is_utf8 got.item) got

-- the file whose name and octets are the first two fields
abbrev pub file_at : List ℕ → Option (Got NamedFile)
file_at block = do
  name ← text_at block
  octets ← field_at name.rest
  Some (record { item = record { name = name.item; octets = octets.item }; rest = octets.rest })

-- things one after another, at most so many, until the block ends
abbrev pub many : {A : Type 0} → (List ℕ → Option (Got A)) → (most : ℕ) → List ℕ → Option (List A)
many first most [] = Some []
many first zero (x ∷ xs) = None
many first (suc most) (x ∷ xs) = first (x ∷ xs) >>= λ got. option_map (λ items. got.item ∷ items) (many first most got.rest)

-- the words that a block spells: it has no more of them than octets
abbrev pub words_in : List ℕ → Option (List (List ℕ))
words_in block = many text_at (length block) block

-- the files that a block spells
abbrev pub files_in : List ℕ → Option Files
files_in block = many file_at (length block) block

-- two blocks spell these words, and these files, of which no two have one name
pub record IsRequest (words files : List ℕ) (ws : List (List ℕ)) (fs : Files) : Type 0 where
  pub words_are : words_in words ≡ Some ws
  pub files_are : files_in files ≡ Some fs
  pub own_names : HaveOwnNames fs
