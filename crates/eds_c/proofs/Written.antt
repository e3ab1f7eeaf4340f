-- What is written as a block is read as what was written.
use Rattle.std.proofs.Common.{◌≡◌, ◌+◌, ◌*◌, ◌/◌, ◌%◌, ◌≤◌, ℕ, zero, suc, List, [], ◌∷◌, ◌++◌, length, take, drop, All, Bool, true, nat_le, Some, refl, sym, ap, ◌∙◌, arith, length-append}
use Rattle.std.proofs.Math.Nat.{div-add-mod}
use Rattle.std.proofs.Math.Seq.{take-append_seam, drop-append_seam}
use Rattle.std.proofs.lemmas.Bool.{le-leb}
use Rattle.std.specs.Str.{is_utf8}
use Rattle.eds_io.specs.Files.{Files}
use Rattle.eds_io.specs.declared.files.NamedFile.{NamedFile}
use Rattle.eds_c.specs.Blocks.{Got, cut_at, field_at, file_at, many, size_of, text_at}
use Rattle.eds_c.specs.Laws.{before, block_of, fields_of}

number : (n : ℕ) → size_of (n % 256) (n / 256 % 256) (n / 256 / 256 % 256) (n / 256 / 256 / 256) ≡ n
number n = omega (arith, div-add-mod n 256, div-add-mod (n / 256) 256, div-add-mod (n / 256 / 256) 256)

cut : (field rest : List ℕ) → cut_at (length field) (field ++ rest) ≡ Some (record { item = field; rest = rest })
cut field rest =
    let fits : length field ≤ length (field ++ rest) = omega (arith, length-append field rest) in
    rw (le-leb (length field) (length (field ++ rest)) fits, take-append_seam field rest, drop-append_seam field rest) refl

field-read : (field rest : List ℕ) → field_at (before field rest) ≡ Some (record { item = field; rest = rest })
field-read field rest = ap (λ n. cut_at n (field ++ rest)) (number (length field)) ∙ cut field rest

text-read : (field rest : List ℕ) → is_utf8 field ≡ true → text_at (before field rest) ≡ Some (record { item = field; rest = rest })
text-read field rest is = rw (field-read field rest, is) refl

file-read : (file : NamedFile) (rest : List ℕ) → is_utf8 file.name ≡ true → file_at (before file.name (before file.octets rest)) ≡ Some (record { item = file; rest = rest })
file-read file rest is = rw (text-read file.name (before file.octets rest) is, field-read file.octets rest) refl

words-by : (n : ℕ) (ws : List (List ℕ)) → All (λ w. is_utf8 w ≡ true) ws → length (block_of ws) ≤ n → many text_at n (block_of ws) ≡ Some ws
words-by zero [] are few = refl
words-by (suc n) [] are few = refl
words-by zero (w ∷ ws) are few = absurd (omega (arith, few))
words-by (suc n) (w ∷ ws) are few =
    let less : length (block_of ws) ≤ n = omega (arith, few, length-append w (block_of ws)) in
    rw (text-read w (block_of ws) (are 0 w (omega arith)), words-by n ws (λ k d lt. are (suc k) d (omega (arith, lt))) less) refl

files-by : (n : ℕ) (fs : Files) → All (λ (f : NamedFile). is_utf8 f.name ≡ true) fs → length (block_of (fields_of fs)) ≤ n → many file_at n (block_of (fields_of fs)) ≡ Some fs
files-by zero [] are few = refl
files-by (suc n) [] are few = refl
files-by zero (f ∷ fs) are few = absurd (omega (arith, few))
files-by (suc n) (f ∷ fs) are few =
    let rest = block_of (fields_of fs) in
    let less : length rest ≤ n = omega (arith, few, length-append f.name (before f.octets rest), length-append f.octets rest) in
    rw (file-read f rest (are 0 f (omega arith)), files-by n fs (λ k d lt. are (suc k) d (omega (arith, lt))) less) refl

pub words-read : (ws : List (List ℕ)) → All (λ w. is_utf8 w ≡ true) ws → many text_at (length (block_of ws)) (block_of ws) ≡ Some ws
words-read ws are = words-by (length (block_of ws)) ws are (omega arith)

pub files-read : (fs : Files) → All (λ (f : NamedFile). is_utf8 f.name ≡ true) fs → many file_at (length (block_of (fields_of fs))) (block_of (fields_of fs)) ≡ Some fs
files-read fs are = files-by (length (block_of (fields_of fs))) fs are (omega arith)
