-- The text that octets show.
use Rattle.std.specs.Prelude.{ℕ, zero, suc, ◌+◌, ◌==◌, List, [], ◌∷◌, ◌++◌, length, take, drop, if◌then◌else◌}
use Rattle.std.specs.Char.{IsScalar, encode_utf8}
use Rattle.std.specs.Str.{StartsWithNoChar}
use Rattle.std.specs.Str.Lossy.{replacement_bytes, utf8_valid_len}

-- ---- as a text

-- The longest front that is UTF-8 stays as it is, the octet behind it, with which no whole character begins, is the character
-- U+FFFD, and so on with what follows: for at most so many such octets.
abbrev pub shown_within : ℕ → List ℕ → List ℕ
shown_within zero octets = octets
shown_within (suc more) octets = if utf8_valid_len octets == length octets then octets
    else take (utf8_valid_len octets) octets ++ (replacement_bytes ++ shown_within more (drop (utf8_valid_len octets + 1) octets))

-- the text that octets show
unfoldable pub shown : List ℕ → List ℕ
shown octets = shown_within (length octets) octets

-- ---- as a relation

-- read from the left, a whole character stands for itself, and an octet that begins no whole character for U+FFFD
pub data IsShown : List ℕ → List ℕ → Type 0 where
  nothing : IsShown [] []
  character : {rest text : List ℕ} (c : ℕ) → IsScalar c → IsShown rest text → IsShown (encode_utf8 c ++ rest) (encode_utf8 c ++ text)
  replaced : {rest text : List ℕ} (octet : ℕ) → StartsWithNoChar (octet ∷ rest) → IsShown rest text → IsShown (octet ∷ rest) (replacement_bytes ++ text)
