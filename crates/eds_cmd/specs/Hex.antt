-- The octets of hex digits with blanks between them.
use Rattle.std.specs.Prelude.{ℕ, ◌==◌, ◌||◌, not, List, filter, Bool, Option}
use Rattle.std.specs.Result.{result_ok}
use Rattle.hex.specs.Hex.{decode_of}

-- a space, a tab, a carriage return or a line feed
abbrev pub is_blank : ℕ → Bool
is_blank c = c == 32 || c == 9 || c == 13 || c == 10

-- a text without its blanks
abbrev pub digits_of : List ℕ → List ℕ
digits_of text = filter (λ c. not (is_blank c)) text

-- the octets of pairs of digits of either case, where there are no others and no odd number of them
unfoldable pub hex_octets : List ℕ → Option (List ℕ)
hex_octets text = result_ok (decode_of (digits_of text))
