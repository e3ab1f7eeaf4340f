-- Lines that are UTF-8, with a line feed behind them.
use Rattle.std.proofs.Common.{◌≡◌, ℕ, ◌&&◌, nat_lt, Bool, true, List, [], ◌∷◌, ◌++◌, refl, sym, ap, subst, ◌∙◌}
use Rattle.std.proofs.lemmas.Bool.{and_parts, ltb-true}
use Rattle.std.proofs.lemmas.Str.{IsUtf8-append, IsUtf8-from_ascii}
use Rattle.std.proofs.lemmas.Str.Ascii.{IsAscii-nil, IsAscii-cons}
use Rattle.std.specs.Str.{IsAscii, IsUtf8}
use Rattle.hex.proofs.HexLemmas.{IsAscii-encode_with}
use Rattle.hex.specs.Hex.{encode_lower, lower_digits}
use Rattle.eds_script.specs.Events.{IsTextLine}

-- ---- octets below 128

abbrev are_ascii : List ℕ → Bool
are_ascii [] = true
are_ascii (x ∷ xs) = nat_lt x 128 && are_ascii xs

ascii-by : (xs : List ℕ) → are_ascii xs ≡ true → IsAscii xs
ascii-by [] e = IsAscii-nil
ascii-by (x ∷ xs) e = let p = and_parts _ _ e in IsAscii-cons x xs (ltb-true _ _ p.0) (ascii-by xs p.1)

-- hex in lower case
pub hex-utf8 : (octets : List ℕ) → IsUtf8 (encode_lower octets)
hex-utf8 octets = IsUtf8-from_ascii (encode_lower octets) (IsAscii-encode_with lower_digits octets (ascii-by lower_digits refl))

-- ---- lines

-- what is UTF-8, and a line feed behind it
pub text-line : (front line : List ℕ) → IsUtf8 front → line ≡ front ++ 10 ∷ [] → IsTextLine line
text-line front line f e = (front, f, e)

-- what is UTF-8, a space, what is given, and a line feed behind them
pub given-line : (front spaced given whole line : List ℕ) → IsUtf8 front → IsUtf8 given → spaced ≡ front ++ 32 ∷ [] → whole ≡ spaced ++ given → line ≡ whole ++ 10 ∷ [] → IsTextLine line
given-line front spaced given whole line f g a b e = (
  whole,
  subst IsUtf8 (sym (b ∙ ap (λ x. x ++ given) a)) (IsUtf8-append (front ++ 32 ∷ []) given (IsUtf8-append front (32 ∷ []) f (IsUtf8-from_ascii (32 ∷ []) (ascii-by (32 ∷ []) refl))) g),
  e,
)
