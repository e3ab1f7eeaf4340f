-- Hex in other letters.
use Rattle.std.proofs.Common.{◌≡◌, ℕ, suc, ◌+◌, ◌*◌, ◌%◌, ◌==◌, Bool, true, false, List, [], ◌∷◌, length, map, Option, Some, None, Result, Ok, Err, refl, sym, ap, ◌∙◌, arith}
use Rattle.std.specs.Prelude.{if◌then◌else◌}
use Rattle.std.specs.Char.{to_ascii_lowercase}
use Rattle.std.specs.Result.{result_ok}
use Rattle.std.proofs.lemmas.Bool.Decides.{nat_tests}
use Rattle.hex.specs.Hex.{decode_of, decode_pairs, hex_digit_value}
use Rattle.hex.specs.declared.error.FromHexError.{FromHexError}
use Rattle.hex.specs.declared.error.FromHexError.TheVariants.{OddLength}

-- a digit is the same in either case
digit-lower : (c : ℕ) → hex_digit_value (to_ascii_lowercase c) ≡ hex_digit_value c
digit-lower c = grind (arith, nat_tests)

-- the octet of two digits in front of others
abbrev joined : Option ℕ → Option ℕ → Option (List ℕ) → Option (List ℕ)
joined None low octets = None
joined (Some h) None octets = None
joined (Some h) (Some l) None = None
joined (Some h) (Some l) (Some octets) = Some ((h * 16 + l) ∷ octets)

pair-joined : (i high low : ℕ) (rest : List ℕ) → result_ok (decode_pairs i (high ∷ low ∷ rest)) ≡ joined (hex_digit_value high) (hex_digit_value low) (result_ok (decode_pairs (i + 2) rest))
unfolding decode_pairs
pair-joined i high low rest = go (hex_digit_value high) refl (hex_digit_value low) refl (decode_pairs (i + 2) rest) refl
  where
    go : (h : Option ℕ) → hex_digit_value high ≡ h → (l : Option ℕ) → hex_digit_value low ≡ l → (r : Result (List ℕ) FromHexError) → decode_pairs (i + 2) rest ≡ r
        → result_ok (decode_pairs i (high ∷ low ∷ rest)) ≡ joined (hex_digit_value high) (hex_digit_value low) (result_ok (decode_pairs (i + 2) rest))
    go None p l q r e = rw p refl
    go (Some h) p None q r e = rw (p, q) refl
    go (Some h) p (Some l) q (Ok octets) e = rw (p, q, e) refl
    go (Some h) p (Some l) q (Err wrong) e = rw (p, q, e) refl

pairs-lower : (i j : ℕ) (hex : List ℕ) → result_ok (decode_pairs i (map to_ascii_lowercase hex)) ≡ result_ok (decode_pairs j hex)
unfolding decode_pairs
pairs-lower i j [] = refl
pairs-lower i j (c ∷ []) = refl
pairs-lower i j (c ∷ d ∷ rest) =
    pair-joined i (to_ascii_lowercase c) (to_ascii_lowercase d) (map to_ascii_lowercase rest)
    ∙ rw (digit-lower c, digit-lower d, pairs-lower (i + 2) (j + 2) rest) refl
    ∙ sym (pair-joined j c d rest)

length-lower : (hex : List ℕ) → length (map to_ascii_lowercase hex) ≡ length hex
length-lower [] = refl
length-lower (c ∷ hex) = ap suc (length-lower hex)

-- in lower case it stands for the same octets
decode-lower : (hex : List ℕ) → result_ok (decode_of (map to_ascii_lowercase hex)) ≡ result_ok (decode_of hex)
decode-lower hex = rw (length-lower hex) (go (length hex % 2 == 1))
  where
    go : (b : Bool) → result_ok (if b then Err OddLength else decode_pairs 0 (map to_ascii_lowercase hex)) ≡ result_ok (if b then Err OddLength else decode_pairs 0 hex)
    go true = refl
    go false = pairs-lower 0 0 hex

-- so it does in any letters
pub same-octets : (hex other : List ℕ) → map to_ascii_lowercase hex ≡ map to_ascii_lowercase other → result_ok (decode_of hex) ≡ result_ok (decode_of other)
same-octets hex other same = sym (decode-lower hex) ∙ ap (λ (xs : List ℕ). result_ok (decode_of xs)) same ∙ decode-lower other
