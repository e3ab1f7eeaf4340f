-- How large a check can be.
use Rattle.std.proofs.Common.{◌≡◌, ℕ, zero, suc, ◌+◌, ◌*◌, ◌^◌, ◌<◌, true, false, List, [], ◌∷◌, ◌++◌, length, replicate, All, refl, ap, ◌∙◌, subst, arith, length-append}
use Rattle.std.specs.Prelude.{fold, bit_xor}
use Rattle.std.proofs.lemmas.Nat.{xor_lt}
use Rattle.std.proofs.lemmas.List.{length-replicate}
use Rattle.std.proofs.lemmas.List.Elements.{All-head, All-tail}
use Rattle.eds_bits.specs.Bits.{Bits, bits_of, octets_of, unsigned_of}
use Rattle.eds_bits.specs.Scalars.{xor_bits, remainder, invert_first, crc8_divisor, crc16_divisor, check_bits, check_of_octets, check_of}
use Rattle.eds_bits.specs.declared.forms.CheckKind.{CheckKind}
use Rattle.eds_bits.specs.declared.forms.CheckKind.TheVariants.{Checksum, Longitudinal, Crc8, Crc16Ccitt}
use Rattle.eds_bits.proofs.BitLaws.{unsigned-lt}
use Rattle.eds_bits.proofs.OctetLaws.{length-bits_of, octets_of_below}

length-xor_bits : (xs ys : Bits) → length (xor_bits xs ys) ≡ length xs
length-xor_bits [] ys = refl
length-xor_bits (x ∷ xs) [] = refl
length-xor_bits (x ∷ xs) (y ∷ ys) = ap suc (length-xor_bits xs ys)

length-invert_first : (n : ℕ) (bs : Bits) → length (invert_first n bs) ≡ length bs
length-invert_first zero bs = refl
length-invert_first (suc n) [] = refl
length-invert_first (suc n) (b ∷ bs) = ap suc (length-invert_first n bs)

-- each coefficient of the quotient takes one bit
pub length-remainder : (divisor : Bits) (n k : ℕ) (bs : Bits) → length bs ≡ n + k → length (remainder divisor n bs) ≡ k
unfolding remainder
length-remainder divisor zero k bs l = omega arith
length-remainder divisor (suc n) k [] l = absurd (omega arith)
length-remainder divisor (suc n) k (true ∷ bs) l = length-remainder divisor n k (xor_bits bs divisor) (omega (arith, length-xor_bits bs divisor))
length-remainder divisor (suc n) k (false ∷ bs) l = length-remainder divisor n k bs (omega arith)

fold_xor_lt : (a : ℕ) (octets : List ℕ) → a < 2 ^ 8 → All (λ o. o < 256) octets → fold bit_xor a octets < 2 ^ 8
fold_xor_lt a [] h all = h
fold_xor_lt a (o ∷ os) h all = fold_xor_lt (bit_xor a o) os (xor_lt 8 a o h (All-head (λ o. o < 256) o os all)) (All-tail (λ o. o < 256) o os all)

remainder_lt : (divisor : Bits) (k : ℕ) (octets : List ℕ) (bs : Bits) → length bs ≡ 8 * length octets + k → unsigned_of (remainder divisor (8 * length octets) bs) < 2 ^ k
remainder_lt divisor k octets bs l =
    let left = length-remainder divisor (8 * length octets) k bs l in
    subst (λ n. unsigned_of (remainder divisor (8 * length octets) bs) < 2 ^ n) left (unsigned-lt (remainder divisor (8 * length octets) bs))

padded : (k : ℕ) (octets : List ℕ) → length (bits_of octets ++ replicate k false) ≡ 8 * length octets + k
padded k octets = omega (arith, length-append (bits_of octets) (replicate k false), length-bits_of octets, length-replicate k false)

check_of_octets_lt : (kind : CheckKind) (octets : List ℕ) → All (λ o. o < 256) octets → check_of_octets kind octets < 2 ^ check_bits kind
check_of_octets_lt Checksum octets all = omega arith
check_of_octets_lt Longitudinal octets all = fold_xor_lt 0 octets (omega arith) all
check_of_octets_lt Crc8 octets all = remainder_lt crc8_divisor 8 octets (bits_of octets ++ replicate 8 false) (padded 8 octets)
check_of_octets_lt Crc16Ccitt octets all =
    remainder_lt crc16_divisor 16 octets (invert_first 16 (bits_of octets ++ replicate 16 false)) (length-invert_first 16 (bits_of octets ++ replicate 16 false) ∙ padded 16 octets)

-- a check fits its bits
pub check_of_lt : (kind : CheckKind) (bs : Bits) → check_of kind bs < 2 ^ check_bits kind
check_of_lt kind bs = check_of_octets_lt kind (octets_of bs) (octets_of_below bs)
