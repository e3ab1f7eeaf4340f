-- Bits that are all zero, in octets.
use Rattle.std.proofs.Common.{◌≡◌, ℕ, zero, suc, ◌*◌, ◌-◌, ◌<◌, ◌++◌, length, get_or, replicate, false, refl, sym, ap, ◌∙◌, arith}
use Rattle.std.proofs.lemmas.List.{length-append, length-replicate, replicate-append-replicate}
use Rattle.eds_bits.specs.Bits.{bits_of, filled, octets_of, octets_for, oct, low_bits}
use Rattle.eds_bits.proofs.OctetLaws.{bits_of-octets_of, octets_of_below, bits_of_same, length-filled}

zeros_of : (m : ℕ) → bits_of (replicate m 0) ≡ replicate (8 * m) false
unfolding low_bits
zeros_of zero = refl
zeros_of (suc m) = ap (λ bs. replicate 8 false ++ bs) (zeros_of m) ∙ replicate-append-replicate 8 (8 * m) false ∙ ap (λ n. replicate n false) (omega arith)

all_zero : (m k d : ℕ) → k < length (replicate {A = ℕ} m 0) → get_or (replicate {A = ℕ} m 0) k d < 256
all_zero zero k d lt = absurd (omega arith)
all_zero (suc m) zero d lt = omega arith
all_zero (suc m) (suc k) d lt = all_zero m k d (omega arith)

pub zero_octets : (n m : ℕ) → m ≡ octets_for n → octets_of (replicate n false) ≡ replicate m 0
zero_octets n m e =
    let full : filled (replicate n false) ≡ replicate (8 * m) false = replicate-append-replicate n _ false ∙ ap (λ k. replicate k false) (omega (arith, length-filled (replicate n false), length-append (replicate n false) (replicate (8 * oct (replicate n false) - length (replicate n false)) false), length-replicate n false, length-replicate (8 * oct (replicate n false) - length (replicate n false)) false, ap octets_for (length-replicate n false), e)) in
    bits_of_same (octets_of (replicate n false)) (replicate m 0) (octets_of_below (replicate n false)) (all_zero m) (bits_of-octets_of (replicate n false) ∙ full ∙ sym (zeros_of m))
