-- When octets are so many bits, the last filled with zeros.
use Rattle.std.proofs.Common.{◌≡◌, ℕ, ◌-◌, ◌*◌, ◌<◌, Bool, false, List, [], ◌∷◌, ◌++◌, length, min, take, drop, replicate, All, refl, sym, ap, ◌∙◌, arith, inl, inr}
use Rattle.std.specs.Prelude.{◌==◌}
use Rattle.std.proofs.lemmas.Bool.{cases_Bool, eqb-true, eq-eqb, both_ways, false_from_ne_true}
use Rattle.std.proofs.lemmas.List.{take-append-drop, drop_at, length-take-le, length-replicate, length-drop}
use Rattle.eds_bits.specs.Bits.{Bits, bits_of, octets_of, octets_for, unsigned_of}
use Rattle.eds_bits.proofs.BitLaws.{unsigned_same}
use Rattle.eds_bits.proofs.OctetLaws.{length-bits_of, length-octets_of, bits_of-octets_of, bits_of_same, octets_of_below}
use Rattle.eds_types.specs.Packing.{IsFilled}
use Rattle.eds_types.specs.PackedSizes.{is_filled}
use Rattle.eds_types.proofs.CanonicalPatterns.{unsigned_zeros, zeros_false}
use Rattle.eds_types.proofs.PackedSizes.{filled_true, filled_from}

-- as many octets as the bits fill
pub filled_length : (m : ℕ) (o : List ℕ) → IsFilled m o → length o ≡ octets_for m
filled_length m o h = sym (ap length h.2) ∙ length-octets_of h.0 ∙ ap octets_for h.1

pub not_filled : (m : ℕ) (o : List ℕ) → (length o ≡ octets_for m → ⊥) → false ≡ is_filled m o
not_filled m o h = sym (false_from_ne_true (is_filled m o) (λ e. h (filled_length m o (filled_from m o e))))

abbrev zeros : ℕ → Bits
zeros m = replicate (8 * octets_for m - m) false

-- where so many are there, the bits behind the first ones tell
pub filled_if : (m : ℕ) (o : List ℕ) → All (λ x. x < 256) o → length o ≡ octets_for m → (b : Bool) → b ≡ (unsigned_of (drop m (bits_of o)) == 0) → b ≡ is_filled m o
filled_if m o below many b is = elim (cases_Bool b) [
  | inl t ↦ t ∙ sym (filled_true m o (whole (eqb-true (unsigned_of (drop m (bits_of o))) 0 (sym is ∙ t))))
  | inr f ↦ f ∙ sym (false_from_ne_true (is_filled m o) (λ e. both_ways b f (is ∙ eq-eqb (unsigned_of (drop m (bits_of o))) 0 (nothing (filled_from m o e)))))
]
  where
    long : length (drop m (bits_of o)) ≡ 8 * octets_for m - m
    long = length-drop m (bits_of o) ∙ omega (arith, length-bits_of o, many)

    whole : unsigned_of (drop m (bits_of o)) ≡ 0 → IsFilled m o
    whole e =
        let c = take m (bits_of o) in
        let size : length c ≡ m = omega (arith, length-bits_of o, many, length-take-le m (bits_of o) (omega (arith, length-bits_of o, many))) in
        let z : drop m (bits_of o) ≡ zeros m = unsigned_same (drop m (bits_of o)) (zeros m) (long ∙ sym (length-replicate (8 * octets_for m - m) false)) (e ∙ sym (unsigned_zeros (zeros m) (zeros_false (8 * octets_for m - m)))) in
        let all : bits_of (octets_of c) ≡ bits_of o = bits_of-octets_of c ∙ ap (λ n. c ++ replicate (8 * octets_for n - n) false) size ∙ ap (λ y. c ++ y) (sym z) ∙ take-append-drop m (bits_of o) in
        (c, size, bits_of_same (octets_of c) o (octets_of_below c) below all)

    nothing : IsFilled m o → unsigned_of (drop m (bits_of o)) ≡ 0
    nothing h =
        let all : bits_of o ≡ h.0 ++ zeros m = ap bits_of (sym h.2) ∙ bits_of-octets_of h.0 ∙ ap (λ n. h.0 ++ replicate (8 * octets_for n - n) false) h.1 in
        ap (λ y. unsigned_of (drop m y)) all ∙ ap unsigned_of (drop_at h.0 (zeros m) m h.1) ∙ unsigned_zeros (zeros m) (zeros_false (8 * octets_for m - m))

-- the number of the bits behind the first ones, of which there are at most 7
pub filler_is : (m from n number : ℕ) (o : List ℕ) (left : Bits) → left ≡ drop from (bits_of o) → from ≡ m → length o ≡ octets_for m → n ≡ min (length left) 7 → number ≡ unsigned_of (take n left) → number ≡ unsigned_of (drop m (bits_of o))
filler_is m from n number o left is begins many some e =
    let long : length left ≡ 8 * octets_for m - m = ap length (is ∙ ap (λ k. drop k (bits_of o)) begins) ∙ length-drop m (bits_of o) ∙ omega (arith, length-bits_of o, many) in
    let all : n ≡ length left = omega arith in
    e ∙ ap (λ k. unsigned_of (take k left)) all ∙ ap unsigned_of (take_whole left) ∙ ap unsigned_of (is ∙ ap (λ k. drop k (bits_of o)) begins)
  where
    take_whole : (b : Bits) → take (length b) b ≡ b
    take_whole [] = refl
    take_whole (x ∷ b) = ap (λ y. x ∷ y) (take_whole b)
