-- What the low bits of a number stand for in the binary encodings.
use Rattle.std.proofs.Common.{◌≡◌, ℕ, zero, suc, ◌+◌, ◌-◌, ◌*◌, ◌/◌, ◌%◌, ◌^◌, ◌<◌, ◌≤◌, ℤ, pos, ◌-ℤ◌, true, false, Some, refl, ap, ◌∙◌, arith, drop, ◌==◌, length}
use Rattle.std.proofs.lemmas.Int.{ints}
use Rattle.std.proofs.Math.Numerals.{sub-one}
use Rattle.std.proofs.Math.Nat.{pow-suc, div-eq_of_lt}
use Rattle.std.proofs.lemmas.Nat.{div-mul-add, mod-mul-add}
use Rattle.eds_bits.specs.Bits.{low_bits, unsigned_of}
use Rattle.eds_bits.specs.Encodings.{first_bit, less_where_first, signed_magnitude, number_by}
use Rattle.eds_bits.specs.declared.forms.Encoding.TheVariants.{Unsigned, TwosComplement, SignMagnitude, OnesComplement}
use Rattle.eds_bits.proofs.BitLaws.{length-low, unsigned-low, unsigned_small}

pub halves : (n : ℕ) → 1 ≤ n → 2 ^ (n - 1) + 2 ^ (n - 1) ≡ 2 ^ n
halves zero l = absurd (omega arith)
halves (suc k) l = rw sub-one (omega (arith, pow-suc 2 k))

-- ---- the first bit

first_small : (k x : ℕ) → x < 2 ^ k → first_bit (low_bits (suc k) x) ≡ false
unfolding low_bits
first_small k x h = ap (λ q. q % 2 == 1) (div-eq_of_lt h)

first_large : (k x : ℕ) → 2 ^ k ≤ x → x < 2 ^ suc k → first_bit (low_bits (suc k) x) ≡ true
unfolding low_bits
first_large k x h g =
    let e : x ≡ 1 * 2 ^ k + (x - 2 ^ k) = omega arith in
    let q : x / 2 ^ k ≡ 1 = ap (λ y. y / 2 ^ k) e ∙ div-mul-add 1 (2 ^ k) (x - 2 ^ k) (omega (arith, pow-suc 2 k)) in
    ap (λ q. q % 2 == 1) q

rest-low : (k x : ℕ) → drop 1 (low_bits (suc k) x) ≡ low_bits k x
unfolding low_bits
rest-low k x = refl

-- ---- the binary encodings, below half of the patterns and from there on

less_small : (a k x : ℕ) → x < 2 ^ k → less_where_first a (low_bits (suc k) x) ≡ pos x
less_small a k x h =
    let u : unsigned_of (low_bits (suc k) x) ≡ x = unsigned_small (suc k) x (omega (arith, pow-suc 2 k)) in
    rw (first_small k x h, u) (omega (arith, ints))

less_large : (a k x : ℕ) → 2 ^ k ≤ x → x < 2 ^ suc k → less_where_first a (low_bits (suc k) x) ≡ pos x -ℤ pos a
less_large a k x h g = rw (first_large k x h g, unsigned_small (suc k) x g) refl

magnitude_small : (k x : ℕ) → x < 2 ^ k → signed_magnitude (low_bits (suc k) x) ≡ pos x
magnitude_small k x h = rw (first_small k x h, rest-low k x, unsigned_small k x h) refl

magnitude_large : (k x : ℕ) → 2 ^ k ≤ x → x < 2 ^ suc k → signed_magnitude (low_bits (suc k) x) ≡ pos (2 ^ k) -ℤ pos x
magnitude_large k x h g =
    let e : x ≡ 1 * 2 ^ k + (x - 2 ^ k) = omega arith in
    let r : x % 2 ^ k ≡ x - 2 ^ k = ap (λ y. y % 2 ^ k) e ∙ mod-mul-add 1 (2 ^ k) (x - 2 ^ k) (omega (arith, pow-suc 2 k)) in
    let u : unsigned_of (low_bits k x) ≡ x - 2 ^ k = unsigned-low k x ∙ r in
    rw (first_large k x h g, rest-low k x, u) (omega (arith, ints))

-- ---- the same for any size: x stands for the number z

pub unsigned_pattern : (n x : ℕ) (z : ℤ) → x < 2 ^ n → pos x ≡ z → number_by Unsigned (low_bits n x) ≡ Some z
unsigned_pattern n x z h e = rw unsigned_small (ap Some e)

pub twos_positive : (n x : ℕ) (z : ℤ) → 1 ≤ n → x < 2 ^ (n - 1) → pos x ≡ z → number_by TwosComplement (low_bits n x) ≡ Some z
twos_positive zero x z l h e = absurd (omega arith)
twos_positive (suc k) x z l h e = ap Some (less_small (2 ^ length (low_bits (suc k) x)) k x (rw sub-one at h) ∙ e)

pub twos_negative : (n x : ℕ) (z : ℤ) → 1 ≤ n → 2 ^ (n - 1) ≤ x → x < 2 ^ n → pos x -ℤ pos (2 ^ n) ≡ z → number_by TwosComplement (low_bits n x) ≡ Some z
twos_negative zero x z l g h e = absurd (omega arith)
twos_negative (suc k) x z l g h e = rw length-low (ap Some (less_large (2 ^ suc k) k x (rw sub-one at g) h ∙ e))

pub ones_positive : (n x : ℕ) (z : ℤ) → 1 ≤ n → x < 2 ^ (n - 1) → pos x ≡ z → number_by OnesComplement (low_bits n x) ≡ Some z
ones_positive zero x z l h e = absurd (omega arith)
ones_positive (suc k) x z l h e = ap Some (less_small (2 ^ length (low_bits (suc k) x) - 1) k x (rw sub-one at h) ∙ e)

pub ones_negative : (n x : ℕ) (z : ℤ) → 1 ≤ n → 2 ^ (n - 1) ≤ x → x < 2 ^ n → pos x -ℤ pos (2 ^ n - 1) ≡ z → number_by OnesComplement (low_bits n x) ≡ Some z
ones_negative zero x z l g h e = absurd (omega arith)
ones_negative (suc k) x z l g h e = rw length-low (ap Some (less_large (2 ^ suc k - 1) k x (rw sub-one at g) h ∙ e))

pub magnitude_positive : (n x : ℕ) (z : ℤ) → 1 ≤ n → x < 2 ^ (n - 1) → pos x ≡ z → number_by SignMagnitude (low_bits n x) ≡ Some z
magnitude_positive zero x z l h e = absurd (omega arith)
magnitude_positive (suc k) x z l h e = ap Some (magnitude_small k x (rw sub-one at h) ∙ e)

pub magnitude_negative : (n x : ℕ) (z : ℤ) → 1 ≤ n → 2 ^ (n - 1) ≤ x → x < 2 ^ n → pos (2 ^ (n - 1)) -ℤ pos x ≡ z → number_by SignMagnitude (low_bits n x) ≡ Some z
magnitude_negative zero x z l g h e = absurd (omega arith)
magnitude_negative (suc k) x z l g h e = ap Some (magnitude_large k x (rw sub-one at g) h ∙ (rw sub-one at e))
