-- Groups of bits as decimal digits.
use Rattle.std.proofs.Common.{◌≡◌, ℕ, zero, suc, ◌+◌, ◌*◌, ◌/◌, ◌%◌, ◌^◌, ◌<◌, ◌≤◌, Bool, true, false, cond, List, [], ◌∷◌, length, map, Some, None, pos, refl, sym, ap, ◌∙◌, arith, inl, inr, add-one, subst}
use Rattle.std.specs.Prelude.{nat_le, ◌&&◌, bit_or}
use Rattle.std.specs.List.{list_all}
use Rattle.std.proofs.Math.Nat.{pow-suc, mod-eq_of_lt, pow-le-pow_right, mul-le-mul_right, mul-zero, one-le-pow, div-eq_of_lt, div-div-eq-div-mul}
use Rattle.std.proofs.Math.Arith.{mod-mul}
use Rattle.std.proofs.Math.Bool.{and-false}
use Rattle.std.proofs.lemmas.Bool.{leb-true, le-leb, lt-leb, cases_lt, and_parts, and_from}
use Rattle.std.proofs.lemmas.Nat.{mul-add-lt, pow-add, shr-shr, shl_whole, or_comm, or_shifted}
use Rattle.eds_bits.specs.Bits.{low_bits, unsigned_of, pieces}
use Rattle.eds_bits.specs.Encodings.{decimal_value, decimal_of}
use Rattle.eds_bits.proofs.Groups.{groups, length-groups, numbers_of_pieces, groups_push}

-- every one is a decimal digit
abbrev pub are_digits : List ℕ → Bool
are_digits ds = list_all (λ d. nat_le d 9) ds

pub sum_small : (ds : List ℕ) → are_digits ds ≡ true → decimal_value ds < 10 ^ length ds
sum_small [] h = omega arith
sum_small (d ∷ ds) h =
    let parts = and_parts (nat_le d 9) (are_digits ds) h in
    let digit : d < 10 = omega (arith, leb-true d 9 parts.0) in
    let sum : d * 10 ^ length ds + decimal_value ds < 10 ^ length ds * 10 = mul-add-lt d (10 ^ length ds) (decimal_value ds) 10 digit (sum_small ds parts.1) in
    rw pow-suc sum

-- no more than 16 digits of at least four bits stand in 64 bits
pub few_digits : (k m : ℕ) → 4 ≤ k → k * m ≤ 64 → m ≤ 16
few_digits k m h g = omega (arith, mul-le-mul_right m h)

pub ten_pos : (i : ℕ) → 0 < 10 ^ i
ten_pos i = one-le-pow i 10 (omega arith)

pub tens : (i : ℕ) → i ≤ 16 → 10 ^ i ≤ 10 ^ 16
tens i h = pow-le-pow_right (omega arith) h

-- ---- reading

-- what reading the i lowest digits of x leaves: their number, the worth of the next one, and the digits above
pub record ReadDigits (k x i n worth left : ℕ) : Type 0 where
  pub left_is : left ≡ x / 2 ^ (k * i)
  pub worth_is : worth ≡ 10 ^ i
  pub digits : are_digits (groups k i x) ≡ true
  pub number : n ≡ decimal_value (groups k i x)

pub read_none : (k x : ℕ) → ReadDigits k x 0 0 1 x
read_none k x = record { left_is = rw mul-zero (omega arith); worth_is = refl; digits = refl; number = refl }

pub read_small : (k x i n worth left : ℕ) → ReadDigits k x i n worth left → n < 10 ^ i
read_small k x i n worth left r = rw (r.number) (rw length-groups at (sum_small (groups k i x) r.digits))

pub read_more : (k x i n worth left : ℕ) → ReadDigits k x i n worth left → left % 2 ^ k ≤ 9 → ReadDigits k x (i + 1) (n + left % 2 ^ k * worth) (worth * 10) (left / 2 ^ k)
read_more k x i n worth left r h =
    let step : ReadDigits k x (suc i) (n + left % 2 ^ k * worth) (worth * 10) (left / 2 ^ k) = record {
      left_is = ap (λ y. y / 2 ^ k) r.left_is ∙ shr-shr x (k * i) k ∙ ap (λ e. x / 2 ^ e) (omega arith);
      worth_is = ap (λ y. y * 10) r.worth_is ∙ sym (pow-suc 10 i);
      digits = and_from (nat_le (x / 2 ^ (k * i) % 2 ^ k) 9) (are_digits (groups k i x)) (le-leb (x / 2 ^ (k * i) % 2 ^ k) 9 (rw r.left_is at h)) r.digits;
      number = ap (λ y. y + left % 2 ^ k * worth) r.number ∙ omega (arith, ap (λ y. y % 2 ^ k * worth) r.left_is, ap (λ y. x / 2 ^ (k * i) % 2 ^ k * y) (r.worth_is ∙ ap (λ l. 10 ^ l) (sym (length-groups k i x))));
    } in
    rw add-one step

-- the next digit and the worth after it fit 64 bits
pub record FitsNext (digit n worth : ℕ) : Type 0 where
  pub product : digit * worth < 2 ^ 64
  pub sum : n + digit * worth < 2 ^ 64
  pub next : worth * 10 < 2 ^ 64

pub read_fits : (k x m i n worth left : ℕ) → 4 ≤ k → k * m ≤ 64 → i < m → ReadDigits k x i n worth left → left % 2 ^ k ≤ 9 → FitsNext (left % 2 ^ k) n worth
read_fits k x m i n worth left wide few l r h =
    let more = read_more k x i n worth left r h in
    let small = read_small k x (i + 1) (n + left % 2 ^ k * worth) (worth * 10) (left / 2 ^ k) more in
    let most = tens (i + 1) (omega (arith, few_digits k m wide few)) in
    record { product = omega arith; sum = omega arith; next = omega (arith, more.worth_is) }

-- after the last digit
pub read_all : (k x m n worth left : ℕ) → 4 ≤ k → ReadDigits k x m n worth left → decimal_of (map unsigned_of (pieces k (low_bits (k * m) x))) ≡ Some (pos n)
read_all k x m n worth left h r =
    ap decimal_of (numbers_of_pieces k m x (omega arith)) ∙ ap (λ b. cond b (Some (pos (decimal_value (groups k m x)))) None) r.digits ∙ ap (λ s. Some (pos s)) (sym r.number)

-- a group above 9 among the groups
pub bad_digit : (k m i x : ℕ) → i < m → 9 < x / 2 ^ (k * i) % 2 ^ k → are_digits (groups k m x) ≡ false
bad_digit k zero i x l h = absurd (omega arith)
bad_digit k (suc m) i x l h = elim (cases_lt i m) [
  | inl below ↦ ap (λ b. nat_le (x / 2 ^ (k * m) % 2 ^ k) 9 && b) (bad_digit k m i x below h) ∙ and-false (nat_le (x / 2 ^ (k * m) % 2 ^ k) 9)
  | inr from ↦
      let e : i ≡ m = omega arith in
      let big : 9 < x / 2 ^ (k * m) % 2 ^ k = subst (λ j. 9 < x / 2 ^ (k * j) % 2 ^ k) e h in
      ap (λ b. b && are_digits (groups k m x)) (lt-leb (x / 2 ^ (k * m) % 2 ^ k) 9 big)
]

-- at a group above 9
pub read_bad : (k x m i n worth left : ℕ) → 4 ≤ k → i < m → ReadDigits k x i n worth left → 9 < left % 2 ^ k → decimal_of (map unsigned_of (pieces k (low_bits (k * m) x))) ≡ None
read_bad k x m i n worth left h l r g =
    let big : 9 < x / 2 ^ (k * i) % 2 ^ k = subst (λ y. 9 < y % 2 ^ k) r.left_is g in
    ap decimal_of (numbers_of_pieces k m x (omega arith)) ∙ ap (λ b. cond b (Some (pos (decimal_value (groups k m x)))) None) (bad_digit k m i x l big)

-- ---- writing

-- the i lowest decimal digits of n, of k bits each
abbrev pub packed : ℕ → ℕ → ℕ → ℕ
packed k zero n = 0
packed k (suc i) n = n / 10 ^ i % 10 * 2 ^ (k * i) + packed k i n

abbrev decimals : ℕ → ℕ → List ℕ
decimals zero n = []
decimals (suc m) n = n / 10 ^ m % 10 ∷ decimals m n

digit_fits : (k a : ℕ) → 4 ≤ k → a % 10 < 2 ^ k
digit_fits k a h = let sixteen : 2 ^ 4 ≤ 2 ^ k = pow-le-pow_right (omega arith) h in omega arith

pub packed-lt : (k i n : ℕ) → 4 ≤ k → packed k i n < 2 ^ (k * i)
packed-lt k zero n h = rw mul-zero (omega arith)
packed-lt k (suc i) n h =
    let e : k * suc i ≡ k * i + k = omega arith in
    let sum = mul-add-lt (n / 10 ^ i % 10) (2 ^ (k * i)) (packed k i n) (2 ^ k) (digit_fits k (n / 10 ^ i) h) (packed-lt k i n h) in
    rw (e, pow-add 2 (k * i) k) sum

groups-packed : (k m n : ℕ) → 4 ≤ k → groups k m (packed k m n) ≡ decimals m n
groups-packed k zero n h = refl
groups-packed k (suc m) n h =
    groups_push k m (n / 10 ^ m % 10) (packed k m n) (omega arith) (digit_fits k (n / 10 ^ m) h) (packed-lt k m n h) ∙ ap (λ ds. n / 10 ^ m % 10 ∷ ds) (groups-packed k m n h)

are_decimals : (m n : ℕ) → are_digits (decimals m n) ≡ true
are_decimals zero n = refl
are_decimals (suc m) n = and_from (nat_le (n / 10 ^ m % 10) 9) (are_digits (decimals m n)) (le-leb (n / 10 ^ m % 10) 9 (omega arith)) (are_decimals m n)

length-decimals : (m n : ℕ) → length (decimals m n) ≡ m
length-decimals zero n = refl
length-decimals (suc m) n = ap suc (length-decimals m n)

sum-decimals : (m n : ℕ) → decimal_value (decimals m n) ≡ n % 10 ^ m
sum-decimals zero n = omega arith
sum-decimals (suc m) n =
    let e : 10 ^ suc m ≡ 10 * 10 ^ m = pow-suc 10 m ∙ omega arith in
    rw (length-decimals m n, sum-decimals m n, e, mod-mul n {m = 10} {c = 10 ^ m} (omega arith) (ten_pos m)) refl

-- what writing the i lowest decimal digits of n leaves: their bits, and the digits above
pub record WroteDigits (k n i raw left : ℕ) : Type 0 where
  pub left_is : left ≡ n / 10 ^ i
  pub raw_is : raw ≡ packed k i n

pub wrote_none : (k n : ℕ) → WroteDigits k n 0 0 n
wrote_none k n = record { left_is = omega arith; raw_is = refl }

pub wrote_more : (k n i raw left : ℕ) → 4 ≤ k → k * i + k ≤ 64 → WroteDigits k n i raw left
    → WroteDigits k n (i + 1) (bit_or raw (left % 10 * 2 ^ (k * i) % 2 ^ 64)) (left / 10)
wrote_more k n i raw left h room w =
    let high = left % 10 * 2 ^ (k * i) in
    let digit : left % 10 < 2 ^ k = digit_fits k left h in
    let whole : high % 2 ^ 64 ≡ high = shl_whole (left % 10) k (k * i) 64 digit (omega arith) in
    let low : raw < 2 ^ (k * i) = subst (λ r. r < 2 ^ (k * i)) (sym w.raw_is) (packed-lt k i n h) in
    let joined : bit_or raw (high % 2 ^ 64) ≡ high + raw = ap (bit_or raw) whole ∙ or_comm raw high ∙ or_shifted (left % 10) (k * i) raw low in
    let step : WroteDigits k n (suc i) (bit_or raw (high % 2 ^ 64)) (left / 10) = record {
      left_is = ap (λ y. y / 10) w.left_is ∙ div-div-eq-div-mul n (10 ^ i) 10 ∙ ap (λ e. n / e) (sym (pow-suc 10 i));
      raw_is = joined ∙ ap (λ y. y % 10 * 2 ^ (k * i) + raw) w.left_is ∙ ap (λ y. n / 10 ^ i % 10 * 2 ^ (k * i) + y) w.raw_is;
    } in
    rw add-one step

pub packed_zero : (k i : ℕ) → packed k i 0 ≡ 0
packed_zero k zero = refl
packed_zero k (suc i) =
    let none : 0 / 10 ^ i ≡ 0 = div-eq_of_lt (ten_pos i) in
    rw (none, packed_zero k i) (omega arith)

-- a number is that of its decimal digits
pub packed_number : (k m n : ℕ) → 4 ≤ k → n < 10 ^ m → decimal_of (map unsigned_of (pieces k (low_bits (k * m) (packed k m n)))) ≡ Some (pos n)
packed_number k m n h small =
    ap decimal_of (numbers_of_pieces k m (packed k m n) (omega arith) ∙ groups-packed k m n h)
    ∙ ap (λ b. cond b (Some (pos (decimal_value (decimals m n)))) None) (are_decimals m n) ∙ ap (λ s. Some (pos s)) (sum-decimals m n ∙ mod-eq_of_lt small)
