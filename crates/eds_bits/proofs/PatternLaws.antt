-- Which numbers have a pattern in an encoding, and when two patterns of a number are one.
use Rattle.std.proofs.Common.{◌≡◌, ℕ, suc, ◌+◌, ◌-◌, ◌*◌, ◌/◌, ◌%◌, ◌^◌, ◌<◌, ◌≤◌, ℤ, pos, negsuc, neg_ℤ, ◌-ℤ◌, ◌≤ℤ◌, ◌<ℤ◌, nat_abs, Bool, true, false, cond, List, [], ◌∷◌, length, map, Option, Some, None, refl, sym, ap, ◌∙◌, subst, arith, inl, inr, ◌⊎◌}
use Rattle.std.specs.Prelude.{nat_le, ◌&&◌, ◌↔◌, is_some, IsNone}
use Rattle.std.proofs.Math.Bool.{and-false}
use Rattle.std.proofs.Math.Nat.{pow-le-pow_right}
use Rattle.eds_bits.specs.Lists.{HasOne}
use Rattle.std.proofs.lemmas.Int.{ints}
use Rattle.std.proofs.lemmas.Nat.{pow_pos, same_from_place}
use Rattle.std.proofs.lemmas.Bool.{cases_lt, and_parts, leb-false, lt-leb}
use Rattle.eds_bits.specs.Bits.{Bits, low_bits, unsigned_of, pieces}
use Rattle.eds_bits.specs.Encodings.{number_by, digits_by, least_by, greatest_by, digit_bits, decimal_value, decimal_of}
use Rattle.eds_bits.specs.declared.forms.Encoding.{Encoding}
use Rattle.eds_bits.specs.declared.forms.Encoding.TheVariants.{Unsigned, TwosComplement, SignMagnitude, OnesComplement, PackedBcd, Bcd}
use Rattle.eds_bits.proofs.Patterns.{halves, unsigned_pattern, twos_positive, twos_negative, ones_positive, ones_negative, magnitude_positive, magnitude_negative}
use Rattle.eds_bits.proofs.Groups.{groups, length-groups, numbers_of_pieces, low_from_groups}
use Rattle.eds_bits.proofs.Decimals.{are_digits, sum_small, packed, packed-lt, packed_number, packed_zero, ten_pos, tens}

some_same : (a b : ℤ) → ◌≡◌ {A = Option ℤ} (Some a) (Some b) → a ≡ b
some_same a b e = cc

-- ---- what a pattern says of its number

unsigned_says : (k x : ℕ) (n : ℤ) → x < 2 ^ k → number_by Unsigned (low_bits k x) ≡ Some n → pos x ≡ n
unsigned_says k x n h e = some_same (pos x) n (sym (unsigned_pattern k x (pos x) h refl) ∙ e)

-- a pattern below half of all stands for itself, and another one for `negative`
abbrev Says : ℕ → ℕ → ℤ → ℤ → Type 0
Says k x negative n = ((x < 2 ^ (k - 1)) × (pos x ≡ n)) ⊎ ((2 ^ (k - 1) ≤ x) × (negative ≡ n))

twos_says : (k x : ℕ) (n : ℤ) → 1 ≤ k → x < 2 ^ k → number_by TwosComplement (low_bits k x) ≡ Some n → Says k x (pos x -ℤ pos (2 ^ k)) n
twos_says k x n l h e = elim (cases_lt x (2 ^ (k - 1))) [
  | inl below ↦ inl (below, some_same (pos x) n (sym (twos_positive k x (pos x) l below refl) ∙ e))
  | inr from ↦ inr (from, some_same (pos x -ℤ pos (2 ^ k)) n (sym (twos_negative k x (pos x -ℤ pos (2 ^ k)) l from h refl) ∙ e))
]

ones_says : (k x : ℕ) (n : ℤ) → 1 ≤ k → x < 2 ^ k → number_by OnesComplement (low_bits k x) ≡ Some n → Says k x (pos x -ℤ pos (2 ^ k - 1)) n
ones_says k x n l h e = elim (cases_lt x (2 ^ (k - 1))) [
  | inl below ↦ inl (below, some_same (pos x) n (sym (ones_positive k x (pos x) l below refl) ∙ e))
  | inr from ↦ inr (from, some_same (pos x -ℤ pos (2 ^ k - 1)) n (sym (ones_negative k x (pos x -ℤ pos (2 ^ k - 1)) l from h refl) ∙ e))
]

magnitude_says : (k x : ℕ) (n : ℤ) → 1 ≤ k → x < 2 ^ k → number_by SignMagnitude (low_bits k x) ≡ Some n → Says k x (pos (2 ^ (k - 1)) -ℤ pos x) n
magnitude_says k x n l h e = elim (cases_lt x (2 ^ (k - 1))) [
  | inl below ↦ inl (below, some_same (pos x) n (sym (magnitude_positive k x (pos x) l below refl) ∙ e))
  | inr from ↦ inr (from, some_same (pos (2 ^ (k - 1)) -ℤ pos x) n (sym (magnitude_negative k x (pos (2 ^ (k - 1)) -ℤ pos x) l from h refl) ∙ e))
]

decimal_says : (ds : List ℕ) (n : ℤ) → decimal_of ds ≡ Some n → (are_digits ds ≡ true) × (pos (decimal_value ds) ≡ n)
decimal_says ds n e = go (are_digits ds) refl e
  where
    go : (b : Bool) → are_digits ds ≡ b → cond b (Some (pos (decimal_value ds))) None ≡ Some n → (are_digits ds ≡ true) × (pos (decimal_value ds) ≡ n)
    go true d e = (d, some_same (pos (decimal_value ds)) n e)
    go false d e = absurd cc

groups_say : (w m x : ℕ) (n : ℤ) → 0 < w → decimal_of (map unsigned_of (pieces w (low_bits (w * m) x))) ≡ Some n → (are_digits (groups w m x) ≡ true) × (pos (decimal_value (groups w m x)) ≡ n)
groups_say w m x n h e = decimal_says (groups w m x) n (ap decimal_of (sym (numbers_of_pieces w m x h)) ∙ e)

-- ---- a pattern's number is one of the encoding's

-- n is a number of k bits
pub record IsAmong (e : Encoding) (k : ℕ) (n : ℤ) : Type 0 where
  pub from_least : least_by e k ≤ℤ n
  pub to_greatest : n ≤ℤ greatest_by e k

digits_bound : (w m x : ℕ) (n : ℤ) → 0 < w → decimal_of (map unsigned_of (pieces w (low_bits (w * m) x))) ≡ Some n → (pos 0 ≤ℤ n) × (n ≤ℤ pos (10 ^ m - 1))
digits_bound w m x n h e =
    let said = groups_say w m x n h e in
    let small : decimal_value (groups w m x) < 10 ^ m = rw length-groups at (sum_small (groups w m x) said.0) in
    (omega (arith, ints, said.1), omega (arith, ints, said.1))

pub among : (e : Encoding) (k x : ℕ) (n : ℤ) → 1 ≤ k → k % digit_bits e ≡ 0 → x < 2 ^ k → number_by e (low_bits k x) ≡ Some n → IsAmong e k n
among Unsigned k x n l d h e = let said = unsigned_says k x n h e in record { from_least = omega (arith, ints); to_greatest = omega (arith, ints) }
among TwosComplement k x n l d h e =
    let half = halves k l in
    elim (twos_says k x n l h e) [
      | inl s ↦ record { from_least = omega (arith, ints, s.0, s.1); to_greatest = omega (arith, ints, s.0, s.1) }
      | inr s ↦ record { from_least = omega (arith, ints, s.0, s.1); to_greatest = omega (arith, ints, s.0, s.1) }
    ]
among SignMagnitude k x n l d h e =
    let half = halves k l in
    elim (magnitude_says k x n l h e) [
      | inl s ↦ record { from_least = omega (arith, ints, s.0, s.1); to_greatest = omega (arith, ints, s.0, s.1) }
      | inr s ↦ record { from_least = omega (arith, ints, s.0, s.1); to_greatest = omega (arith, ints, s.0, s.1) }
    ]
among OnesComplement k x n l d h e =
    let half = halves k l in
    elim (ones_says k x n l h e) [
      | inl s ↦ record { from_least = omega (arith, ints, s.0, s.1); to_greatest = omega (arith, ints, s.0, s.1) }
      | inr s ↦ record { from_least = omega (arith, ints, s.0, s.1); to_greatest = omega (arith, ints, s.0, s.1) }
    ]
among PackedBcd k x n l d h e =
    let whole : k ≡ 4 * (k / 4) = omega arith in
    let b = digits_bound 4 (k / 4) x n (omega arith) (subst (λ j. number_by PackedBcd (low_bits j x) ≡ Some n) whole e) in
    record { from_least = b.0; to_greatest = b.1 }
among Bcd k x n l d h e =
    let whole : k ≡ 8 * (k / 8) = omega arith in
    let b = digits_bound 8 (k / 8) x n (omega arith) (subst (λ j. number_by Bcd (low_bits j x) ≡ Some n) whole e) in
    record { from_least = b.0; to_greatest = b.1 }

-- ---- two patterns of a number that isn't 0

abbrev pub NotZero : ℤ → Type 0
NotZero n = n ≡ pos 0 → ⊥

-- digits with one length and one sum are the same
digits_same : (ds es : List ℕ) → are_digits ds ≡ true → are_digits es ≡ true → length ds ≡ length es → decimal_value ds ≡ decimal_value es → ds ≡ es
digits_same [] [] h g l e = refl
digits_same [] (y ∷ es) h g l e = absurd (omega arith)
digits_same (x ∷ ds) [] h g l e = absurd (omega arith)
digits_same (x ∷ ds) (y ∷ es) h g l e =
    let hd = and_parts (nat_le x 9) (are_digits ds) h in
    let ge = and_parts (nat_le y 9) (are_digits es) g in
    let tails : length ds ≡ length es = omega arith in
    let worth : 10 ^ length es ≡ 10 ^ length ds = ap (λ i. 10 ^ i) (sym tails) in
    let small : decimal_value es < 10 ^ length ds = subst (λ w. decimal_value es < w) worth (sum_small es ge.1) in
    let sums : x * 10 ^ length ds + decimal_value ds ≡ y * 10 ^ length ds + decimal_value es = e ∙ ap (λ w. y * w + decimal_value es) worth in
    let places = same_from_place x (decimal_value ds) y (decimal_value es) (10 ^ length ds) (sum_small ds hd.1) small sums in
    rw (places.0, digits_same ds es hd.1 ge.1 tails places.1) refl

same_digits : (w m x y : ℕ) (n : ℤ) → 0 < w → decimal_of (map unsigned_of (pieces w (low_bits (w * m) x))) ≡ Some n → decimal_of (map unsigned_of (pieces w (low_bits (w * m) y))) ≡ Some n → low_bits (w * m) x ≡ low_bits (w * m) y
same_digits w m x y n h e f =
    let ex = groups_say w m x n h e in
    let fy = groups_say w m y n h f in
    low_from_groups w m x y (digits_same (groups w m x) (groups w m y) ex.0 fy.0 (length-groups w m x ∙ sym (length-groups w m y)) (ap nat_abs (ex.1 ∙ sym fy.1)))

pub same_pattern : (e : Encoding) (k x y : ℕ) (n : ℤ) → 1 ≤ k → k % digit_bits e ≡ 0 → x < 2 ^ k → y < 2 ^ k → NotZero n → number_by e (low_bits k x) ≡ Some n → number_by e (low_bits k y) ≡ Some n → low_bits k x ≡ low_bits k y
same_pattern Unsigned k x y n l d h g ne e f = ap (low_bits k) (ap nat_abs (unsigned_says k x n h e ∙ sym (unsigned_says k y n g f)))
same_pattern TwosComplement k x y n l d h g ne e f =
    let half = halves k l in
    ap (low_bits k) (elim (twos_says k x n l h e) as (λ s. x ≡ y) [
      | inl s ↦ elim (twos_says k y n l g f) as (λ t. x ≡ y) [
        | inl t ↦ omega (arith, ints, s.0, s.1, t.0, t.1)
        | inr t ↦ absurd (ne (omega (arith, ints, s.0, s.1, t.0, t.1)))
      ]
      | inr s ↦ elim (twos_says k y n l g f) as (λ t. x ≡ y) [
        | inl t ↦ absurd (ne (omega (arith, ints, s.0, s.1, t.0, t.1)))
        | inr t ↦ omega (arith, ints, s.0, s.1, t.0, t.1)
      ]
    ])
same_pattern SignMagnitude k x y n l d h g ne e f =
    let half = halves k l in
    ap (low_bits k) (elim (magnitude_says k x n l h e) as (λ s. x ≡ y) [
      | inl s ↦ elim (magnitude_says k y n l g f) as (λ t. x ≡ y) [
        | inl t ↦ omega (arith, ints, s.0, s.1, t.0, t.1)
        | inr t ↦ absurd (ne (omega (arith, ints, s.0, s.1, t.0, t.1)))
      ]
      | inr s ↦ elim (magnitude_says k y n l g f) as (λ t. x ≡ y) [
        | inl t ↦ absurd (ne (omega (arith, ints, s.0, s.1, t.0, t.1)))
        | inr t ↦ omega (arith, ints, s.0, s.1, t.0, t.1)
      ]
    ])
same_pattern OnesComplement k x y n l d h g ne e f =
    let half = halves k l in
    ap (low_bits k) (elim (ones_says k x n l h e) as (λ s. x ≡ y) [
      | inl s ↦ elim (ones_says k y n l g f) as (λ t. x ≡ y) [
        | inl t ↦ omega (arith, ints, s.0, s.1, t.0, t.1)
        | inr t ↦ absurd (ne (omega (arith, ints, s.0, s.1, t.0, t.1)))
      ]
      | inr s ↦ elim (ones_says k y n l g f) as (λ t. x ≡ y) [
        | inl t ↦ absurd (ne (omega (arith, ints, s.0, s.1, t.0, t.1)))
        | inr t ↦ omega (arith, ints, s.0, s.1, t.0, t.1)
      ]
    ])
same_pattern PackedBcd k x y n l d h g ne e f =
    let whole : k ≡ 4 * (k / 4) = omega arith in
    let said : (z : ℕ) → number_by PackedBcd (low_bits k z) ≡ Some n → decimal_of (map unsigned_of (pieces 4 (low_bits (4 * (k / 4)) z))) ≡ Some n = λ z p. subst (λ j. number_by PackedBcd (low_bits j z) ≡ Some n) whole p in
    subst (λ j. low_bits j x ≡ low_bits j y) (sym whole) (same_digits 4 (k / 4) x y n (omega arith) (said x e) (said y f))
same_pattern Bcd k x y n l d h g ne e f =
    let whole : k ≡ 8 * (k / 8) = omega arith in
    let said : (z : ℕ) → number_by Bcd (low_bits k z) ≡ Some n → decimal_of (map unsigned_of (pieces 8 (low_bits (8 * (k / 8)) z))) ≡ Some n = λ z p. subst (λ j. number_by Bcd (low_bits j z) ≡ Some n) whole p in
    subst (λ j. low_bits j x ≡ low_bits j y) (sym whole) (same_digits 8 (k / 8) x y n (omega arith) (said x e) (said y f))

-- ---- each of the encoding's numbers has a pattern

-- the bits of the number raw are written for n
pub record IsWritten (e : Encoding) (k : ℕ) (n : ℤ) (raw : ℕ) : Type 0 where
  pub small : raw < 2 ^ k
  pub number : number_by e (low_bits k raw) ≡ Some n
  pub zero : n ≡ pos 0 → raw ≡ 0

written_digits : (w m : ℕ) (n : ℤ) → 4 ≤ w → pos 0 ≤ℤ n → n ≤ℤ pos (10 ^ m - 1) → decimal_of (map unsigned_of (pieces w (low_bits (w * m) (packed w m (nat_abs n))))) ≡ Some n
written_digits w m n h from to = packed_number w m (nat_abs n) h (omega (arith, ints, ten_pos m)) ∙ ap Some (omega (arith, ints))

pub written : (e : Encoding) (k : ℕ) (n : ℤ) → 1 ≤ k → k % digit_bits e ≡ 0 → IsAmong e k n → (raw : ℕ) × IsWritten e k n raw
written Unsigned k (pos u) l d a =
    let small : u < 2 ^ k = omega (arith, ints, pow_pos k, a.to_greatest) in
    (u, record { small = small; number = unsigned_pattern k u (pos u) small refl; zero = λ z. ap nat_abs z })
written Unsigned k (negsuc u) l d a = absurd (omega (arith, ints, a.from_least))
written TwosComplement k (pos u) l d a =
    let half = halves k l in
    let below : u < 2 ^ (k - 1) = omega (arith, ints, pow_pos (k - 1), a.to_greatest) in
    (u, record { small = omega arith; number = twos_positive k u (pos u) l below refl; zero = λ z. ap nat_abs z })
written TwosComplement k (negsuc u) l d a =
    let half = halves k l in
    let raw : ℕ = 2 ^ k - suc u in
    let least : suc u ≤ 2 ^ (k - 1) = omega (arith, ints, a.from_least) in
    let small : raw < 2 ^ k = omega (arith, ints, pow_pos (k - 1), a.from_least) in
    (raw, record { small = small; number = twos_negative k raw (negsuc u) l (omega (arith, ints, pow_pos (k - 1), a.from_least)) small (omega (arith, ints, pow_pos (k - 1), a.from_least)); zero = λ z. absurd cc })
written SignMagnitude k (pos u) l d a =
    let half = halves k l in
    let below : u < 2 ^ (k - 1) = omega (arith, ints, pow_pos (k - 1), a.to_greatest) in
    (u, record { small = omega arith; number = magnitude_positive k u (pos u) l below refl; zero = λ z. ap nat_abs z })
written SignMagnitude k (negsuc u) l d a =
    let half = halves k l in
    let raw : ℕ = 2 ^ (k - 1) + suc u in
    let least : suc u ≤ 2 ^ (k - 1) = omega (arith, ints, a.from_least) in
    let small : raw < 2 ^ k = omega (arith, ints, pow_pos (k - 1), a.from_least) in
    (raw, record { small = small; number = magnitude_negative k raw (negsuc u) l (omega (arith, ints, pow_pos (k - 1), a.from_least)) small (omega (arith, ints, pow_pos (k - 1), a.from_least)); zero = λ z. absurd cc })
written OnesComplement k (pos u) l d a =
    let half = halves k l in
    let below : u < 2 ^ (k - 1) = omega (arith, ints, pow_pos (k - 1), a.to_greatest) in
    (u, record { small = omega arith; number = ones_positive k u (pos u) l below refl; zero = λ z. ap nat_abs z })
written OnesComplement k (negsuc u) l d a =
    let half = halves k l in
    let raw : ℕ = 2 ^ k - 1 - suc u in
    let least : suc u ≤ 2 ^ (k - 1) = omega (arith, ints, a.from_least) in
    let small : raw < 2 ^ k = omega (arith, ints, pow_pos (k - 1), a.from_least) in
    (raw, record { small = small; number = ones_negative k raw (negsuc u) l (omega (arith, ints, pow_pos (k - 1), a.from_least)) small (omega (arith, ints, pow_pos (k - 1), a.from_least)); zero = λ z. absurd cc })
written PackedBcd k n l d a =
    let whole : k ≡ 4 * (k / 4) = omega arith in
    let raw = packed 4 (k / 4) (nat_abs n) in (
      raw,
      record {
        small = subst (λ j. raw < 2 ^ j) (sym whole) (packed-lt 4 (k / 4) (nat_abs n) (omega arith));
        number = subst (λ j. number_by PackedBcd (low_bits j raw) ≡ Some n) (sym whole) (written_digits 4 (k / 4) n (omega arith) a.from_least a.to_greatest);
        zero = λ z. ap (λ v. packed 4 (k / 4) (nat_abs v)) z ∙ packed_zero 4 (k / 4);
      },
    )
written Bcd k n l d a =
    let whole : k ≡ 8 * (k / 8) = omega arith in
    let raw = packed 8 (k / 8) (nat_abs n) in (
      raw,
      record {
        small = subst (λ j. raw < 2 ^ j) (sym whole) (packed-lt 8 (k / 8) (nat_abs n) (omega arith));
        number = subst (λ j. number_by Bcd (low_bits j raw) ≡ Some n) (sym whole) (written_digits 8 (k / 8) n (omega arith) a.from_least a.to_greatest);
        zero = λ z. ap (λ v. packed 8 (k / 8) (nat_abs v)) z ∙ packed_zero 8 (k / 8);
      },
    )

-- ---- patterns of no number

bad_from : (ds : List ℕ) → are_digits ds ≡ false → HasOne (λ d. 9 < d) ds
bad_from [] e = absurd cc
bad_from (d ∷ ds) e = go (nat_le d 9) refl e (bad_from ds)
  where
    go : (b : Bool) → nat_le d 9 ≡ b → (b && are_digits ds) ≡ false → (are_digits ds ≡ false → HasOne (λ d. 9 < d) ds) → (9 < d) ⊎ HasOne (λ d. 9 < d) ds
    go true t e rest = inr (rest e)
    go false t e rest = inl (leb-false d 9 t)

bad_to : (ds : List ℕ) → HasOne (λ d. 9 < d) ds → are_digits ds ≡ false
bad_to [] h = absurd h
bad_to (d ∷ ds) h = elim h as (λ s. (nat_le d 9 && are_digits ds) ≡ false) [
  | inl big ↦ ap (λ b. b && are_digits ds) (lt-leb d 9 big)
  | inr rest ↦ ap (λ b. nat_le d 9 && b) (bad_to ds rest) ∙ and-false (nat_le d 9)
]

no_decimal : (ds : List ℕ) → IsNone (decimal_of ds) ↔ HasOne (λ d. 9 < d) ds
no_decimal ds = (λ n. bad_from ds (from (are_digits ds) n), λ h. ap (λ b. is_some (cond b (Some (pos (decimal_value ds))) None)) (bad_to ds h))
  where
    from : (b : Bool) → is_some (cond b (Some (pos (decimal_value ds))) None) ≡ false → b ≡ false
    from true e = absurd cc
    from false e = refl

-- a pattern has no number exactly where a digit is above 9
pub no_number : (e : Encoding) (bs : Bits) → IsNone (number_by e bs) ↔ HasOne (λ d. 9 < d) (digits_by e bs)
no_number Unsigned bs = (λ e. absurd cc, λ h. absurd h)
no_number TwosComplement bs = (λ e. absurd cc, λ h. absurd h)
no_number SignMagnitude bs = (λ e. absurd cc, λ h. absurd h)
no_number OnesComplement bs = (λ e. absurd cc, λ h. absurd h)
no_number PackedBcd bs = no_decimal (digits_by PackedBcd bs)
no_number Bcd bs = no_decimal (digits_by Bcd bs)

-- ---- the size of the numbers

-- the least and the greatest number are in order, from -2^63 to below 2^64
pub record AreSmall (low high : ℤ) : Type 0 where
  pub in_order : low ≤ℤ high
  pub least : neg_ℤ (pos (2 ^ 63)) ≤ℤ low
  pub greatest : high <ℤ pos (2 ^ 64)

signed_small : (k : ℕ) → 1 ≤ k → k ≤ 64 → 2 ^ (k - 1) ≤ 2 ^ 63
signed_small k l f = let below : k - 1 ≤ 63 = omega arith in pow-le-pow_right (omega arith) below

decimal_small : (m : ℕ) → m ≤ 16 → AreSmall (pos 0) (pos (10 ^ m - 1))
decimal_small m f =
    let most = tens m f in
    record { in_order = omega (arith, ints); least = omega (arith, ints); greatest = omega (arith, ints) }

pub are_small : (e : Encoding) (k : ℕ) → 1 ≤ k → k ≤ 64 → AreSmall (least_by e k) (greatest_by e k)
are_small Unsigned k l f =
    let most : 2 ^ k ≤ 2 ^ 64 = pow-le-pow_right (omega arith) f in
    record { in_order = omega (arith, ints); least = omega (arith, ints); greatest = omega (arith, ints, pow_pos k) }
are_small TwosComplement k l f =
    let most = signed_small k l f in
    record { in_order = omega (arith, ints, pow_pos (k - 1)); least = omega (arith, ints); greatest = omega (arith, ints) }
are_small SignMagnitude k l f =
    let most = signed_small k l f in
    record { in_order = omega (arith, ints); least = omega (arith, ints); greatest = omega (arith, ints) }
are_small OnesComplement k l f =
    let most = signed_small k l f in
    record { in_order = omega (arith, ints); least = omega (arith, ints); greatest = omega (arith, ints) }
are_small PackedBcd k l f = decimal_small (k / 4) (omega arith)
are_small Bcd k l f = decimal_small (k / 8) (omega arith)
