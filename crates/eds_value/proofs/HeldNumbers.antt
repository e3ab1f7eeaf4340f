-- The numbers of integer forms are such that JSON holds.
use Rattle.std.proofs.Common.{ℕ, ◌-◌, ◌/◌, ◌^◌, ◌≤◌, ℤ, pos, ◌≤ℤ◌, arith, lit<}
use Rattle.std.specs.Prelude.{neg_ℤ}
use Rattle.std.proofs.Math.Nat.{pow-le-pow_right}
use Rattle.std.proofs.lemmas.Int.{ints}
use Rattle.eds_bits.specs.declared.forms.IntForm.{IntForm}
use Rattle.eds_bits.specs.declared.forms.Encoding.{Encoding}
use Rattle.eds_bits.specs.declared.forms.Encoding.TheVariants.{Unsigned, TwosComplement, SignMagnitude, OnesComplement, PackedBcd, Bcd}
use Rattle.eds_bits.specs.Encodings.{least_by, greatest_by}
use Rattle.eds_bits.specs.IntForms.{HasNumber}
use Rattle.eds_types.specs.Plain.{num}
use Rattle.eds_value.specs.Held.{AreHeld}

-- ---- numbers

least_held : (e : Encoding) (n : ℕ) → n ≤ 64 → neg_ℤ (pos (2 ^ 63)) ≤ℤ least_by e n
least_held Unsigned n h = record { le = tt }
least_held TwosComplement n h = let low : n - 1 ≤ 63 = omega arith in let p : 2 ^ (n - 1) ≤ 2 ^ 63 = pow-le-pow_right (lit< tt) low in omega (arith, ints)
least_held SignMagnitude n h = let low : n - 1 ≤ 63 = omega arith in let p : 2 ^ (n - 1) ≤ 2 ^ 63 = pow-le-pow_right (lit< tt) low in omega (arith, ints)
least_held OnesComplement n h = let low : n - 1 ≤ 63 = omega arith in let p : 2 ^ (n - 1) ≤ 2 ^ 63 = pow-le-pow_right (lit< tt) low in omega (arith, ints)
least_held PackedBcd n h = record { le = tt }
least_held Bcd n h = record { le = tt }

greatest_held : (e : Encoding) (n : ℕ) → n ≤ 64 → greatest_by e n ≤ℤ pos (2 ^ 64 - 1)
greatest_held Unsigned n h = let p : 2 ^ n ≤ 2 ^ 64 = pow-le-pow_right (lit< tt) h in omega (arith, ints)
greatest_held TwosComplement n h = let low : n - 1 ≤ 63 = omega arith in let p : 2 ^ (n - 1) ≤ 2 ^ 63 = pow-le-pow_right (lit< tt) low in omega (arith, ints)
greatest_held SignMagnitude n h = let low : n - 1 ≤ 63 = omega arith in let p : 2 ^ (n - 1) ≤ 2 ^ 63 = pow-le-pow_right (lit< tt) low in omega (arith, ints)
greatest_held OnesComplement n h = let low : n - 1 ≤ 63 = omega arith in let p : 2 ^ (n - 1) ≤ 2 ^ 63 = pow-le-pow_right (lit< tt) low in omega (arith, ints)
greatest_held PackedBcd n h = let low : n / 4 ≤ 16 = omega arith in let p : 10 ^ (n / 4) ≤ 10 ^ 16 = pow-le-pow_right (lit< tt) low in omega (arith, ints)
greatest_held Bcd n h = let low : n / 8 ≤ 8 = omega arith in let p : 10 ^ (n / 8) ≤ 10 ^ 8 = pow-le-pow_right (lit< tt) low in omega (arith, ints)

-- JSON holds the numbers of a form
pub number_held : (form : IntForm) (n : ℤ) → HasNumber form n → AreHeld (num n)
number_held form n h =
    let few : form.bits ≤ 64 = form.valid.few in
    let low = least_held form.encoding form.bits few in
    let high = greatest_held form.encoding form.bits few in
    let from = h.from_least in
    let to = h.to_greatest in
    (omega (arith, ints), omega (arith, ints))
