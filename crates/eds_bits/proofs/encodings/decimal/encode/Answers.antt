use Rattle.std.proofs.Common.{◌≡◌, ◌+◌, ◌*◌, ◌≤◌, ◌∙◌, ap, arith, Some, nat_abs}
use Rattle.std.proofs.lemmas.Int.{ints, to_z-of_z}
use Rattle.std.proofs.Math.Nat.{mul-le-mul_left}
use Rattle.eds_bits.proofs.Decimals.{few_digits, tens, ten_pos, packed, wrote_more, packed-lt, packed_number, packed_zero}
use Rattle.eds_bits.proofs.encodings.decimal.encode.Goals as goal

pub overflow_cast-left : goal.overflow_cast-left
overflow_cast-left c =
    let most = tens c.args.digits (few_digits c.args.digit_bits c.args.digits c.requires.wide c.requires.few) in
    grind (arith, ints)

pub loop-i-preserved : goal.loop-i-preserved
loop-i-preserved c =
    let next : c.args.digit_bits * (c.loop-i.i + 1) ≤ c.args.digit_bits * c.args.digits = mul-le-mul_left c.args.digit_bits (omega arith) in
    wrote_more c.args.digit_bits _ c.loop-i.i c.loop-i.raw c.loop-i.left c.requires.wide (omega arith) c.loop-i.invariant

raw_is : (c : goal.After-loop-i) → c.loop-i.raw ≡ packed c.args.digit_bits c.args.digits (nat_abs c.args.n)
raw_is c =
    let done : c.loop-i.i ≡ c.args.digits = omega arith in
    let fits = c.ranges.n in
    (rw (done, to_z-of_z) at c.loop-i.invariant.raw_is)

pub returns-clause-small : goal.returns-clause-small
returns-clause-small c = rw (raw_is c) (packed-lt c.args.digit_bits c.args.digits (nat_abs c.args.n) c.requires.wide)

pub returns-clause-number : goal.returns-clause-number
returns-clause-number c =
    rw (raw_is c) (packed_number c.args.digit_bits c.args.digits (nat_abs c.args.n) c.requires.wide (omega (arith, ints, ten_pos c.args.digits)) ∙ ap Some (omega (arith, ints)))

pub returns-clause-zero : goal.returns-clause-zero
returns-clause-zero c z = raw_is c ∙ ap (packed c.args.digit_bits c.args.digits) (ap nat_abs z) ∙ packed_zero c.args.digit_bits c.args.digits
