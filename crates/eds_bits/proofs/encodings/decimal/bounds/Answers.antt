use Rattle.std.proofs.Common.{arith}
use Rattle.std.proofs.lemmas.Int.{ints}
use Rattle.eds_bits.proofs.Decimals.{few_digits, tens, ten_pos}
use Rattle.eds_bits.proofs.encodings.decimal.bounds.Goals as goal

pub pow-requires : goal.pow-requires
pow-requires c = omega (arith, tens c.args.digits (few_digits c.args.digit_bits c.args.digits c.requires.wide c.requires.few))

pub returns-clause-greatest : goal.returns-clause-greatest
returns-clause-greatest c = omega (arith, ints, ten_pos c.args.digits)
