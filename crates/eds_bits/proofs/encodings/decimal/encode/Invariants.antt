use Rattle.std.specs.Prelude.{nat_abs}
use Rattle.eds_bits.proofs.Decimals.{WroteDigits}
use Rattle.eds_bits.proofs.encodings.decimal.encode.Given as goal

abbrev pub invariant-loop-i : goal.invariant-loop-i
invariant-loop-i l = WroteDigits l.digit_bits (nat_abs l.n) l.i l.raw l.left
