use Rattle.eds_bits.proofs.Decimals.{ReadDigits}
use Rattle.eds_bits.proofs.encodings.decimal.decode.Given as goal

abbrev pub invariant-loop : goal.invariant-loop
invariant-loop l = ReadDigits l.digit_bits l.raw l.counter l.n l.worth l.left
