use Rattle.eds_bits.proofs.Decimals.{ReadDigits}
use Rattle.eds_unpack.proofs.meaning.decimal_in.Given as goal

abbrev pub invariant-loop : goal.invariant-loop
invariant-loop l = ReadDigits l.digits.digit_bits l.number l.counter l.found l.worth l.left
