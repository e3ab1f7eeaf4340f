use Rattle.std.proofs.Common.{arith}
use Rattle.std.proofs.lemmas.Int.{ints}
use Rattle.std.proofs.lemmas.Nat.{pow_pos}
use Rattle.eds_bits.proofs.Patterns.{unsigned_pattern}
use Rattle.eds_bits.proofs.encodings.unsigned.encode.Goals as goal

pub returns-clause-number : goal.returns-clause-number
returns-clause-number c = unsigned_pattern c.args.bits _ c.args.n (omega (arith, ints, pow_pos c.args.bits)) (omega (arith, ints))
