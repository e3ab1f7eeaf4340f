use Rattle.std.proofs.Common.{sym, arith}
use Rattle.std.proofs.lemmas.Int.{ints}
use Rattle.eds_bits.proofs.Patterns.{unsigned_pattern}
use Rattle.eds_bits.proofs.encodings.unsigned.decode.Goals as goal

pub returns : goal.returns
returns c = sym (unsigned_pattern c.args.bits c.args.raw _ c.requires.small (omega (arith, ints)))
