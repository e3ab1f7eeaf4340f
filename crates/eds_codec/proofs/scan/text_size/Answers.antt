use Rattle.std.proofs.Common.{arith}
use Rattle.eds_bits.proofs.TextLaws.{before_is}
use Rattle.eds_codec.proofs.Blocks.{first_place}
use Rattle.eds_codec.proofs.scan.text_size.Goals as goal

pub returns-clause-value : goal.returns-clause-value
returns-clause-value c = first_place c.args.stop c.args.octets.now c.memchr.result c.unwrap_or.result c.memchr.ensures c.unwrap_or.ensures

pub returns-clause-bound : goal.returns-clause-bound
returns-clause-bound c = omega (arith, first_place c.args.stop c.args.octets.now c.memchr.result c.unwrap_or.result c.memchr.ensures c.unwrap_or.ensures, (before_is c.args.stop c.args.octets.now).short)
