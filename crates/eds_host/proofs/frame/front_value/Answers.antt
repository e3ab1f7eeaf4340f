use Rattle.std.proofs.Common.{arith}
use Rattle.eds_bits.proofs.OctetLaws.{length-bits_of}
use Rattle.eds_host.proofs.frame.front_value.Goals as goal

pub unpack_by-requires-clause-most : goal.unpack_by-requires-clause-most
unpack_by-requires-clause-most c = rw c.new.ensures (omega (arith, c.requires.most, length-bits_of c.args.octets.now))
