use Rattle.std.proofs.Common.{arith, length, ◌*◌}
use Rattle.eds_bits.specs.Bits.{bits_of}
use Rattle.eds_bits.proofs.OctetLaws.{length-bits_of}
use Rattle.eds_host.proofs.Framing.{whole_is, whole_trails}
use Rattle.eds_host.proofs.frame.read_frame.Goals as goal

pub whole_value-requires-clause-within : goal.whole_value-requires-clause-within
whole_value-requires-clause-within c = omega (arith, c.in-Ok.ensures.size, length-bits_of c.args.octets.now)

pub returns-in-Ok-clause-value : goal.returns-in-Ok-clause-value
returns-in-Ok-clause-value c =
    whole_is c.args.table.now c.args.id.0 c.in-Ok.value c.in-Ok.size (8 * length c.args.octets.now) (bits_of c.args.octets.now) c.in-Ok.ensures.value (omega (arith, length-bits_of c.args.octets.now)) c.whole_value.result c.whole_value.ensures.value

pub returns-in-Ok-clause-fault : goal.returns-in-Ok-clause-fault
returns-in-Ok-clause-fault c =
    whole_trails c.args.table.now c.args.id.0 c.in-Ok.value c.in-Ok.size (8 * length c.args.octets.now) (bits_of c.args.octets.now) c.in-Ok.ensures.value (omega (arith, length-bits_of c.args.octets.now)) c.whole_value.result c.whole_value.ensures.fault
