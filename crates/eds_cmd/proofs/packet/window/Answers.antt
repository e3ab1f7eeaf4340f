use Rattle.std.proofs.Common.{sym, arith}
use Rattle.std.proofs.lemmas.List.{length-take-le, take_all}
use Rattle.eds_cmd.proofs.packet.window.Goals as goal

pub slice_bounds-result-end : goal.slice_bounds-result-end
slice_bounds-result-end c = sym (length-take-le 65536 c.args.octets.now (omega (arith, c.if-octets-gt-PACKET_OCTETS.true)))

pub returns-else-octets-gt-PACKET_OCTETS : goal.returns-else-octets-gt-PACKET_OCTETS
returns-else-octets-gt-PACKET_OCTETS c = sym (take_all 65536 c.args.octets.now (omega (arith, c.if-octets-gt-PACKET_OCTETS.false)))
