use Rattle.std.proofs.Common.{ap, arith, length}
use Rattle.eds_bits.proofs.OctetLaws.{length-bits_of}
use Rattle.eds_trials.proofs.calls.packets.frame.Goals as goal

pub returns : goal.returns
returns c =
    let e = ap length c.new.ensures in
    omega (arith, e, length-bits_of c.args.octets.now, c.requires)
