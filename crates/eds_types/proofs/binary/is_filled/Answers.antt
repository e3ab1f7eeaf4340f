use Rattle.std.proofs.Common.{arith}
use Rattle.eds_types.proofs.Binaries.{not_filled}
use Rattle.eds_types.proofs.binary.is_filled.Goals as goal

pub returns-else-octets-div_ceil : goal.returns-else-octets-div_ceil
returns-else-octets-div_ceil c = not_filled c.args.bits c.args.octets.now (λ e. c.if-octets-div_ceil.false (omega (arith, c.div_ceil.ensures, e)))
