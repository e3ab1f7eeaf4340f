use Rattle.eds_bits.proofs.CheckLaws.{check_of_lt}
use Rattle.eds_bits.proofs.law.sizes_of_checks.Goals as goal

pub returns : goal.returns
returns c bits = check_of_lt c.args.kind bits
