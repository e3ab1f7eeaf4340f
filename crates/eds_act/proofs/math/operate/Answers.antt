use Rattle.std.proofs.Common.{to_z-of_z, arith}
use Rattle.eds_act.proofs.Calculating.{no_operator, operator_is}
use Rattle.eds_act.proofs.math.operate.Goals as goal

pub returns-in_err-other : goal.returns-in_err-other
returns-in_err-other c = rw c.from_residual.ensures (no_operator c.args.op c.args.last c.args.numbers.now.items c.in_err-other.was (c.requires.alone c.in_err-other.was))

pub returns : goal.returns
returns c = operator_is c.args.op c.args.last c.args.numbers.now.items c.pop.new.self.items c.in_ok-one.one c.in_ok-other.other c.applied.result c.in_ok-other.was c.in_ok-one.ensures.items (grind (arith, to_z-of_z, c.applied.ensures))
