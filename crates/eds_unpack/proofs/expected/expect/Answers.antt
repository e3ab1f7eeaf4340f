use Rattle.std.proofs.Common.{ap, Ok, Err, cond, true, false}
use Rattle.eds_types.specs.Failing.{fault_here}
use Rattle.eds_types.specs.Plain.{plain}
use Rattle.eds_unpack.proofs.Sames.{same_by}
use Rattle.eds_unpack.proofs.expected.expect.Goals as goal

pub returns-then-is-clause-gives : goal.returns-then-is-clause-gives
returns-then-is-clause-gives c = ap (λ b. cond b (Ok tt) (Err (fault_here c.args.reason))) (same_by (plain c.args.value.now) (plain c.args.wanted.now) true c.if-is.ensures)

pub returns-else-is-clause-gives : goal.returns-else-is-clause-gives
returns-else-is-clause-gives c = ap (λ b. cond b (Ok tt) (Err (fault_here c.args.reason))) (same_by (plain c.args.value.now) (plain c.args.wanted.now) false c.if-is.ensures)
