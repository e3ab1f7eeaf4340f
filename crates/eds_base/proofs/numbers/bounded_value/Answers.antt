use Rattle.std.proofs.Common.{sym, arith}
use Rattle.eds_base.proofs.Digits.{past-limit}
use Rattle.eds_base.proofs.numbers.bounded_value.Goals as goal

pub returns-then-value-gt-LIMIT-clause-value : goal.returns-then-value-gt-LIMIT-clause-value
returns-then-value-gt-LIMIT-clause-value c =
    sym (past-limit c.loop-digit.value c.saturating_sub.result c.args.digits.now c.loop-digit.digit-index _ (omega arith) c.saturating_sub.ensures c.if-value-gt-LIMIT.true c.loop-digit.invariant.same)
