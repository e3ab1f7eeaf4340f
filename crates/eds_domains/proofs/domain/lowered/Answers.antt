use Rattle.std.proofs.Common.{rules, sym}
use Rattle.eds_domains.proofs.EndFacts.{lowered_beyond}
use Rattle.eds_domains.proofs.domain.lowered.Goals as goal

pub returns-in-Exclusive-clause-admits : goal.returns-in-Exclusive-clause-admits
returns-in-Exclusive-clause-admits c n bottom =
    lowered_beyond c.args.end c.args.high c.in-Exclusive.n c.saturating_sub.result c.min-in-Exclusive.result n c.ranges.high (search rules) (sym c.in-Exclusive.is) c.saturating_sub.ensures c.min-in-Exclusive.ensures.value bottom
