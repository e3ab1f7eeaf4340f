use Rattle.std.proofs.Common.{rules, sym}
use Rattle.eds_domains.proofs.EndFacts.{raised_beyond}
use Rattle.eds_domains.proofs.domain.raised.Goals as goal

pub returns-in-Exclusive-clause-admits : goal.returns-in-Exclusive-clause-admits
returns-in-Exclusive-clause-admits c n top =
    raised_beyond c.args.end c.args.low c.in-Exclusive.n c.saturating_add.result c.max-in-Exclusive.result n c.ranges.low (search rules) (sym c.in-Exclusive.is) c.saturating_add.ensures c.max-in-Exclusive.ensures.value top
