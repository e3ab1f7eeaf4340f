use Rattle.eds_domains.proofs.DomainFacts.{domain_within}
use Rattle.eds_read_types.proofs.LawFacts.{domain_kept}
use Rattle.eds_read_types.proofs.law.domains.Goals as goal

pub returns-clause-numbers : goal.returns-clause-numbers
returns-clause-numbers c n = domain_within c.args.form c.args.range n

pub returns-clause-kept : goal.returns-clause-kept
returns-clause-kept c h = domain_kept c.args.form c.args.range h
