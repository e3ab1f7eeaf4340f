use Rattle.eds_domains.proofs.DomainFacts.{narrowed_within}
use Rattle.eds_read_types.proofs.LawFacts.{narrowed_kept, narrowed_derives}
use Rattle.eds_read_types.proofs.law.sub_ranges.Goals as goal

pub returns-clause-numbers : goal.returns-clause-numbers
returns-clause-numbers c n = narrowed_within c.args.range c.args.base.now n

pub returns-clause-kept : goal.returns-clause-kept
returns-clause-kept c d h = narrowed_kept c.args.form c.args.base.now c.args.range d h

pub returns-clause-derives : goal.returns-clause-derives
returns-clause-derives c = narrowed_derives c.args.form c.args.base.now c.args.range
