use Rattle.eds_base.specs.Spans.{bottom}
use Rattle.eds_domains.proofs.DomainFacts.{one_list}
use Rattle.eds_read_types.proofs.law.one_list.Goals as goal

pub returns : goal.returns
returns c one other r q h = one_list bottom bottom one other r q (λ n. (h n).0) (λ n. (h n).1)
