use Rattle.eds_types.proofs.Candidates.{candidate_is_first}
use Rattle.eds_unpack.proofs.choice.members_left.Goals as goal

pub returns-in-None : goal.returns-in-None
returns-in-None c = λ fs h. candidate_is_first c.args.table.now c.args.id.0 fs c.family_of.result.now c.family_of.ensures
