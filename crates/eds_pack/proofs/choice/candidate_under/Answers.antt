use Rattle.std.proofs.Common.{◌∙◌}
use Rattle.eds_types.proofs.Candidates.{candidate_is_first}
use Rattle.eds_pack.specs.Seeking.{fields_of}
use Rattle.eds_pack.proofs.choice.candidate_under.Goals as goal

pub returns : goal.returns
returns c = c.first_candidate.ensures ∙ candidate_is_first c.args.fields.now.table.now c.args.fields.now.own.0 (fields_of c.args.fields.now.table.now c.args.fields.now.own.0 c.args.fields.now.values.now) c.family_of.result.now c.family_of.ensures
