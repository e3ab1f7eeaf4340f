use Rattle.std.proofs.Common.{◌∙◌}
use Rattle.eds_overlap.proofs.Parting.{read_through}
use Rattle.eds_overlap.proofs.find.is_read_through.Goals as goal

pub returns : goal.returns
returns c = read_through c.args.table.now c.args.id.0 c.args.used.now c.as_slice.result.now c.has_used_one.result (c.as_slice.ensures.value ∙ c.chain_of-chain.ensures) c.has_used_one.ensures
