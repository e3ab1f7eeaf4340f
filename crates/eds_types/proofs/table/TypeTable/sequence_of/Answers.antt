use Rattle.std.proofs.Common.{◌∙◌}
use Rattle.eds_types.proofs.Places.{sequence_put}
use Rattle.eds_types.proofs.table.TypeTable.sequence_of.Goals as goal

pub returns : goal.returns
returns c =
    sequence_put c.args.self.now c.args.id.0 c.as_slice.result.now c.as_slice-2.result.now c.new-sequence.result c.push_entries.new.sequence c.push_trailers.new.sequence
    c.new-sequence.ensures (c.as_slice.ensures.value ∙ c.chain_of-chain.ensures) (c.as_slice-2.ensures.value ∙ c.chain_of-chain.ensures)
    c.in_ok-push_entries.ensures c.in_ok-push_trailers.ensures
