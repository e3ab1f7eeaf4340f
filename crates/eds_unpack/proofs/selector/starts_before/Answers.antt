use Rattle.std.proofs.Common.{◌∙◌}
use Rattle.eds_types.specs.Rows.{chain}
use Rattle.eds_types.proofs.Candidates.{numbers_are}
use Rattle.eds_unpack.proofs.selector.starts_before.Goals as goal

pub starts_above-requires : goal.starts_above-requires
starts_above-requires c = numbers_are c.as_slice.result.now (chain c.args.table.now c.args.id.0) (c.as_slice.ensures.value ∙ c.chain_of-chain.ensures)
