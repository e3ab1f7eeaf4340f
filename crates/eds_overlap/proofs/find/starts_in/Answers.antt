use Rattle.std.proofs.Common.{◌∙◌}
use Rattle.eds_overlap.proofs.Parting.{starts_then, starts_else}
use Rattle.eds_overlap.proofs.find.starts_in.Goals as goal

pub returns-then-is_among : goal.returns-then-is_among
returns-then-is_among c =
    starts_then c.args.table.now c.args.id.0 c.as_slice.result.now c.args.path.now _ c.entries_of.result.now c.is_among.result c.in-len1-up.len_at_least (c.as_slice.ensures.value ∙ c.chain_of-chain.ensures) c.is_among.ensures c.if-is_among.true c.entries_of.ensures.value

pub returns-else-is_among : goal.returns-else-is_among
returns-else-is_among c =
    starts_else c.args.table.now c.args.id.0 c.as_slice.result.now c.args.path.now _ c.is_among.result c.in-len1-up.len_at_least (c.as_slice.ensures.value ∙ c.chain_of-chain.ensures) c.is_among.ensures c.if-is_among.false
