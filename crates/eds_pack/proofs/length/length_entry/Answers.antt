use Rattle.std.proofs.Common.{◌∙◌}
use Rattle.eds_pack.proofs.Listing.{among_entries, among_trailers}
use Rattle.eds_pack.proofs.length.length_entry.Goals as goal

pub returns-in-Some : goal.returns-in-Some
returns-in-Some c = among_entries c.args.table.now c.args.id.0 c.in-Some.entry c.as_slice.result.now (c.as_slice.ensures.value ∙ c.chain_of-chain.ensures) c.in-Some.ensures

pub returns-in-None : goal.returns-in-None
returns-in-None c = among_trailers c.args.table.now c.args.id.0 c.length_in_trailers.result c.as_slice.result.now c.as_slice-in-None.result.now (c.as_slice.ensures.value ∙ c.chain_of-chain.ensures) (c.as_slice-in-None.ensures.value ∙ c.chain_of-chain.ensures) c.in-None.ensures c.length_in_trailers.ensures
