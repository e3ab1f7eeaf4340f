use Rattle.std.proofs.Common.{map, ap, ◌∙◌}
use Rattle.eds_types.specs.Rows.{id_of, chain}
use Rattle.eds_read_act.proofs.EntryNames.{among-entries, among-trailers}
use Rattle.eds_read_act.proofs.entry_names.NamedTable.first_named.Goals as goal

pub returns-in-Some : goal.returns-in-Some
returns-in-Some c = among-entries c.args.self.now c.args.name.now c.args.id c.as_slice.result.now _ (c.as_slice.ensures.value ∙ c.chain_of-chain.ensures ∙ ap (λ t. map id_of (chain t c.args.id.0)) c.self.view_is) c.in-Some.ensures

pub returns-in-None : goal.returns-in-None
returns-in-None c =
    among-trailers c.args.self.now c.args.name.now c.args.id c.as_slice.result.now c.as_slice-in-None.result.now _ (c.as_slice.ensures.value ∙ c.chain_of-chain.ensures ∙ ap (λ t. map id_of (chain t c.args.id.0)) c.self.view_is)
    (c.as_slice-in-None.ensures.value ∙ c.chain_of-chain.ensures ∙ ap (λ t. map id_of (chain t c.args.id.0)) c.self.view_is) c.in-None.ensures c.first_trailer.ensures
