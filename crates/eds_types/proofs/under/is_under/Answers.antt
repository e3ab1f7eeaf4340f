use Rattle.std.proofs.Common.{◌∙◌, ap}
use Rattle.eds_types.specs.Rows.{chain, list_has}
use Rattle.eds_types.proofs.Candidates.{numbers_are}
use Rattle.eds_types.proofs.under.is_under.Goals as goal

pub returns : goal.returns
returns c = c.is_among.ensures ∙ ap (λ ys. list_has ys c.args.base.0) (numbers_are c.as_slice.result.now (chain c.args.table.now c.args.id.0) (c.as_slice.ensures.value ∙ c.chain_of-chain.ensures))
