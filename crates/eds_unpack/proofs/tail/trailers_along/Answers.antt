use Rattle.std.proofs.Common.{◌∙◌, ap}
use Rattle.eds_unpack.specs.Tails.{limited}
use Rattle.eds_unpack.proofs.Tails.{trailers_are_sized}
use Rattle.eds_unpack.proofs.tail.trailers_along.Goals as goal

pub returns : goal.returns
returns c = c.trailers_size.ensures ∙ ap limited (trailers_are_sized c.args.table.now c.args.id.0 c.as_slice.result.now (c.as_slice.ensures.value ∙ c.chain_of-chain.ensures))
