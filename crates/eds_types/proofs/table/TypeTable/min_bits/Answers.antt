use Rattle.std.proofs.Common.{◌∙◌, ap}
use Rattle.eds_types.specs.LeastSize.{size_in, least_size}
use Rattle.eds_types.proofs.LeastSizes.{size_at}
use Rattle.eds_types.proofs.table.TypeTable.min_bits.Goals as goal

pub returns : goal.returns
returns c =
    c.size_in.ensures ∙ ap (λ xs. size_in xs c.args.id.0) c.as_slice.ensures
    ∙ size_at c.self.inside.rows c.self.inside.sizes c.args.id.0 c.self.invariant.least ∙ ap (λ t. least_size t c.args.id.0) c.self.view_is
