use Rattle.std.proofs.Common.{◌+◌, refl, ◌∙◌, ap}
use Rattle.eds_types.specs.LeastSize.{next_sizes}
use Rattle.eds_types.proofs.LeastSizes.{sizes_begin, sizes_go_on}
use Rattle.eds_types.proofs.sizes.sizes_of.Goals as goal

pub loop-init : goal.loop-init
loop-init c = c.from_vec-sizes.ensures ∙ c.in_ok-vec.ensures.items_if_clones_equal (λ y h. h) ∙ sizes_begin c.args.rows.now

pub loop-preserved : goal.loop-preserved
loop-preserved c = sizes_go_on c.args.rows.now c.loop.counter (c.loop.counter + 1) c.loop.sizes c.in_ok-next.next refl c.loop.invariant (c.in_ok-next.ensures ∙ ap (next_sizes c.args.rows.now) c.as_slice.ensures)
