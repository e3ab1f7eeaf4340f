use Rattle.eds_types.specs.LeastSize.{capped, size_in, least_own}
use Rattle.eds_types.proofs.LeastSizes.{range_put}
use Rattle.eds_types.proofs.sizes.own_sizes.Goals as goal

pub loop-id-preserved : goal.loop-id-preserved
loop-id-preserved c =
    range_put (λ y. capped (least_own c.args.rows.now (size_in c.args.sizes.now) y)) c.loop-id.id c.own_size.result c.loop-id.own c.push.new.self
    c.loop-id.invariant c.in_ok-push.ensures.ok c.own_size.ensures
