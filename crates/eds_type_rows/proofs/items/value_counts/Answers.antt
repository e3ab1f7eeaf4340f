use Rattle.std.proofs.Common.{ap, length}
use Rattle.eds_type_rows.proofs.ItemFacts.{known-none, known-next, one-longer}
use Rattle.eds_type_rows.proofs.items.value_counts.Goals as goal

pub loop-id-init : goal.loop-id-init
loop-id-init c =
    let graph = c.args.graph.now in
    (known-none graph.sheet.now.trees.now graph.sheet.now.types.now graph.bases.now _ c.new-known.ensures.items, ap length c.new-known.ensures.items)

pub loop-id-preserved : goal.loop-id-preserved
loop-id-preserved c =
    let graph = c.args.graph.now in (
      known-next graph.sheet.now.trees.now graph.sheet.now.types.now graph.bases.now c.loop-id.id c.in_ok-values.values c.loop-id.known.items c.push.new.self.items c.loop-id.invariant.1 c.in_ok-push.ensures.items c.in_ok-values.ensures c.loop-id.invariant.0,
      one-longer c.loop-id.known.items c.push.new.self.items c.in_ok-values.values c.loop-id.id c.in_ok-push.ensures.items c.loop-id.invariant.1,
    )
