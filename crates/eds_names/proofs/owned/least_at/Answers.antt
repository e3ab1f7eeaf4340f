use Rattle.std.proofs.Common.{refl, arith}
use Rattle.eds_names.specs.Repeats.{repeats_by, holding_of}
use Rattle.eds_names.proofs.RepeatsLemmas.{least-next_item}
use Rattle.eds_names.proofs.owned.least_at.Goals as goal

pub loop-ownership-preserved : goal.loop-ownership-preserved
loop-ownership-preserved c =
    least-next_item (repeats_by c.args.tree.now c.args.file c.args.standing.node) holding_of c.ownerships-ownership-items.result.now c.loop-ownership.ownership-index _ _ c.loop-ownership.found c.in_ok-here.here c.first-found.result _
    (omega arith) refl c.in_ok-here.ensures c.first-found.ensures.first c.loop-ownership.invariant
