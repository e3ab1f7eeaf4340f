use Rattle.std.proofs.Common.{refl, arith}
use Rattle.eds_names.specs.Repeats.{repeats_at}
use Rattle.eds_names.proofs.RepeatsLemmas.{least-next_of}
use Rattle.eds_names.proofs.owned.least_owned.Goals as goal

pub loop-standing-preserved : goal.loop-standing-preserved
loop-standing-preserved c =
    least-next_of (repeats_at c.args.tree.now c.args.file) c.args.standings.now c.loop-standing.standing-index _ _ c.loop-standing.found c.in_ok-here.here c.first-found.result _
    (omega arith) refl c.in_ok-here.ensures c.first-found.ensures.first c.loop-standing.invariant
