use Rattle.std.proofs.Common.{◌≡◌, ◌++◌, drop, map}
use Rattle.std.specs.Vec.Iter.{into_iter_items}
use Rattle.eds_snap.specs.Readings.{states_told}
use Rattle.eds_snap.specs.Seen.{told_now}
use Rattle.eds_snap.proofs.snap.finished_states.Given as goal

abbrev pub invariant-loop-component : goal.invariant-loop-component
invariant-loop-component l = l.states ++ states_told l.now (drop l.component-index l.plan) (map told_now (into_iter_items l.each)) ≡ states_told l.now l.plan (map told_now l.fn.told.items)
