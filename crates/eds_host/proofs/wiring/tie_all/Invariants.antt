use Rattle.std.proofs.Common.{◌≡◌, drop}
use Rattle.eds_host.specs.Links.{HasTies}
use Rattle.eds_host.specs.Wires.{ties_of, ties_behind}
use Rattle.eds_host.proofs.wiring.tie_all.Given as goal

abbrev pub invariant-loop-wire : goal.invariant-loop-wire
invariant-loop-wire l = HasTies l.others l.ties.items × (ties_of l.plan l.asked ≡ ties_behind l.plan l.ties.items (drop l.wire-index l.asked))
