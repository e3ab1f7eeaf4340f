use Rattle.std.proofs.Common.{◌≡◌, ◌++◌, drop, map}
use Rattle.eds_host.specs.Hosts.{asked_by}
use Rattle.eds_host.proofs.host.asked_ends.Given as goal

abbrev pub invariant-loop-wire : goal.invariant-loop-wire
invariant-loop-wire l = l.asked ++ map (asked_by l.plan) (drop l.wire-index l.wire-items) ≡ map (asked_by l.plan) l.wires
