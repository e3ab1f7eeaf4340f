use Rattle.std.proofs.Common.{◌≡◌, ◌++◌, drop}
use Rattle.std.specs.List.{flat_map}
use Rattle.eds_read_act.specs.Scopes.{scope_of}
use Rattle.eds_read_act.specs.CallCycle.{called_at}
use Rattle.eds_read_act.proofs.call_cycle.push_called.Given as goal

abbrev pub invariant-loop-link : goal.invariant-loop-link
invariant-loop-link l = l.calls.items ++ flat_map (called_at (scope_of l.scope)) (drop l.link-index l.links) ≡ l.initial.calls.items ++ flat_map (called_at (scope_of l.scope)) l.links
