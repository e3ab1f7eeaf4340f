use Rattle.std.proofs.Common.{◌≡◌, drop}
use Rattle.std.specs.List.{flat_map}
use Rattle.eds_base.specs.Refusals.{least, first_of}
use Rattle.eds_read_act.specs.Activities.{mismatches_in}
use Rattle.eds_read_act.specs.Scopes.{scope_of}
use Rattle.eds_read_act.proofs.machine.mismatches_over.Given as goal

abbrev pub invariant-loop-node : goal.invariant-loop-node
invariant-loop-node l = first_of l.found (least (flat_map (mismatches_in l.file (scope_of l.scope)) (drop l.node-index l.nodes))) ≡ least (flat_map (mismatches_in l.file (scope_of l.scope)) l.nodes)
