use Rattle.std.proofs.Common.{arith}
use Rattle.eds_tree.proofs.Least.{least-next}
use Rattle.eds_read_act.specs.MachineBreaks.{machine_breaks_at}
use Rattle.eds_read_act.specs.Scopes.{scope_of}
use Rattle.eds_read_act.proofs.machine.least_machine_break.Goals as goal

pub loop-machine-preserved : goal.loop-machine-preserved
loop-machine-preserved c =
    least-next (machine_breaks_at c.args.file (scope_of c.args.scope.now)) c.args.nodes.now c.loop-machine.machine-index _ c.loop-machine.found c.in_ok-here.here c.first-found.result _ (omega arith)
    c.in_ok-here.ensures c.first-found.ensures.first c.loop-machine.invariant
