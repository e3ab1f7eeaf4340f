use Rattle.std.proofs.Common.{arith}
use Rattle.eds_tree.proofs.Least.{least-next}
use Rattle.eds_read_act.specs.MachineBreaks.{state_breaks}
use Rattle.eds_read_act.specs.Scopes.{scope_of}
use Rattle.eds_read_act.proofs.machine.least_over_states.Goals as goal

pub loop-state-preserved : goal.loop-state-preserved
loop-state-preserved c =
    least-next (state_breaks c.args.file (scope_of c.args.scope.now)) c.args.states.now c.loop-state.state-index _ c.loop-state.found c.in_ok-here.here c.first-found.result _ (omega arith)
    c.in_ok-here.ensures c.first-found.ensures.first c.loop-state.invariant
