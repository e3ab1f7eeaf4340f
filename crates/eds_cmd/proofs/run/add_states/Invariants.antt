use Rattle.std.proofs.Common.{◌≡◌, ◌++◌, drop}
use Rattle.eds_cmd.specs.Run.{states_text}
use Rattle.eds_cmd.proofs.run.add_states.Given as goal

abbrev pub invariant-loop-i : goal.invariant-loop-i
invariant-loop-i l =
    let t = l.of.table.now in
    let plan = l.of.plan.now in
    let states = l.host.world.states in
    l.report.items ++ states_text t (drop l.i plan) (drop l.i states) ≡ l.initial.report.items ++ states_text t plan states
