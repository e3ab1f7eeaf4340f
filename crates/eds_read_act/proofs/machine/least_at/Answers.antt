use Rattle.std.proofs.Common.{ap, ◌∙◌}
use Rattle.eds_base.specs.Refusals.{least}
use Rattle.eds_tree.proofs.Least.{least-joined}
use Rattle.eds_read_act.specs.MachineBreaks.{state_breaks_of, transition_breaks_of}
use Rattle.eds_read_act.specs.Scopes.{scope_of}
use Rattle.eds_read_act.proofs.machine.least_at.Goals as goal

pub returns : goal.returns
returns c =
    let s = scope_of c.args.scope.now in
    let file = c.args.file in
    let told = c.in_ok-states.ensures in
    least-joined (state_breaks_of file s c.args.machine) (transition_breaks_of file s c.args.machine)
    c.in_ok-at_states.at_states c.in_ok-at_transitions.at_transitions c.first.result
    (c.in_ok-at_states.ensures ∙ ap (λ m. least (state_breaks_of file s m)) told.machine)
    (c.in_ok-at_transitions.ensures ∙ ap (λ m. least (transition_breaks_of file s m)) told.machine)
    c.first.ensures.first
