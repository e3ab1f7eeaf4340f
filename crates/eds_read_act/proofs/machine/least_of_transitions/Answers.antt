use Rattle.std.proofs.Common.{◌≡◌, subst, ◌∙◌}
use Rattle.std.specs.List.{flat_map}
use Rattle.std.specs.Result.{IfOk}
use Rattle.eds_base.specs.Refusals.{least}
use Rattle.eds_read_act.specs.MachineBreaks.{transition_breaks}
use Rattle.eds_read_act.specs.Scopes.{scope_of}
use Rattle.eds_read_act.proofs.machine.least_of_transitions.Goals as goal

pub returns : goal.returns
returns c = subst (λ ns. IfOk c.least_over_transitions.result (λ r. r ≡ least (flat_map (transition_breaks c.args.file (scope_of c.args.scope.now) c.args.states.now.machine) ns))) (c.as_slice.ensures.value ∙ c.in_ok-transitions.ensures) c.least_over_transitions.ensures
