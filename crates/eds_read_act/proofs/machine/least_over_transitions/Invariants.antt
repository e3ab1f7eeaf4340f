use Rattle.std.proofs.Common.{◌≡◌, drop}
use Rattle.std.specs.List.{flat_map}
use Rattle.eds_base.specs.Refusals.{least, first_of}
use Rattle.eds_read_act.specs.MachineBreaks.{transition_breaks}
use Rattle.eds_read_act.specs.Scopes.{scope_of}
use Rattle.eds_read_act.proofs.machine.least_over_transitions.Given as goal

abbrev pub invariant-loop-transition : goal.invariant-loop-transition
invariant-loop-transition l = first_of l.found (least (flat_map (transition_breaks l.file (scope_of l.scope) l.states.machine) (drop l.transition-index l.transitions))) ≡ least (flat_map (transition_breaks l.file (scope_of l.scope) l.states.machine) l.transitions)
