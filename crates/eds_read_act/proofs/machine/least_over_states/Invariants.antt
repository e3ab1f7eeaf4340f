use Rattle.std.proofs.Common.{◌≡◌, drop}
use Rattle.std.specs.List.{flat_map}
use Rattle.eds_base.specs.Refusals.{least, first_of}
use Rattle.eds_read_act.specs.MachineBreaks.{state_breaks}
use Rattle.eds_read_act.specs.Scopes.{scope_of}
use Rattle.eds_read_act.proofs.machine.least_over_states.Given as goal

abbrev pub invariant-loop-state : goal.invariant-loop-state
invariant-loop-state l = first_of l.found (least (flat_map (state_breaks l.file (scope_of l.scope)) (drop l.state-index l.states))) ≡ least (flat_map (state_breaks l.file (scope_of l.scope)) l.states)
