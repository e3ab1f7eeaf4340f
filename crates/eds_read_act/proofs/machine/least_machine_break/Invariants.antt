use Rattle.std.proofs.Common.{◌≡◌, drop}
use Rattle.std.specs.List.{flat_map}
use Rattle.eds_base.specs.Refusals.{least, first_of}
use Rattle.eds_read_act.specs.MachineBreaks.{machine_breaks_at}
use Rattle.eds_read_act.specs.Scopes.{scope_of}
use Rattle.eds_read_act.proofs.machine.least_machine_break.Given as goal

abbrev pub invariant-loop-machine : goal.invariant-loop-machine
invariant-loop-machine l = first_of l.found (least (flat_map (machine_breaks_at l.file (scope_of l.scope)) (drop l.machine-index l.nodes))) ≡ least (flat_map (machine_breaks_at l.file (scope_of l.scope)) l.nodes)
