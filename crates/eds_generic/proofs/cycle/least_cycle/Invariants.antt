use Rattle.std.proofs.Common.{◌≡◌, drop}
use Rattle.eds_base.specs.Refusals.{first_of, least}
use Rattle.eds_generic.specs.Cycles.{cycles_from}
use Rattle.eds_generic.proofs.cycle.least_cycle.Given as goal

abbrev pub invariant-loop-id : goal.invariant-loop-id
invariant-loop-id l = first_of l.found (least (cycles_from l.faces l.start l.id (drop l.id l.faces))) ≡ least (cycles_from l.faces l.start 0 l.faces)
