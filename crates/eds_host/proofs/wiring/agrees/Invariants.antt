use Rattle.std.proofs.Common.{◌≡◌, drop}
use Rattle.eds_plan.specs.Interfaces.{agrees}
use Rattle.eds_host.proofs.wiring.agrees.Given as goal

abbrev pub invariant-loop-field : goal.invariant-loop-field
invariant-loop-field l = agrees l.one l.other (drop l.field-index l.field-items) ≡ agrees l.one l.other l.names
