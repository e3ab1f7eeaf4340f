use Rattle.std.proofs.Common.{◌≡◌, drop}
use Rattle.eds_plan.specs.Interfaces.{type_named}
use Rattle.eds_host.proofs.wiring.type_named.Given as goal

abbrev pub invariant-loop-field : goal.invariant-loop-field
invariant-loop-field l = type_named (drop l.field-index l.field-items) l.name ≡ type_named l.map l.name
