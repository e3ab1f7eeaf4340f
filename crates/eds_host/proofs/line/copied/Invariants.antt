use Rattle.std.proofs.Common.{◌≡◌, ◌++◌, drop, map}
use Rattle.eds_types.specs.Plain.{plain}
use Rattle.eds_host.proofs.line.copied.Given as goal

abbrev pub invariant-loop-value : goal.invariant-loop-value
invariant-loop-value l = map plain l.arguments ++ map plain (drop l.value-index l.value-items) ≡ map plain l.p.arguments
