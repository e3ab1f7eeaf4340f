use Rattle.std.proofs.Common.{◌≡◌, List, drop}
use Rattle.std.specs.List.{AllByRecursion, list_all}
use Rattle.eds_types.specs.Choices.{meets}
use Rattle.eds_types.specs.Fields.{Field}
use Rattle.eds_unpack.specs.Choices.{TellsAbove}
use Rattle.eds_unpack.proofs.choice.meets_own.Given as goal

abbrev pub invariant-loop-constraint : goal.invariant-loop-constraint
invariant-loop-constraint l = (fs : List Field) → AllByRecursion (TellsAbove l.table l.id.0 fs l.known) l.constraints → list_all (meets l.table l.id.0 fs) (drop l.constraint-index l.constraints) ≡ list_all (meets l.table l.id.0 fs) l.constraints
