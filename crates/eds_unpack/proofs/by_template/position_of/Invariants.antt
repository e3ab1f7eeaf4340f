use Rattle.std.proofs.Common.{take}
use Rattle.std.specs.List.{AllByRecursion}
use Rattle.eds_unpack.proofs.Templates.{IsElsewhere}
use Rattle.eds_unpack.proofs.by_template.position_of.Given as goal

abbrev pub invariant-loop-index : goal.invariant-loop-index
invariant-loop-index l = AllByRecursion (IsElsewhere l.step) (take l.index l.places)
