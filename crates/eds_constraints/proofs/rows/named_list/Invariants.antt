use Rattle.std.proofs.Common.{◌≡◌, ◌++◌, map, drop}
use Rattle.eds_constraints.specs.Paths.{called}
use Rattle.eds_constraints.proofs.rows.named_list.Given as goal

abbrev pub invariant-loop-part : goal.invariant-loop-part
invariant-loop-part l = l.names.items ++ map called (drop l.part-index l.parts) ≡ map called l.parts
