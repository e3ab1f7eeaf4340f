use Rattle.std.proofs.Common.{◌≡◌, ◌++◌, map, drop}
use Rattle.eds_constraints.specs.Lefts.{path_of}
use Rattle.eds_constraints.proofs.left.own_paths.Given as goal

abbrev pub invariant-loop-one : goal.invariant-loop-one
invariant-loop-one l = l.paths.items ++ map path_of (drop l.one-index l.asked) ≡ map path_of l.asked
