use Rattle.std.proofs.Common.{◌≡◌, ◌++◌, map, drop}
use Rattle.eds_graph.specs.Reaching.{mark}
use Rattle.eds_nesting.proofs.endless.marked.Given as goal

abbrev pub invariant-loop-name : goal.invariant-loop-name
invariant-loop-name l = l.marked.items ++ map (mark l.marks) (drop l.name-index l.families) ≡ map (mark l.marks) l.families
