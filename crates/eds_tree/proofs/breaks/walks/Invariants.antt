use Rattle.std.proofs.Common.{◌≡◌, ◌++◌, map, drop}
use Rattle.eds_tree.specs.Trees.{links_of}
use Rattle.eds_tree.proofs.breaks.walks.Given as goal

abbrev pub invariant-loop-tree : goal.invariant-loop-tree
invariant-loop-tree l = l.walks ++ map links_of (drop l.tree-index l.trees) ≡ map links_of l.trees
