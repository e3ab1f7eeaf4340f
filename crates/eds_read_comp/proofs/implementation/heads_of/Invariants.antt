use Rattle.std.proofs.Common.{◌≡◌, ◌++◌, map, drop}
use Rattle.eds_read_comp.specs.Implementations.{head_at}
use Rattle.eds_read_comp.proofs.implementation.heads_of.Given as goal

abbrev pub invariant-loop-node : goal.invariant-loop-node
invariant-loop-node l = l.heads.items ++ map (head_at l.file.tree.now l.file.space.now l.file.file) (drop l.node-index l.node-items) ≡ map (head_at l.file.tree.now l.file.space.now l.file.file) l.node-items
