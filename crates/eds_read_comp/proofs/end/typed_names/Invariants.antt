use Rattle.std.proofs.Common.{◌≡◌, ◌++◌, map, drop}
use Rattle.eds_read_comp.specs.Ends.{mapped_at}
use Rattle.eds_read_comp.proofs.end.typed_names.Given as goal

abbrev pub invariant-loop-node : goal.invariant-loop-node
invariant-loop-node l = l.mapped.items ++ map (mapped_at l.file.tree.now l.file.space.now l.file.file) (drop l.node-index l.nodes) ≡ map (mapped_at l.file.tree.now l.file.space.now l.file.file) l.nodes
