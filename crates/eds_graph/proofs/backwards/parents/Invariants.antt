use Rattle.std.proofs.Common.{◌≡◌, filter}
use Rattle.std.specs.List.{range_with_len}
use Rattle.eds_graph.specs.Ways.{is_child}
use Rattle.eds_graph.proofs.backwards.parents.Given as goal

abbrev pub invariant-loop-parent : goal.invariant-loop-parent
invariant-loop-parent l = l.parents.items ≡ filter (is_child l.graph l.number) (range_with_len 0 l.parent)
