use Rattle.std.proofs.Common.{◌≡◌, map}
use Rattle.std.specs.List.{range_with_len}
use Rattle.eds_graph.specs.Ways.{parents}
use Rattle.eds_graph.proofs.backwards.reversed.Given as goal

abbrev pub invariant-loop-number : goal.invariant-loop-number
invariant-loop-number l = l.reversed ≡ map (parents l.graph) (range_with_len 0 l.number)
