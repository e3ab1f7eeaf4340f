use Rattle.std.proofs.Common.{◌≡◌, map}
use Rattle.std.specs.List.{range_with_len}
use Rattle.eds_type_rows.specs.Bases.{is_in_cycle}
use Rattle.eds_type_rows.proofs.base_graph.cycles_of.Given as goal

abbrev pub invariant-loop-id : goal.invariant-loop-id
invariant-loop-id l = l.cycles.items ≡ map (is_in_cycle l.bases) (range_with_len 0 l.id)
