use Rattle.std.proofs.Common.{◌≡◌, ◌++◌, ◌-◌, map, length}
use Rattle.std.specs.List.{range_with_len}
use Rattle.eds_constraints.specs.Sets.{concrete_under}
use Rattle.eds_constraints.proofs.sets.concrete_sets.Given as goal

abbrev pub invariant-loop-id : goal.invariant-loop-id
invariant-loop-id l = l.sets ++ map (concrete_under l.rows) (range_with_len l.id (length l.rows - l.id)) ≡ map (concrete_under l.rows) (range_with_len 0 (length l.rows))
