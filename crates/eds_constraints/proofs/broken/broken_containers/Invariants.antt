use Rattle.std.proofs.Common.{◌≡◌, ◌++◌, ◌-◌, map, length}
use Rattle.std.specs.List.{range_with_len}
use Rattle.eds_constraints.specs.Broken.{is_broken}
use Rattle.eds_constraints.proofs.broken.broken_containers.Given as goal

abbrev pub invariant-loop-id : goal.invariant-loop-id
invariant-loop-id l =
    l.marks.items ++ map (is_broken l.rows.rows.now l.rows.lists.now) (range_with_len l.id (length l.rows.rows.now - l.id)) ≡ map (is_broken l.rows.rows.now l.rows.lists.now) (range_with_len 0 (length l.rows.rows.now))
