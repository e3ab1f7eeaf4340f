use Rattle.std.proofs.Common.{◌≡◌, drop}
use Rattle.eds_base.specs.Refusals.{least, first_of}
use Rattle.eds_read_types.specs.Breaks.{breaks_over}
use Rattle.eds_read_types.specs.Parts.{judged_parts}
use Rattle.eds_read_types.specs.Faults.{is_unmarked}
use Rattle.eds_read_types.specs.EmptyType.{empty_part_at}
use Rattle.eds_read_types.proofs.empty_type.least_of_all_parts.Given as goal

abbrev pub invariant-loop-id : goal.invariant-loop-id
invariant-loop-id l =
    first_of l.found (least (breaks_over (judged_parts (empty_part_at (is_unmarked l.marks)) l.sheet.graph.now.sheet.now.trees.now l.all.rows.now) l.id (drop l.id l.types)))
    ≡ least (breaks_over (judged_parts (empty_part_at (is_unmarked l.marks)) l.sheet.graph.now.sheet.now.trees.now l.all.rows.now) 0 l.types)
