use Rattle.std.proofs.Common.{◌≡◌, drop}
use Rattle.eds_base.specs.Refusals.{least, first_of}
use Rattle.eds_read_types.specs.Breaks.{breaks_over}
use Rattle.eds_read_types.specs.Parts.{judged_part}
use Rattle.eds_read_types.specs.Faults.{is_unmarked}
use Rattle.eds_read_types.specs.EmptyType.{empty_part_at}
use Rattle.eds_read_types.proofs.empty_type.least_of_parts.Given as goal

abbrev pub invariant-loop-index : goal.invariant-loop-index
invariant-loop-index l = first_of l.found (least (breaks_over (judged_part (empty_part_at (is_unmarked l.marks)) l.all.rows.now l.container) l.index (drop l.index l.places))) ≡ least (breaks_over (judged_part (empty_part_at (is_unmarked l.marks)) l.all.rows.now l.container) 0 l.places)
