use Rattle.std.proofs.Common.{◌≡◌, drop}
use Rattle.eds_base.specs.Refusals.{least, first_of}
use Rattle.eds_read_types.specs.Breaks.{breaks_over}
use Rattle.eds_read_types.specs.Parts.{judged_part}
use Rattle.eds_read_types.proofs.sheet_rows.least_over_parts.Given as goal

abbrev pub invariant-loop-index : goal.invariant-loop-index
invariant-loop-index g l = first_of l.found (least (breaks_over (judged_part g.R.PartRule.breaks l.rows l.container) l.index (drop l.index l.places))) ≡ least (breaks_over (judged_part g.R.PartRule.breaks l.rows l.container) 0 l.places)
