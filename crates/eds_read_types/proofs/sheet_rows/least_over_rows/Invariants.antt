use Rattle.std.proofs.Common.{◌≡◌, drop}
use Rattle.eds_base.specs.Refusals.{least, first_of}
use Rattle.eds_read_types.specs.Breaks.{breaks_over}
use Rattle.eds_read_types.proofs.sheet_rows.least_over_rows.Given as goal

abbrev pub invariant-loop-id : goal.invariant-loop-id
invariant-loop-id g l = first_of l.found (least (breaks_over (g.R.RowRule.breaks l.sheet.graph.now.sheet.now.trees.now l.sheet.rows.now) l.id (drop l.id l.types))) ≡ least (breaks_over (g.R.RowRule.breaks l.sheet.graph.now.sheet.now.trees.now l.sheet.rows.now) 0 l.types)
