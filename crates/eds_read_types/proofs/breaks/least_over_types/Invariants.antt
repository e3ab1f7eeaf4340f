use Rattle.std.proofs.Common.{◌≡◌, drop}
use Rattle.eds_base.specs.Refusals.{least, first_of}
use Rattle.eds_read_types.specs.Breaks.{breaks_over}
use Rattle.eds_read_types.proofs.breaks.least_over_types.Given as goal

abbrev pub invariant-loop-id : goal.invariant-loop-id
invariant-loop-id g l = first_of l.found (least (breaks_over (g.R.TypeRule.breaks l.graph.sheet.now.trees.now l.graph.sheet.now.types.now l.graph.bases.now) l.id (drop l.id l.types))) ≡ least (breaks_over (g.R.TypeRule.breaks l.graph.sheet.now.trees.now l.graph.sheet.now.types.now l.graph.bases.now) 0 l.types)
