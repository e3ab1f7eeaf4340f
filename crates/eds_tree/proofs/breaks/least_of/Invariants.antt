use Rattle.std.proofs.Common.{◌≡◌, drop}
use Rattle.eds_base.specs.Refusals.{least, first_of}
use Rattle.eds_tree.specs.Breaks.{breaks_from, breaks_of}
use Rattle.eds_tree.proofs.breaks.least_of.Given as goal

abbrev pub invariant-loop-file : goal.invariant-loop-file
invariant-loop-file g l = first_of l.found (least (breaks_from g.R.ElementRule.breaks l.file (drop l.file l.trees))) ≡ least (breaks_of g.R.ElementRule.breaks l.trees)
