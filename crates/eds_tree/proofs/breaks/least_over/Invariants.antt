use Rattle.std.proofs.Common.{◌≡◌, drop}
use Rattle.std.specs.List.{flat_map}
use Rattle.eds_base.specs.Refusals.{least, first_of}
use Rattle.eds_tree.proofs.breaks.least_over.Given as goal

abbrev pub invariant-loop-link : goal.invariant-loop-link
invariant-loop-link g l = first_of l.found (least (flat_map (g.R.ElementRule.breaks l.file l.tree) (drop l.link-index l.links))) ≡ least (flat_map (g.R.ElementRule.breaks l.file l.tree) l.links)
