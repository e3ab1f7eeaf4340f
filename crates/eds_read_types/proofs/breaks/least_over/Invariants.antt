use Rattle.std.proofs.Common.{◌≡◌, drop}
use Rattle.std.specs.List.{flat_map}
use Rattle.eds_base.specs.Refusals.{least, first_of}
use Rattle.eds_read_types.proofs.breaks.least_over.Given as goal

abbrev pub invariant-loop-at : goal.invariant-loop-at
invariant-loop-at g l = first_of l.found (least (flat_map (g.R.PlaceRule.breaks l.sheet.trees.now l.sheet.space.now) (drop l.at-index l.places))) ≡ least (flat_map (g.R.PlaceRule.breaks l.sheet.trees.now l.sheet.space.now) l.places)
