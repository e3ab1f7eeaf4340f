use Rattle.std.proofs.Common.{◌≡◌, drop}
use Rattle.std.specs.List.{flat_map}
use Rattle.eds_base.specs.Refusals.{least, first_of}
use Rattle.eds_read_types.proofs.face_rules.least_over_faces.Given as goal

abbrev pub invariant-loop-reference : goal.invariant-loop-reference
invariant-loop-reference g l =
    first_of l.found (least (flat_map (g.R.FaceRule.breaks l.sheet.types.now.graph.now.sheet.now.trees.now l.sheet.types.now.graph.now.sheet.now.space.now l.sheet.types.now.rows.now) (drop l.reference-index l.references)))
    ≡ least (flat_map (g.R.FaceRule.breaks l.sheet.types.now.graph.now.sheet.now.trees.now l.sheet.types.now.graph.now.sheet.now.space.now l.sheet.types.now.rows.now) l.references)
