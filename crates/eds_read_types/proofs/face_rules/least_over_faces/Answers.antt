use Rattle.std.proofs.Common.{arith}
use Rattle.eds_names.proofs.RepeatsLemmas.{least-next_of}
use Rattle.eds_read_types.proofs.face_rules.least_over_faces.Goals as goal

pub loop-reference-preserved : goal.loop-reference-preserved
loop-reference-preserved g c =
    let sheet = c.args.sheet.now.types.now.graph.now.sheet.now in
    least-next_of (g.R.FaceRule.breaks sheet.trees.now sheet.space.now c.args.sheet.now.types.now.rows.now) c.args.references.now c.loop-reference.reference-index c.reference-item.result _ c.loop-reference.found c.in_ok-here.here c.first-found.result _ (omega arith) c.reference-item.is c.in_ok-here.ensures c.first-found.ensures.first c.loop-reference.invariant
