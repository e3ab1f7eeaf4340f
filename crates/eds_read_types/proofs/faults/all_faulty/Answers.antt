use Rattle.std.proofs.Common.{◌≡◌, length, subst, arith}
use Rattle.eds_read_types.specs.Kin.{AreMarks}
use Rattle.eds_read_types.specs.Faults.{is_faulty}
use Rattle.eds_read_types.proofs.KinFacts.{marks-none, marks-next}
use Rattle.eds_read_types.proofs.faults.all_faulty.Goals as goal

pub loop-id-init : goal.loop-id-init
loop-id-init c = let sheet = c.args.sheet.now.graph.now.sheet.now in marks-none (is_faulty sheet.trees.now sheet.space.now) c.new-marks.result.items c.new-marks.ensures.items

pub loop-id-preserved : goal.loop-id-preserved
loop-id-preserved c =
    let sheet = c.args.sheet.now.graph.now.sheet.now in
    marks-next (is_faulty sheet.trees.now sheet.space.now) c.loop-id.id c.in_ok-faulty.faulty c.loop-id.marks.items c.push.new.self.items c.loop-id.invariant c.in_ok-push.ensures.items c.in_ok-faulty.ensures

pub returns : goal.returns
returns c =
    let sheet = c.args.sheet.now.graph.now.sheet.now in
    let all : c.loop-id.id ≡ length c.args.sheet.now.rows.now = omega arith in
    subst (λ n. AreMarks n (is_faulty sheet.trees.now sheet.space.now) c.loop-id.marks.items) all c.loop-id.invariant
