use Rattle.std.proofs.Common.{length, subst, sym}
use Rattle.eds_read_types.specs.Kin.{AreMarks}
use Rattle.eds_read_types.specs.Faults.{is_faulty}
use Rattle.eds_read_types.proofs.FaultFacts.{judged-as, faulty-past, ok-weaker}
use Rattle.eds_read_types.proofs.faults.faults.Goals as goal

pub returns : goal.returns
returns c =
    let sheet = c.args.sheet.now.graph.now.sheet.now in
    ok-weaker c.reach_faulty.result _ _ (λ m h. judged-as sheet.trees.now sheet.space.now c.args.sheet.now.rows.now c.args.sheet.now.read m.items (h (is_faulty sheet.trees.now sheet.space.now) (subst (AreMarks (length c.args.sheet.now.rows.now) (is_faulty sheet.trees.now sheet.space.now)) (sym c.deref.ensures.value) c.in_ok-faulty.ensures) (faulty-past sheet.trees.now sheet.space.now c.args.sheet.now.rows.now c.args.sheet.now.read))) c.reach_faulty.ensures
