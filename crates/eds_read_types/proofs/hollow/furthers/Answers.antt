use Rattle.std.proofs.Common.{length, subst, sym}
use Rattle.eds_types.specs.Rows.{is_concrete}
use Rattle.eds_read_types.specs.Kin.{AreMarks}
use Rattle.eds_read_types.proofs.FaultFacts.{ok-weaker}
use Rattle.eds_read_types.proofs.hollow.furthers.Goals as goal

pub returns : goal.returns
returns c = ok-weaker c.marks_above.result _ _ (λ m h. h (is_concrete c.args.rows.now) (subst (AreMarks (length c.args.rows.now) (is_concrete c.args.rows.now)) (sym c.deref.ensures.value) c.in_ok-concretes.ensures)) c.marks_above.ensures
