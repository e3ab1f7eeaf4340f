use Rattle.std.proofs.Common.{length, subst, sym}
use Rattle.eds_read_types.specs.Hollow.{is_void}
use Rattle.eds_read_types.specs.Kin.{AreMarks}
use Rattle.eds_read_types.proofs.FaultFacts.{ok-weaker}
use Rattle.eds_read_types.proofs.hollow.hollows.Goals as goal

pub returns : goal.returns
returns c = ok-weaker c.marks_above.result _ _ (λ m h. h (is_void c.args.rows.now) (subst (AreMarks (length c.args.rows.now) (is_void c.args.rows.now)) (sym c.deref.ensures.value) c.in_ok-voids.ensures)) c.marks_above.ensures
