use Rattle.std.proofs.Common.{◌≡◌, Some, sym, ap, subst, ◌∙◌}
use Rattle.std.specs.Prelude.{IfSome, slice_get}
use Rattle.eds_types.specs.Rows.{Table}
use Rattle.eds_unpack.specs.Segments.{IsHeadOf}
use Rattle.eds_unpack.proofs.Meanings.{some_weaker}
use Rattle.eds_unpack.proofs.segments.Segments.head_of.Goals as goal

pub returns : goal.returns
returns c =
    subst (λ (t : Table). IfSome c.found_at.result (λ s. IsHeadOf t c.args.id.0 s.now)) c.self.view_is
    (some_weaker (λ s. slice_get c.as_slice.result.now c.args.id.0 ≡ Some (Some s.now)) (λ s. IsHeadOf c.self.inside.table.now c.args.id.0 s.now) c.found_at.result
    (λ s e. c.self.invariant.0 c.args.id.0 s.now (ap (λ xs. slice_get xs c.args.id.0) (sym c.as_slice.ensures.value) ∙ e)) c.found_at.ensures)
