use Rattle.std.proofs.Common.{◌≡◌, Some, sym, ap, subst, ◌∙◌}
use Rattle.std.specs.Prelude.{IfSome, slice_get}
use Rattle.eds_types.specs.Rows.{Table}
use Rattle.eds_types.specs.Sizes.{trailers_size}
use Rattle.eds_unpack.specs.Tails.{limited}
use Rattle.eds_unpack.proofs.segments.Segments.trailers_along.Goals as goal

pub returns-in-Some : goal.returns-in-Some
returns-in-Some c =
    let at = subst (λ o. IfSome o (λ size. slice_get c.as_slice.result.now c.args.id.0 ≡ Some (Some size))) c.in-Some.is c.size_at.ensures in
    c.self.invariant.2 c.args.id.0 c.in-Some.size (ap (λ xs. slice_get xs c.args.id.0) (sym c.as_slice.ensures.value) ∙ at)
    ∙ ap (λ (t : Table). limited (trailers_size t c.args.id.0)) c.self.view_is

pub returns-in-None : goal.returns-in-None
returns-in-None c = c.trailers_along.ensures ∙ ap (λ (t : Table). limited (trailers_size t c.args.id.0)) c.self.view_is
