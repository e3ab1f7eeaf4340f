use Rattle.std.proofs.Common.{◌∷◌, [], subst, sym}
use Rattle.std.specs.Prelude.{IfSome}
use Rattle.eds_types.proofs.AllOf.{All-both}
use Rattle.eds_unpack.specs.Selectors.{AreStretches, IsStretchOf, members_of}
use Rattle.eds_unpack.proofs.selector.put_stretch.Goals as goal

pub returns-in_ok-push-in-Some : goal.returns-in_ok-push-in-Some
returns-in_ok-push-in-Some c = λ t x path hulls are put.
    (let ids = members_of c.args.hulls.now in
    let one = subst (λ o. IfSome o (IsStretchOf t x path ids)) c.in-Some.is (c.in_ok-stretch.ensures t x path hulls) in
    subst (AreStretches t x path ids) (sym c.in_ok-push-in-Some.ensures.ok) (All-both (IsStretchOf t x path ids) c.args.stretches.now (c.in-Some.stretch ∷ []) are (one, tt)))
