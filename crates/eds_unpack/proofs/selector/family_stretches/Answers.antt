use Rattle.std.proofs.Common.{subst, sym, ap, ◌∙◌}
use Rattle.std.specs.List.{AllByRecursion}
use Rattle.std.specs.Prelude.{IfOk, IfSome}
use Rattle.eds_unpack.specs.Selectors.{AreStretches, IsHull, members_of}
use Rattle.eds_unpack.proofs.selector.family_stretches.Goals as goal

pub returns : goal.returns
returns c =
    let t = c.args.table.now in
    let x = c.args.id.0 in
    let path = c.args.path.now in
    let hulls = c.in_ok-hulls.ensures in
    subst (λ ids. IfOk c.stretches_of.result (λ found. IfSome found (AreStretches t x path ids))) (ap members_of c.as_slice-2.ensures ∙ hulls.members ∙ c.family_of.ensures)
    (c.stretches_of.ensures t x path (subst (AllByRecursion (IsHull t x path)) (sym c.as_slice-2.ensures) hulls.each))
