use Rattle.std.proofs.Common.{arith, subst, take}
use Rattle.std.proofs.lemmas.List.{take_all}
use Rattle.eds_pack.specs.Building.{LeastOf, IsListedIn}
use Rattle.eds_pack.proofs.Leasts.{next_listed}
use Rattle.eds_pack.proofs.least.least_listed.Goals as goal

pub loop-listed-preserved : goal.loop-listed-preserved
loop-listed-preserved c =
    let xs = c.args.listing.now in let i = c.loop-listed.listed-index in
    next_listed xs i c.listed-item.result c.args.set.now c.lesser-least.result (omega arith) c.listed-item.is (c.lesser-least.ensures (take i xs) c.loop-listed.invariant)

pub returns : goal.returns
returns c = subst (λ ys. LeastOf (IsListedIn ys c.args.set.now) c.loop-listed.least) (take_all c.loop-listed.listed-index c.args.listing.now (omega arith)) c.loop-listed.invariant
