use Rattle.std.proofs.Common.{arith, ◌≡◌, length, subst}
use Rattle.eds_constraints.proofs.ConcreteFacts.{UpTo, concrete-is}
use Rattle.eds_constraints.proofs.sets.concrete_under.Goals as goal

pub returns : goal.returns
returns c =
    let end : c.loop-k.k ≡ length c.args.rows.now = omega arith in
    concrete-is c.args.rows.now c.args.id.0 c.loop-k.set c.requires.few c.rises.ensures (subst (λ k. UpTo c.args.rows.now c.args.id.0 k c.loop-k.set) end c.loop-k.invariant)
