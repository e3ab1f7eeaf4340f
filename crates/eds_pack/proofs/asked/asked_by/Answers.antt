use Rattle.std.proofs.Common.{[], ◌∷◌, ◌++◌, take, arith}
use Rattle.eds_pack.proofs.Asking.{next_asked, all_asked}
use Rattle.eds_pack.proofs.asked.asked_by.Goals as goal

pub loop-constraint-preserved : goal.loop-constraint-preserved
loop-constraint-preserved c done h =
    let xs = c.args.constraints.now in let i = c.loop-constraint.constraint-index in
    next_asked (c.args.place ∷ []) done xs i c.constraint-item.result c.in_ok-asked.asked (omega arith) c.constraint-item.is (c.in_ok-asked.ensures (done ++ take i xs) (c.loop-constraint.invariant done h))

pub returns : goal.returns
returns c done h = all_asked (c.args.place ∷ []) done c.args.constraints.now c.loop-constraint.constraint-index c.loop-constraint.asked (omega arith) (c.loop-constraint.invariant done h)
