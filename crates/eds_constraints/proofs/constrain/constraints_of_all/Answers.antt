use Rattle.std.proofs.Common.{arith, ap, ◌∙◌, ◌++◌, ◌∷◌, [], length}
use Rattle.eds_constraints.specs.ConstrainedRows.{constraints_for}
use Rattle.eds_constraints.proofs.ConcreteFacts.{sets-next}
use Rattle.eds_constraints.proofs.constrain.constraints_of_all.Goals as goal

pub loop-id-preserved : goal.loop-id-preserved
loop-id-preserved c =
    sets-next (constraints_for c.args.rows.now.rows.now c.args.rows.now.lists.now) c.loop-id.all c.push.new.self _ c.loop-id.id (length c.args.rows.now.rows.now) (omega arith) (c.in_ok-push.ensures.ok ∙ ap (λ s. c.loop-id.all ++ s ∷ []) c.in_ok-own_constraints.ensures) c.loop-id.invariant
