use Rattle.std.proofs.Common.{arith, ap, ◌∙◌, ◌++◌, ◌∷◌, [], length}
use Rattle.eds_constraints.specs.Sets.{concrete_under}
use Rattle.eds_constraints.proofs.ConcreteFacts.{sets-next}
use Rattle.eds_constraints.proofs.sets.concrete_sets.Goals as goal

pub loop-id-preserved : goal.loop-id-preserved
loop-id-preserved c =
    sets-next (concrete_under c.args.rows.now) c.loop-id.sets c.push.new.self _ c.loop-id.id (length c.args.rows.now) (omega arith) (c.in_ok-push.ensures.ok ∙ ap (λ s. c.loop-id.sets ++ s ∷ []) c.in_ok-concrete_under.ensures) c.loop-id.invariant
