use Rattle.std.proofs.Common.{arith, ap, ◌∙◌, ◌++◌, ◌∷◌, [], length}
use Rattle.eds_constraints.specs.Broken.{is_broken}
use Rattle.eds_constraints.proofs.ConcreteFacts.{sets-next}
use Rattle.eds_constraints.proofs.broken.broken_containers.Goals as goal

pub loop-id-preserved : goal.loop-id-preserved
loop-id-preserved c =
    sets-next (is_broken c.args.rows.now.rows.now c.args.rows.now.lists.now) c.loop-id.marks.items c.push.new.self.items _ c.loop-id.id (length c.args.rows.now.rows.now) (omega arith)
    (c.in_ok-push.ensures.items ∙ ap (λ b. c.loop-id.marks.items ++ b ∷ []) c.in_ok-broken.ensures) c.loop-id.invariant
