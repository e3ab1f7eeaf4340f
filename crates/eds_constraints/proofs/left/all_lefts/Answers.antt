use Rattle.std.proofs.Common.{arith, ◌≡◌, ◌∙◌, length}
use Rattle.eds_constraints.proofs.LeftFacts.{lefts_next}
use Rattle.eds_constraints.proofs.left.all_lefts.Goals as goal

pub loop-id-preserved : goal.loop-id-preserved
loop-id-preserved c =
    lefts_next c.args.rows.now.rows.now c.args.rows.now.lists.now c.loop-id.lefts c.push.new.self c.in_ok-own_left.field-0 c.loop-id.id c.in_ok-push.ensures.ok c.in_ok-own_left.ensures c.loop-id.invariant.0 c.loop-id.invariant.1

pub returns : goal.returns
returns c =
    let end : c.loop-id.id ≡ length c.args.rows.now.lists.now = omega arith in
    record { size = c.loop-id.invariant.0 ∙ end; each = c.loop-id.invariant.1 }
