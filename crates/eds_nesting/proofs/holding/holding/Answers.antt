use Rattle.eds_nesting.specs.Families.{held_in}
use Rattle.eds_nesting.proofs.Walking.{one-more}
use Rattle.eds_nesting.proofs.holding.holding.Goals as goal

pub loop-name-preserved : goal.loop-name-preserved
loop-name-preserved c = one-more (held_in c.args.rows.now c.args.families.now) c.loop-name.name c.in_ok-children.children.items c.loop-name.graph c.push.new.self c.loop-name.invariant c.in_ok-push.ensures.ok c.in_ok-children.ensures
