use Rattle.eds_nesting.specs.Families.{topmost}
use Rattle.eds_nesting.proofs.Walking.{one-more}
use Rattle.eds_nesting.proofs.family.families.Goals as goal

pub loop-id-preserved : goal.loop-id-preserved
loop-id-preserved c = one-more (topmost c.args.rows.now) c.loop-id.id c.topmost.result c.loop-id.families.items c.push.new.self.items c.loop-id.invariant c.in_ok-push.ensures.items c.topmost.ensures
