use Rattle.std.proofs.Common.{arith, ◌∙◌}
use Rattle.eds_types.specs.Rows.{number_of_id}
use Rattle.eds_constraints.proofs.GoneOn.{gone_next, placed_path}
use Rattle.eds_constraints.proofs.left.go_on.Goals as goal

pub put_one-requires-clause-there : goal.put_one-requires-clause-there
put_one-requires-clause-there c = placed_path c.args.asked.now c.loop-one.one-index _ c.one-item.result c.args.paths.now c.requires.paths (omega arith) c.one-item.is (c.loop-one.invariant.size ∙ c.requires.size)

pub loop-one-preserved : goal.loop-one-preserved
loop-one-preserved c =
    gone_next c.args.rows.now.rows.now c.args.paths.now (number_of_id c.args.base) c.args.asked.now c.loop-one.one-index c.one-item.result c.args.states.now c.loop-one.states c.put_one.new.states c.loop-one.found c.in_ok-here.here c.first-found.result
    (omega arith) c.one-item.is c.in_ok-here.ensures.size c.in_ok-here.ensures.least c.in_ok-here.ensures.left c.first-found.ensures.first c.loop-one.invariant
