use Rattle.eds_types.specs.Rows.{number_of_id}
use Rattle.eds_constraints.proofs.LeftFacts.{left_of}
use Rattle.eds_constraints.proofs.left.own_left.Goals as goal

pub returns : goal.returns
returns c =
    left_of c.args.rows.now.rows.now c.args.rows.now.lists.now c.args.id.0 c.asked_of-asked.result.now (number_of_id c.base_of-base.result) c.in_ok-paths.paths c.in_ok-states.states c.leave.new.states
    c.asked_of-asked.ensures c.base_of-base.ensures c.in_ok-paths.ensures c.in_ok-states.ensures c.in_ok-leave.ensures.size c.in_ok-leave.ensures.left
