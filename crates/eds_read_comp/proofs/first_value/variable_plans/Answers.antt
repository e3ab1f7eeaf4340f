use Rattle.std.proofs.Common.{arith}
use Rattle.eds_read_comp.specs.FirstValues.{first_value}
use Rattle.eds_read_comp.specs.Plans.{head_of, first_of_variable}
use Rattle.eds_read_comp.specs.Variables.{variable_at}
use Rattle.eds_read_comp.proofs.Growing.{grown}
use Rattle.eds_read_comp.proofs.first_value.variable_plans.Goals as goal

pub loop-node-preserved : goal.loop-node-preserved
loop-node-preserved c = (
  grown head_of (variable_at c.args.file.now.tree.now c.args.file.now.space.now c.args.file.now.file) c.args.nodes.now c.loop-node.node-index _ c.loop-node.variables c.push.new.self c.in_ok-variable.variable _
      (omega arith) c.in_ok-push.ensures.ok c.in_ok-variable.ensures.head c.loop-node.invariant.0,
  λ firsts told.
      grown first_of_variable (first_value firsts c.args.file.now.tree.now c.args.file.now.space.now c.args.file.now.file) c.args.nodes.now c.loop-node.node-index _ c.loop-node.variables c.push.new.self
      c.in_ok-variable.variable _ (omega arith) c.in_ok-push.ensures.ok (c.in_ok-variable.ensures.first firsts told) (c.loop-node.invariant.1 firsts told),
)
