use Rattle.eds_tree.proofs.Least.{least-joined}
use Rattle.eds_read_types.specs.PartElements.{judged_elements}
use Rattle.eds_read_types.specs.FixedValue.{fixed_value_at}
use Rattle.eds_read_types.specs.ErrorControl.{error_control_at}
use Rattle.eds_read_types.proofs.faults.least_element.Goals as goal

pub returns : goal.returns
returns c =
    let sheet = c.args.sheet.now.graph.now.sheet.now in
    least-joined (judged_elements fixed_value_at sheet.trees.now sheet.space.now c.args.at) (judged_elements error_control_at sheet.trees.now sheet.space.now c.args.at) c.in_ok-texts.texts c.in_ok-checks.checks c.first.result c.in_ok-texts.ensures c.in_ok-checks.ensures c.first.ensures.first
