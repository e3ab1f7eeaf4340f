use Rattle.std.proofs.Common.{◌++◌}
use Rattle.eds_tree.proofs.Least.{least-joined}
use Rattle.eds_constraints.specs.Breaks.{breaks_target, breaks_value, breaks_empty}
use Rattle.eds_read_types.proofs.constraint_rules.least_constraint.Goals as goal

pub returns : goal.returns
returns c =
    let rows = c.args.asked.now.rows.now in
    let lists = c.args.asked.now.lists.now in
    least-joined (breaks_target rows lists) (breaks_value rows lists ++ breaks_empty rows lists) c.in_ok-targets.targets c.first-others.result c.first.result c.in_ok-targets.ensures
    (least-joined (breaks_value rows lists) (breaks_empty rows lists) c.in_ok-values.values c.in_ok-empties.empties c.first-others.result c.in_ok-values.ensures c.in_ok-empties.ensures c.first-others.ensures.first)
    c.first.ensures.first
