use Rattle.std.proofs.Common.{◌++◌}
use Rattle.std.specs.List.{flat_map}
use Rattle.eds_constraints.specs.Breaks.{posed_of, target_at, value_at, empties_of}
use Rattle.eds_constraints.proofs.BrokenFacts.{least-joined}
use Rattle.eds_constraints.proofs.broken.least_of.Goals as goal

pub returns : goal.returns
returns c =
    let rows = c.args.rows.now.rows.now in
    let lists = c.args.rows.now.lists.now in
    let targets = flat_map (target_at rows) (posed_of rows lists c.args.id.0) in
    let values = flat_map (value_at rows) (posed_of rows lists c.args.id.0) in
    let empties = empties_of rows lists c.args.id.0 in
    least-joined targets (values ++ empties) c.in_ok-targets.targets c.first-others.result c.first.result c.in_ok-targets.ensures
    (least-joined values empties c.in_ok-values.values c.in_ok-empties.empties c.first-others.result c.in_ok-values.ensures c.in_ok-empties.ensures c.first-others.ensures.first)
    c.first.ensures.first
