use Rattle.std.proofs.Common.{◌∙◌, ◌++◌, ap}
use Rattle.eds_base.specs.Refusals.{least}
use Rattle.eds_tree.specs.Breaks.{breaks_of}
use Rattle.eds_tree.specs.BadAttribute.{breaks_attribute}
use Rattle.eds_tree.specs.BadName.{breaks_name}
use Rattle.eds_tree.specs.Limits.{breaks_limit}
use Rattle.eds_tree.specs.ShapeCheck.{element_breaks, shape_breaks}
use Rattle.eds_tree.proofs.Least.{least-joined}
use Rattle.eds_tree.proofs.shape_rules.least_break.Goals as goal

pub returns : goal.returns
returns c =
    let ts = c.as_slice-trees.result.now in
    least-joined (element_breaks ts ++ breaks_of breaks_attribute ts ++ breaks_of breaks_name ts) (breaks_limit ts)
    c.in_ok-found.found c.in_ok-limit.limit c.first.result c.in_ok-found.ensures c.in_ok-limit.ensures c.first.ensures.first
    ∙ ap (λ us. least (shape_breaks us)) c.as_slice-trees.ensures
