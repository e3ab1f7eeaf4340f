use Rattle.std.proofs.Common.{refl}
use Rattle.eds_base.specs.Refusals.{least}
use Rattle.eds_tree.specs.Breaks.{breaks_of}
use Rattle.eds_tree.specs.Limits.{breaks_counts, breaks_machines, breaks_children}
use Rattle.eds_tree.proofs.Least.{least-of_three}
use Rattle.eds_tree.proofs.rule_limit.least_limit.Goals as goal

pub returns : goal.returns
returns c =
    let ts = c.args.trees.now in
    least-of_three (breaks_counts ts) (breaks_of breaks_machines ts) (breaks_of breaks_children ts)
    c.in_ok-surplus.surplus (least (breaks_of breaks_machines ts)) (least (breaks_of breaks_children ts)) c.in_ok-machines.machines c.in_ok-children.children
    c.in_ok-surplus.ensures refl refl c.in_ok-machines.ensures c.in_ok-children.ensures
