use Rattle.std.proofs.Common.{refl}
use Rattle.eds_base.specs.Refusals.{least}
use Rattle.eds_tree.specs.Breaks.{breaks_of}
use Rattle.eds_tree.specs.Unknown.{breaks_unknown}
use Rattle.eds_tree.specs.Unsupported.{breaks_unsupported}
use Rattle.eds_tree.specs.Missing.{breaks_missing}
use Rattle.eds_tree.proofs.Least.{least-of_three}
use Rattle.eds_tree.proofs.shape_rules.least_of_elements.Goals as goal

pub returns : goal.returns
returns c =
    let ts = c.args.trees.now in
    least-of_three (breaks_of breaks_unknown ts) (breaks_of breaks_unsupported ts) (breaks_of breaks_missing ts)
    c.in_ok-unknown.unknown (least (breaks_of breaks_unsupported ts)) (least (breaks_of breaks_missing ts)) c.in_ok-unsupported.unsupported c.in_ok-missing.missing
    c.in_ok-unknown.ensures refl refl c.in_ok-unsupported.ensures c.in_ok-missing.ensures
