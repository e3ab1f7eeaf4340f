use Rattle.std.proofs.Common.{refl}
use Rattle.eds_base.specs.Refusals.{least}
use Rattle.eds_tree.specs.Breaks.{breaks_of}
use Rattle.eds_tree.specs.BadAttribute.{breaks_attribute}
use Rattle.eds_tree.specs.BadName.{breaks_name}
use Rattle.eds_tree.specs.ShapeCheck.{element_breaks}
use Rattle.eds_tree.proofs.Least.{least-of_three}
use Rattle.eds_tree.proofs.shape_rules.least_with_attributes.Goals as goal

pub returns : goal.returns
returns c =
    let ts = c.args.trees.now in
    least-of_three (element_breaks ts) (breaks_of breaks_attribute ts) (breaks_of breaks_name ts)
    c.in_ok-elements.elements (least (breaks_of breaks_attribute ts)) (least (breaks_of breaks_name ts)) c.in_ok-attribute.attribute c.in_ok-name.name
    c.in_ok-elements.ensures refl refl c.in_ok-attribute.ensures c.in_ok-name.ensures
