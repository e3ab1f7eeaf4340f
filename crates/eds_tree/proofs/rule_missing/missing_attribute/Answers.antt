use Rattle.std.proofs.Common.{◌∙◌, sym, not, map, filter, None}
use Rattle.eds_tree.specs.Rows.{attribute_of}
use Rattle.eds_tree.specs.Missing.{asked_for}
use Rattle.eds_tree.specs.Attributes.{has_attribute, failing, lacks_attribute}
use Rattle.eds_tree.proofs.ByteFirst.{first_from-append}
use Rattle.eds_tree.proofs.rule_missing.missing_attribute.Goals as goal

pub returns : goal.returns
returns c =
    c.first_asked.ensures
    ∙ rw (c.first_failing.ensures, c.asked_for.ensures)
    (sym (first_from-append None (failing (lacks_attribute c.args.attributes.now) (map attribute_of c.args.shape.now.required.now)) (filter (λ a. not (has_attribute c.args.attributes.now a)) (asked_for c.args.name.now c.args.attributes.now))))
