use Rattle.std.proofs.Common.{◌∙◌, sym, codes}
use Rattle.eds_tree.specs.Unsupported.{is_element_unsupported, has_failed, has_fixed_value, word_if}
use Rattle.eds_tree.proofs.ByteFirst.{first_of_three}
use Rattle.eds_tree.proofs.rule_unsupported.first_unsupported.Goals as goal

pub returns : goal.returns
returns c =
    let name = c.args.name.now in
    let held = c.args.attributes.now in
    c.first_if.ensures
    ∙ rw (c.first_if-found-2.ensures, c.first_if-found.ensures, c.is_element_unsupported.ensures, c.has_failed.ensures, c.has_fixed_value.ensures)
    (sym (first_of_three (word_if (is_element_unsupported c.args.parent.now name held) name) (word_if (has_failed name held) (codes "failed"))
    (word_if (has_fixed_value name held) (codes "fixedValue"))))
