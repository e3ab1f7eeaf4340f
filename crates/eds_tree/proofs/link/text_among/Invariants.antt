use Rattle.std.proofs.Common.{◌≡◌, drop}
use Rattle.eds_tree.specs.Trees.{text_among}
use Rattle.eds_tree.proofs.link.text_among.Given as goal

abbrev pub invariant-loop-attribute : goal.invariant-loop-attribute
invariant-loop-attribute l = text_among (drop l.attribute-index l.attributes) l.name ≡ text_among l.attributes l.name
