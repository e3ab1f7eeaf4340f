use Rattle.std.proofs.Common.{◌≡◌, length}
use Rattle.eds_tree.specs.AttributeTexts.{are_names}
use Rattle.eds_tree.proofs.texts.are_names.Given as goal

abbrev pub invariant-loop-i : goal.invariant-loop-i
invariant-loop-i l = are_names l.separator l.rest ≡ are_names l.separator l.octets

abbrev pub decreases-loop-i : goal.decreases-loop-i
decreases-loop-i l = length l.rest
