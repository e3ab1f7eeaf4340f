use Rattle.std.proofs.Common.{◌∙◌, sym}
use Rattle.eds_type_rows.proofs.NumberSteps.{ok-is, own-other}
use Rattle.eds_type_rows.proofs.numbers.own_numbers.Goals as goal

pub returns-else-is_integer : goal.returns-else-is_integer
returns-else-is_integer c = ok-is c.all_numbers.result _ _ (own-other c.args.tree.now c.args.node (sym c.is_integer.ensures ∙ c.if-is_integer.false)) c.all_numbers.ensures
