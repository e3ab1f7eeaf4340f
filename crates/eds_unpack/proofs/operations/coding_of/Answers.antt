use Rattle.eds_unpack.proofs.Meanings.{codes}
use Rattle.eds_unpack.proofs.operations.coding_of.Goals as goal

pub returns : goal.returns
returns c = codes c.args.form _ c.if-form-gt62.false c.is_little.ensures.little c.is_little.ensures.big c.in_ok-down.ensures.numbers
