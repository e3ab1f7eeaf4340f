use Rattle.eds_unpack.proofs.Labels.{kind_listed}
use Rattle.eds_unpack.proofs.meaning.told_scalar.Goals as goal

pub label_in-requires-clause-once : goal.label_in-requires-clause-once
label_in-requires-clause-once c = kind_listed c.args.kind.now c.in-Enum.form c.in-Enum.listing c.in-Enum.is c.requires.keeps
