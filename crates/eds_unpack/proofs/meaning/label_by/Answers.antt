use Rattle.eds_unpack.proofs.Labels.{kind_listed}
use Rattle.eds_unpack.proofs.meaning.label_by.Goals as goal

pub label_of-requires : goal.label_of-requires
label_of-requires c = kind_listed c.args.kind.now c.in-Enum.field-0 c.in-Enum.listing c.in-Enum.is c.requires.keeps
