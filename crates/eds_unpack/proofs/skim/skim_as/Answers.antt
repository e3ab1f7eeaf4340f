use Rattle.eds_unpack.proofs.Labels.{kind_listed}
use Rattle.eds_unpack.proofs.skim.skim_as.Goals as goal

pub skim_label_as-requires : goal.skim_label_as-requires
skim_label_as-requires c = kind_listed c.args.kind.now c.in-Enum.form c.in-Enum.listing c.in-Enum.is c.requires.kind
