use Rattle.std.proofs.Common.{◌≡◌, drop}
use Rattle.eds_types.specs.Fields.{listed}
use Rattle.eds_types.proofs.texts.number_of_label.Given as goal

abbrev pub invariant-loop-name : goal.invariant-loop-name
invariant-loop-name l = listed (drop l.name-index l.listing) l.label ≡ listed l.listing l.label
