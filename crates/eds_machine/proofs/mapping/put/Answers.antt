use Rattle.std.proofs.Common.{map, ap, ◌∙◌}
use Rattle.std.proofs.lemmas.List.{map-set}
use Rattle.eds_types.specs.Plain.{plain}
use Rattle.eds_machine.proofs.mapping.put.Goals as goal

pub returns-then-at-len : goal.returns-then-at-len
returns-then-at-len c = ap (map plain) c.set.ensures ∙ map-set plain c.args.values.now c.args.at c.args.value
