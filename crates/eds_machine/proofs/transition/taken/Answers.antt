use Rattle.std.proofs.Common.{◌∙◌, map}
use Rattle.eds_types.specs.Plain.{plain}
use Rattle.eds_machine.specs.Reactions.{is_open}
use Rattle.eds_machine.proofs.Found.{matched_first}
use Rattle.eds_machine.proofs.transition.taken.Goals as goal

pub returns : goal.returns
returns c = c.first_open.ensures ∙ matched_first c.args.machine.now.transitions c.args.at c.args.trigger (is_open c.args.table.now c.args.component.now (map plain c.args.arguments.now) (map plain c.args.variables.now) c.args.waiting.now) _ c.matching-places.ensures
