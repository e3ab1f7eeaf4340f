use Rattle.eds_machine.proofs.MapLaws.{map_conforms}
use Rattle.eds_machine.proofs.reaction.map_first.Goals as goal

pub returns-clause-variables : goal.returns-clause-variables
returns-clause-variables c = map_conforms c.args.table.now c.args.component.now c.map_reacts.result c.args.comp.0 c.args.primitive.now c.args.state.now c.map_reacts.new.state c.args.out.now c.map_reacts.new.out c.args.fuel.now c.requires.fits c.requires.arrives c.requires.variables c.map_reacts.ensures.kept (c.map_reacts.ensures.ok c.args.fuel.now)
