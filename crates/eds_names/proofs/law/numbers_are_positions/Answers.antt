use Rattle.eds_names.proofs.Numbering.{types-by_position, faces-by_position, comps-by_position}
use Rattle.eds_names.proofs.law.numbers_are_positions.Goals as goal

pub returns-clause-types : goal.returns-clause-types
returns-clause-types c names h = types-by_position c.args.trees.now names h

pub returns-clause-interfaces : goal.returns-clause-interfaces
returns-clause-interfaces c names h = faces-by_position c.args.trees.now names h

pub returns-clause-components : goal.returns-clause-components
returns-clause-components c names h = comps-by_position c.args.trees.now names h
