use Rattle.eds_names.proofs.Numbering.{types-found, faces-found, comps-found, type-rows, face-rows, comp-rows}
use Rattle.eds_names.proofs.law.names_lead_to_rows.Goals as goal

pub returns-clause-types : goal.returns-clause-types
returns-clause-types c names h = types-found c.args.trees.now names h

pub returns-clause-interfaces : goal.returns-clause-interfaces
returns-clause-interfaces c names h = faces-found c.args.trees.now names h

pub returns-clause-components : goal.returns-clause-components
returns-clause-components c names h = comps-found c.args.trees.now names h

pub returns-clause-type_rows : goal.returns-clause-type_rows
returns-clause-type_rows c names h = type-rows c.args.trees.now names h

pub returns-clause-interface_rows : goal.returns-clause-interface_rows
returns-clause-interface_rows c names h = face-rows c.args.trees.now names h

pub returns-clause-component_rows : goal.returns-clause-component_rows
returns-clause-component_rows c names h = comp-rows c.args.trees.now names h
