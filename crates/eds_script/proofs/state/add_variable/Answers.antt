use Rattle.eds_types.specs.Plain.{plain}
use Rattle.eds_script.proofs.Printing.{is-of-type}
use Rattle.eds_script.proofs.state.add_variable.Goals as goal

pub to_json-requires-clause-known : goal.to_json-requires-clause-known
to_json-requires-clause-known c = c.requires.known

pub to_json-requires-clause-one : goal.to_json-requires-clause-one
to_json-requires-clause-one c = is-of-type c.args.table.now c.args.variable.now.id.0 (plain c.args.value.now) c.requires
