use Rattle.eds_constraints.proofs.NamedFacts.{first_entry, first_trailer}
use Rattle.eds_constraints.proofs.rows.NamedRows.first_called.Goals as goal

pub returns-in-Some : goal.returns-in-Some
returns-in-Some c = first_entry c.args.self.now.rows.now c.args.name.now c.args.id.0 _ c.in-Some.ensures

pub returns-in-None : goal.returns-in-None
returns-in-None c = first_trailer c.args.self.now.rows.now c.args.name.now c.args.id.0 _ c.in-None.ensures c.trailer_within.ensures
