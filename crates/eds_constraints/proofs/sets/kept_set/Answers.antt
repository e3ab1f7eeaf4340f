use Rattle.eds_constraints.proofs.ValueFacts.{kept_is}
use Rattle.eds_constraints.proofs.sets.kept_set.Goals as goal

pub returns-in-Some : goal.returns-in-Some
returns-in-Some c = kept_is c.args.rows.now c.args.sets.now c.args.kept.0 c.in-Some.set.now c.copied.result c.requires.sets c.in-Some.ensures c.copied.ensures
