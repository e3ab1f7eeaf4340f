use Rattle.eds_constraints.proofs.NamedFacts.{few_read}
use Rattle.eds_constraints.proofs.rows.NamedRows.of.Goals as goal

pub invariant_of-result : goal.invariant_of-result
invariant_of-result c = record { entry_names = c.in_ok-entries.ensures; trailer_names = c.in_ok-trailers.ensures; label_names = c.in_ok-labels.ensures; small = few_read c.args.rows.now c.requires }
