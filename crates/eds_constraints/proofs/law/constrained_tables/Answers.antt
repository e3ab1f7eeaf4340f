use Rattle.eds_constraints.proofs.ConstrainedKeeps.{constraints_keep_rules}
use Rattle.eds_constraints.proofs.law.constrained_tables.Goals as goal

pub returns : goal.returns
returns c = constraints_keep_rules
