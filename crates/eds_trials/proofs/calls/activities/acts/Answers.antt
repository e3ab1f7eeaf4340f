use Rattle.std.proofs.Common.{length, arith}
use Rattle.eds_trials.proofs.Asked.{first_fits}
use Rattle.eds_trials.proofs.calls.activities.acts.Goals as goal

pub acts_by-requires-clause-fits : goal.acts_by-requires-clause-fits
acts_by-requires-clause-fits c = first_fits c.args.table.now c.args.plan.now c.requires (omega arith)
