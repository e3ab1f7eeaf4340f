use Rattle.eds_constraints.proofs.rows.+entry_within.Given as goal

abbrev pub decreases-entry_within : goal.decreases-entry_within
decreases-entry_within l = l.most
