use Rattle.eds_constraints.proofs.rows.+trailer_within.Given as goal

abbrev pub decreases-trailer_within : goal.decreases-trailer_within
decreases-trailer_within l = l.most
