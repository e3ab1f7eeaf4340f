use Rattle.eds_constraints.proofs.left.+left_along.Given as goal

abbrev pub decreases-left_along : goal.decreases-left_along
decreases-left_along l = l.most
