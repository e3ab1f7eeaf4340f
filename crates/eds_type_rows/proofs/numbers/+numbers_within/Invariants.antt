use Rattle.eds_type_rows.proofs.numbers.+numbers_within.Given as goal

abbrev pub decreases-numbers_within : goal.decreases-numbers_within
decreases-numbers_within l = l.most
