use Rattle.eds_read_types.proofs.length_field.+is_told.Given as goal

abbrev pub decreases-is_told : goal.decreases-is_told
decreases-is_told l = l.most
