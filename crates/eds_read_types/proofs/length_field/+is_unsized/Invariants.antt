use Rattle.eds_read_types.proofs.length_field.+is_unsized.Given as goal

abbrev pub decreases-is_unsized : goal.decreases-is_unsized
decreases-is_unsized l = l.most
