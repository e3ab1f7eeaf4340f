use Rattle.eds_read_types.proofs.length_field.+is_measured.Given as goal

abbrev pub decreases-is_measured : goal.decreases-is_measured
decreases-is_measured l = l.most
