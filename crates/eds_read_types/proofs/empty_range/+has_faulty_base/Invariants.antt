use Rattle.eds_read_types.proofs.empty_range.+has_faulty_base.Given as goal

abbrev pub decreases-has_faulty_base : goal.decreases-has_faulty_base
decreases-has_faulty_base l = l.most
