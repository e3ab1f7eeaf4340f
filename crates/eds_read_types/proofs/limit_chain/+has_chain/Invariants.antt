use Rattle.eds_read_types.proofs.limit_chain.+has_chain.Given as goal

abbrev pub decreases-has_chain : goal.decreases-has_chain
decreases-has_chain l = l.many
