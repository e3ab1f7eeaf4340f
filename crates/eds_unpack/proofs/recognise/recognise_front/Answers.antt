use Rattle.eds_unpack.proofs.recognise.recognise_front.Goals as goal

pub walk_value-requires-clause-inner : goal.walk_value-requires-clause-inner
walk_value-requires-clause-inner c = record { there = c.requires.known; low = record { rules = c.keeps_rules.ensures; low = c.keeps_rules.ensures.nesting c.args.id.0 } }
