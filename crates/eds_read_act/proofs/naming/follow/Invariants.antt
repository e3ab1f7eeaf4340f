use Rattle.std.proofs.Common.{◌≡◌, option_map}
use Rattle.eds_read_act.specs.Naming.{follow, names_in, names_after, octets_left}
use Rattle.eds_read_act.proofs.naming.follow.Given as goal

abbrev pub invariant-loop-rest : goal.invariant-loop-rest
invariant-loop-rest l = follow l.table l.found (names_after (option_map (λ t. t.now) l.rest)) ≡ follow l.table l.fn.found (names_in l.names)

abbrev pub decreases-loop-rest : goal.decreases-loop-rest
decreases-loop-rest l = octets_left (option_map (λ t. t.now) l.rest)
