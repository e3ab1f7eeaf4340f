use Rattle.std.proofs.Common.{◌≡◌, option_map}
use Rattle.eds_constraints.specs.Paths.{follow, names_after, octets_left}
use Rattle.eds_constraints.proofs.paths.follow.Given as goal

abbrev pub invariant-loop-rest : goal.invariant-loop-rest
invariant-loop-rest l = follow l.rows.rows.now l.aim (names_after (option_map (λ t. t.now) l.rest)) ≡ follow l.rows.rows.now l.fn.aim (names_after (option_map (λ t. t.now) l.names))

abbrev pub decreases-loop-rest : goal.decreases-loop-rest
decreases-loop-rest l = octets_left (option_map (λ t. t.now) l.rest)
