use Rattle.std.proofs.Common.{◌≡◌, ◌++◌, drop}
use Rattle.eds_plan.specs.declared.transitions.Key.{Key}
use Rattle.eds_plan.specs.Matching.{positions_from}
use Rattle.eds_plan.specs.Places.{key_cmp, noted_under, has_key}
use Rattle.eds_plan.proofs.transitions.places_of.Given as goal

abbrev pub invariant-loop-place : goal.invariant-loop-place
invariant-loop-place l = (q : Key) → noted_under key_cmp l.places q ++ positions_from l.place (has_key q) (drop l.place l.transitions) ≡ positions_from 0 (has_key q) l.transitions
