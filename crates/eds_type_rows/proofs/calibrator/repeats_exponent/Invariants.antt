use Rattle.std.proofs.Common.{◌≡◌, length}
use Rattle.eds_type_rows.specs.Calibrators.{repeats_exponent}
use Rattle.eds_type_rows.proofs.calibrator.repeats_exponent.Given as goal

abbrev pub invariant-loop-rest : goal.invariant-loop-rest
invariant-loop-rest l = repeats_exponent l.trees l.rest ≡ repeats_exponent l.trees l.terms

abbrev pub decreases-loop-rest : goal.decreases-loop-rest
decreases-loop-rest l = length l.rest
