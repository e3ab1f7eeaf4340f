use Rattle.std.proofs.Common.{◌≡◌, length}
use Rattle.eds_type_rows.specs.Calibrators.{coefficient_of}
use Rattle.eds_type_rows.proofs.calibrator.coefficient_of.Given as goal

abbrev pub invariant-loop-rest : goal.invariant-loop-rest
invariant-loop-rest l = coefficient_of l.trees l.exponent l.rest ≡ coefficient_of l.trees l.exponent l.terms

abbrev pub decreases-loop-rest : goal.decreases-loop-rest
decreases-loop-rest l = length l.rest
