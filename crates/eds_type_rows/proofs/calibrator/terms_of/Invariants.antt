use Rattle.std.proofs.Common.{◌≡◌, ◌++◌, drop}
use Rattle.std.specs.Prelude.{codes}
use Rattle.std.specs.List.{flat_map}
use Rattle.eds_type_rows.specs.Places.{held}
use Rattle.eds_type_rows.proofs.calibrator.terms_of.Given as goal

abbrev pub invariant-loop-calibrator : goal.invariant-loop-calibrator
invariant-loop-calibrator l =
    l.terms.items ++ flat_map (held l.trees (codes "Term")) (drop l.calibrator-index l.calibrators) ≡ flat_map (held l.trees (codes "Term")) l.calibrators
