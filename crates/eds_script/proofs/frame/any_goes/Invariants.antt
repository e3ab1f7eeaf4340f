use Rattle.std.proofs.Common.{◌≡◌, length}
use Rattle.eds_script.specs.Frames.{some_carried}
use Rattle.eds_script.proofs.frame.any_goes.Given as goal

abbrev pub invariant-loop-rest : goal.invariant-loop-rest
invariant-loop-rest l = some_carried l.way l.rest ≡ some_carried l.way l.arguments

abbrev pub decreases-loop-rest : goal.decreases-loop-rest
decreases-loop-rest l = length l.rest
