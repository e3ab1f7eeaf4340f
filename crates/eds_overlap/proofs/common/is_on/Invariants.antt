use Rattle.std.proofs.Common.{◌≡◌, drop}
use Rattle.eds_overlap.specs.Common.{is_on}
use Rattle.eds_overlap.proofs.common.is_on.Given as goal

abbrev pub invariant-loop-one : goal.invariant-loop-one
invariant-loop-one l = is_on l.common l.path ≡ is_on (drop l.one-index l.common) l.path
