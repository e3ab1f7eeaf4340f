use Rattle.std.proofs.Common.{◌≡◌, drop}
use Rattle.eds_fits.specs.Deciding.{ends_known}
use Rattle.eds_fits.proofs.component.ends_known.Given as goal

abbrev pub invariant-loop-end : goal.invariant-loop-end
invariant-loop-end l = ends_known l.table (drop l.end-index l.ends) ≡ ends_known l.table l.ends
