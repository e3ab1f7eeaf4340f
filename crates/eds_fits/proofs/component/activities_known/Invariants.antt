use Rattle.std.proofs.Common.{◌≡◌, drop}
use Rattle.eds_fits.specs.Deciding.{activities_known}
use Rattle.eds_fits.proofs.component.activities_known.Given as goal

abbrev pub invariant-loop-activity : goal.invariant-loop-activity
invariant-loop-activity l = activities_known l.table (drop l.activity-index l.activities) ≡ activities_known l.table l.activities
