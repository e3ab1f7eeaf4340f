use Rattle.std.proofs.Common.{◌≡◌, ◌++◌, drop, map}
use Rattle.eds_snap.specs.Seen.{told_now}
use Rattle.eds_snap.specs.Entries.{blank}
use Rattle.eds_snap.proofs.told.all_blank.Given as goal

abbrev pub invariant-loop-component : goal.invariant-loop-component
invariant-loop-component l = map told_now l.all.items ++ map blank (drop l.component-index l.plan) ≡ map blank l.plan
