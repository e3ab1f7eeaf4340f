use Rattle.std.proofs.Common.{◌≡◌, drop}
use Rattle.eds_fits.specs.Deciding.{members_known}
use Rattle.eds_fits.proofs.component.members_known.Given as goal

abbrev pub invariant-loop-member : goal.invariant-loop-member
invariant-loop-member l = members_known l.table (drop l.member-index l.members) ≡ members_known l.table l.members
