use Rattle.std.proofs.Common.{take}
use Rattle.eds_pack.specs.Building.{LeastOf, IsListedIn}
use Rattle.eds_pack.proofs.least.least_listed.Given as goal

abbrev pub invariant-loop-listed : goal.invariant-loop-listed
invariant-loop-listed l = LeastOf (IsListedIn (take l.listed-index l.listing) l.set) l.least
