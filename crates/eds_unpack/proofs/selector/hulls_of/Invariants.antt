use Rattle.std.proofs.Common.{◌≡◌, ◌++◌, drop}
use Rattle.std.specs.List.{AllByRecursion}
use Rattle.eds_unpack.specs.Selectors.{IsHull, members_of}
use Rattle.eds_unpack.proofs.selector.hulls_of.Given as goal

abbrev pub invariant-loop-member : goal.invariant-loop-member
invariant-loop-member l = record {
  members : members_of l.hulls ++ drop l.member-index l.members ≡ l.members;
  each : AllByRecursion (IsHull l.table l.id.0 l.path) l.hulls;
}
