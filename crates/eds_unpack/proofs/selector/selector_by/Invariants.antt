use Rattle.std.proofs.Common.{◌≤◌, length}
use Rattle.std.specs.Prelude.{IfSome}
use Rattle.eds_unpack.specs.Selectors.{IsSelectorOf}
use Rattle.eds_unpack.proofs.selector.selector_by.Given as goal

abbrev pub invariant-loop-rest : goal.invariant-loop-rest
invariant-loop-rest l = record {
  few : length l.rest ≤ 16;
  found : IfSome l.best (IsSelectorOf l.table l.id.0);
}

abbrev pub decreases-loop-rest : goal.decreases-loop-rest
decreases-loop-rest l = length l.rest
