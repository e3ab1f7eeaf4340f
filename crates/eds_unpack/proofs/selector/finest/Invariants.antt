use Rattle.std.specs.Prelude.{IfSome}
use Rattle.eds_unpack.specs.Selectors.{IsSelectorOf}
use Rattle.eds_unpack.proofs.selector.finest.Given as goal

abbrev pub invariant-loop-constraint : goal.invariant-loop-constraint
invariant-loop-constraint l = IfSome l.best (IsSelectorOf l.table l.id.0)
