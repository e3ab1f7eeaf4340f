use Rattle.std.proofs.Common.{◌≡◌, drop}
use Rattle.eds_fits.specs.Deciding.{arguments_known}
use Rattle.eds_fits.proofs.component.arguments_known.Given as goal

abbrev pub invariant-loop-argument : goal.invariant-loop-argument
invariant-loop-argument l = arguments_known l.table (drop l.argument-index l.arguments) ≡ arguments_known l.table l.arguments
