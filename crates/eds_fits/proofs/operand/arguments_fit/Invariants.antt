use Rattle.std.proofs.Common.{◌≡◌, drop}
use Rattle.eds_fits.specs.Deciding.{arguments_taken}
use Rattle.eds_fits.proofs.operand.arguments_fit.Given as goal

abbrev pub invariant-loop-argument : goal.invariant-loop-argument
invariant-loop-argument l =
    arguments_taken l.scope.table.now l.scope.component.now.variables l.scope.arguments.now l.way (drop l.argument-index l.arguments) l.left
    ≡ arguments_taken l.scope.table.now l.scope.component.now.variables l.scope.arguments.now l.way l.arguments l.operands
