use Rattle.std.proofs.Common.{◌≡◌, drop}
use Rattle.eds_fits.specs.Deciding.{fields_taken}
use Rattle.eds_fits.proofs.operand.fields_fit.Given as goal

abbrev pub invariant-loop-id : goal.invariant-loop-id
invariant-loop-id l =
    fields_taken l.scope.table.now l.scope.component.now.variables l.scope.arguments.now (drop l.id-index l.fields) l.left ≡ fields_taken l.scope.table.now l.scope.component.now.variables l.scope.arguments.now l.fields l.operands
