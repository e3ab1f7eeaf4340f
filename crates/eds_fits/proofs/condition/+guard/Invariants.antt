use Rattle.std.proofs.Common.{◌≡◌, map, drop}
use Rattle.eds_plan.specs.Statements.{condition, conditions_of}
use Rattle.eds_fits.specs.Deciding.{conditions_fit}
use Rattle.eds_fits.proofs.condition.+guard.Given as goal

abbrev pub invariant-conditions_fit-loop-guard : goal.invariant-conditions_fit-loop-guard
invariant-conditions_fit-loop-guard l =
    conditions_fit l.scope.table.now l.scope.component.now.variables l.scope.arguments.now (conditions_of (map condition l.guards))
    ≡ conditions_fit l.scope.table.now l.scope.component.now.variables l.scope.arguments.now (conditions_of (map condition (drop l.guard-index l.guards)))
