use Rattle.std.proofs.Common.{◌≡◌, map, drop}
use Rattle.eds_plan.specs.Statements.{stmt, stmts_of}
use Rattle.eds_fits.specs.Deciding.{statements_fit}
use Rattle.eds_fits.proofs.statement.+statement.Given as goal

abbrev pub invariant-statements_fit-loop-statement : goal.invariant-statements_fit-loop-statement
invariant-statements_fit-loop-statement l =
    statements_fit l.body.scope.table.now l.body.scope.component.now l.body.scope.arguments.now l.body.ranks.now l.body.own (stmts_of (map stmt l.statements))
    ≡ statements_fit l.body.scope.table.now l.body.scope.component.now l.body.scope.arguments.now l.body.ranks.now l.body.own (stmts_of (map stmt (drop l.statement-index l.statements)))
