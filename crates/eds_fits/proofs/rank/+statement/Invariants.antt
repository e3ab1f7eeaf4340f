use Rattle.std.proofs.Common.{◌≡◌, ◌++◌, map, drop}
use Rattle.eds_plan.specs.Statements.{stmt, stmts_of}
use Rattle.eds_fits.specs.Deciding.{called_in}
use Rattle.eds_fits.proofs.rank.+statement.Given as goal

-- the calls so far, and those to come, are all of them
abbrev pub invariant-push_calls-loop-statement : goal.invariant-push_calls-loop-statement
invariant-push_calls-loop-statement l =
    l.called.items ++ called_in (stmts_of (map stmt (drop l.statement-index l.statements))) ≡ l.initial.called.items ++ called_in (stmts_of (map stmt l.statements))
