use Rattle.std.proofs.Common.{ℕ, Option, length, ap, ◌∙◌}
use Rattle.eds_plan.specs.Statements.{stmts}
use Rattle.eds_read_act.specs.Bodies.{body_by, statement_at}
use Rattle.eds_read_act.specs.Scopes.{scope_of}
use Rattle.eds_read_act.proofs.statement.body_of.Goals as goal

pub returns : goal.returns
returns c =
    let s = scope_of c.args.scope.now in
    ap stmts c.from_vec.ensures ∙ c.in_ok-statements.ensures
    ∙ ap (λ (d : ℕ). body_by s (λ m. statement_at s d m) c.child_named-body.result) c.len.ensures
    ∙ ap (λ (o : Option ℕ). body_by s (λ m. statement_at s (length s.tree) m) o) c.child_named-body.ensures
