use Rattle.std.proofs.Common.{◌≡◌, ◌++◌, Option, Some, ap, ◌∙◌, IfOk, subst}
use Rattle.eds_base.specs.declared.refusal.Refusal.{Refusal}
use Rattle.eds_base.specs.Refusals.{least}
use Rattle.eds_read_act.specs.Activities.{bad_references_in, mismatches_in}
use Rattle.eds_read_act.specs.Scopes.{Scope, scope_of, with_known}
use Rattle.eds_read_act.proofs.machine.action_break.Goals as goal

pub returns : goal.returns
returns c =
    let P : Option Refusal → Type 0 = λ x. IfOk c.least_break_in.result (λ y. y ≡ x) in
    subst P
    (ap (λ (x : Scope). least (bad_references_in c.args.file x c.args.node ++ mismatches_in c.args.file x c.args.node))
    (c.with-inner.ensures ∙ ap (λ fs. with_known (scope_of c.args.scope.now) (Some fs)) c.requires))
    c.least_break_in.ensures
