use Rattle.std.proofs.Common.{ap, ◌∙◌}
use Rattle.eds_read_act.specs.Scopes.{Scope, scope_of}
use Rattle.eds_read_comp.specs.Plans.{scope_at}
use Rattle.eds_read_comp.proofs.Scoping.{scope-made, breaks-in}
use Rattle.eds_read_comp.proofs.component.least_component_break.Goals as goal

pub returns : goal.returns
returns c =
    let said = scope_at c.args.sheet.now.faces.trees.now c.args.file.now.space.now c.args.sheet.now.table.now c.args.sheet.now.faces.faces.now c.args.file.now.tree.now c.args.file.now.file c.args.node in
    breaks-in c.args.file.now.file c.args.node (scope_of c.scope_over-scope.result) said
    (
    scope-made (scope_of c.scope_over-scope.result) said
    (ap (λ (s : Scope). s.tree) c.scope_over-scope.ensures)
    (ap (λ (s : Scope). s.table) c.scope_over-scope.ensures)
    (ap (λ (s : Scope). s.ends) c.scope_over-scope.ensures ∙ c.in_ok-component.ensures.ends ∙ c.as_slice.ensures.value ∙ c.in_ok-named.ensures.ends)
    (ap (λ (s : Scope). s.variables) c.scope_over-scope.ensures ∙ c.in_ok-component.ensures.variables ∙ c.as_slice-2.ensures.value ∙ c.in_ok-named.ensures.variables)
    (ap (λ (s : Scope). s.activities) c.scope_over-scope.ensures ∙ c.in_ok-component.ensures.activities ∙ c.as_slice-3.ensures.value ∙ c.in_ok-named.ensures.activities)
    (ap (λ (s : Scope). s.transactions) c.scope_over-scope.ensures ∙ c.in_ok-component.ensures.transactions ∙ c.as_slice-4.ensures ∙ c.in_ok-named.ensures.transactions)
    (ap (λ (s : Scope). s.arguments) c.scope_over-scope.ensures)
    )
    c.least_in.result c.least_in.ensures
