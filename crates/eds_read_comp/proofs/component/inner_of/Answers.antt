use Rattle.std.proofs.Common.{◌≡◌, ◌∙◌, ap, map, subst}
use Rattle.std.specs.Prelude.{IfOk}
use Rattle.eds_read_act.specs.Activities.{planned, activities_at}
use Rattle.eds_read_act.specs.MachinePlans.{planned_machine, machines_at}
use Rattle.eds_read_act.specs.Scopes.{Scope, scope_of}
use Rattle.eds_read_comp.specs.Implementations.{activity_nodes, machine_nodes}
use Rattle.eds_read_comp.specs.ParameterMaps.{map_plans}
use Rattle.eds_read_comp.specs.Plans.{scope_with}
use Rattle.eds_read_comp.proofs.Scoping.{scope-made}
use Rattle.eds_read_comp.proofs.component.inner_of.Goals as goal

pub returns : goal.returns
returns c =
    let scope = scope_of c.scope_over-scope.result in
    let said = scope_with c.args.sheet.now.table.now c.args.file.now.tree.now c.args.named.now.ends.items c.args.named.now.variables.items c.args.named.now.activities.items c.args.node in
    let is : scope ≡ said =
    scope-made scope said
    (ap (λ (s : Scope). s.tree) c.scope_over-scope.ensures)
    (ap (λ (s : Scope). s.table) c.scope_over-scope.ensures)
    (ap (λ (s : Scope). s.ends) c.scope_over-scope.ensures ∙ c.in_ok-component.ensures.ends ∙ c.as_slice.ensures.value)
    (ap (λ (s : Scope). s.variables) c.scope_over-scope.ensures ∙ c.in_ok-component.ensures.variables ∙ c.as_slice-2.ensures.value)
    (ap (λ (s : Scope). s.activities) c.scope_over-scope.ensures ∙ c.in_ok-component.ensures.activities ∙ c.as_slice-3.ensures.value)
    (ap (λ (s : Scope). s.transactions) c.scope_over-scope.ensures ∙ c.in_ok-component.ensures.transactions ∙ c.as_slice-4.ensures ∙ c.requires)
    (ap (λ (s : Scope). s.arguments) c.scope_over-scope.ensures) in
    record {
      maps = subst (λ (s : Scope). IfOk c.inner_in.result (λ i. i.maps.items ≡ map_plans s.ends s.variables s.tree c.args.node)) is c.inner_in.ensures.maps;
      activities = subst (λ (s : Scope). IfOk c.inner_in.result (λ i. map planned i.activities ≡ activities_at s (activity_nodes s.tree c.args.node))) is c.inner_in.ensures.activities;
      machines = subst (λ (s : Scope). IfOk c.inner_in.result (λ i. map planned_machine i.machines ≡ machines_at s (machine_nodes s.tree c.args.node))) is c.inner_in.ensures.machines;
    }
