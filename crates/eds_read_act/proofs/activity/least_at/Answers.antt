use Rattle.std.proofs.Common.{ap, ◌++◌, ◌∙◌}
use Rattle.eds_base.specs.Refusals.{least}
use Rattle.eds_tree.proofs.Least.{least-joined}
use Rattle.eds_read_act.specs.Activities.{bad_references_in, mismatches_in, cycle_if, circular_at}
use Rattle.eds_read_act.specs.Scopes.{Scope, scope_of, with_arguments}
use Rattle.eds_read_act.proofs.activity.least_at.Goals as goal

pub returns : goal.returns
returns c =
    let s = with_arguments (scope_of c.args.scope.now) c.args.head.now.arguments in
    let file = c.args.file in
    let node = c.args.node in
    least-joined (bad_references_in file s node ++ mismatches_in file s node) (cycle_if file node c.args.head.now.name (circular_at c.args.courses.now c.args.number))
    c.in_ok-found.found c.in_ok-cycle.cycle c.first.result
    (c.in_ok-found.ensures ∙ ap (λ (x : Scope). least (bad_references_in file x node ++ mismatches_in file x node)) c.with_head-inner.ensures)
    (c.in_ok-cycle.ensures ∙ ap (λ name. least (cycle_if file node name c.is_circular-circular.result)) c.as_str.ensures ∙ ap (λ b. least (cycle_if file node c.args.head.now.name b)) c.is_circular-circular.ensures)
    c.first.ensures.first
