use Rattle.std.proofs.Common.{List, ap, ◌∙◌}
use Rattle.eds_base.specs.Refusals.{least}
use Rattle.eds_graph.specs.declared.course.Course.{Course}
use Rattle.eds_graph.specs.Ways.{all_courses}
use Rattle.eds_read_act.specs.Activities.{breaks_at, over_from}
use Rattle.eds_read_act.specs.Scopes.{scope_of}
use Rattle.eds_read_act.proofs.activity.least_activity_break.Goals as goal

pub returns : goal.returns
returns c =
    c.in_ok-found.ensures
    ∙ ap (λ (cs : List Course). least (over_from (breaks_at c.args.file (scope_of c.args.scope.now) cs) 0 c.args.nodes.now))
    (c.as_slice.ensures.value ∙ c.in_ok-courses.ensures ∙ ap all_courses c.in_ok-graph.ensures)
