use Rattle.std.proofs.Common.{◌≡◌, drop}
use Rattle.eds_graph.specs.declared.course.Course.TheVariants.{Ends}
use Rattle.eds_graph.specs.Search.{join_all}
use Rattle.eds_graph.proofs.search.course_after.Given as goal

abbrev pub invariant-loop-child : goal.invariant-loop-child
invariant-loop-child l = join_all l.states l.course (drop l.child-index l.children) ≡ join_all l.states (Ends 1) l.children
