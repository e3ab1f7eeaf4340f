use Rattle.std.proofs.Common.{◌≡◌, ◌++◌, map, drop}
use Rattle.eds_graph.specs.Search.{course_in}
use Rattle.eds_graph.proofs.search.courses_known.Given as goal

abbrev pub invariant-loop-known : goal.invariant-loop-known
invariant-loop-known l = l.courses.items ++ map course_in (drop l.known-index l.states) ≡ map course_in l.states
