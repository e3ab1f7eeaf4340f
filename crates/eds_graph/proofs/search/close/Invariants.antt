use Rattle.std.proofs.Common.{◌≡◌, ◌≤◌, length}
use Rattle.eds_graph.specs.Search.{Closes}
use Rattle.eds_graph.proofs.search.close.Given as goal

abbrev pub invariant-loop-course : goal.invariant-loop-course
invariant-loop-course l =
    Closes l.course l.initial.search.states l.initial.search.opened l.search.states l.search.opened
    × (l.first ≤ length l.search.opened)
    × (l.search.waiting ≡ l.initial.search.waiting)
    × (l.search.parts ≡ l.initial.search.parts)

abbrev pub decreases-loop-course : goal.decreases-loop-course
decreases-loop-course l = length l.search.opened
