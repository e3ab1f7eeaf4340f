use Rattle.eds_graph.specs.Search.{Sound, left_over}
use Rattle.eds_graph.proofs.search.courses.Given as goal

abbrev pub invariant-loop-part : goal.invariant-loop-part
invariant-loop-part l = Sound l.graph l.search.states l.search.opened l.search.waiting l.search.parts

abbrev pub decreases-loop-part : goal.decreases-loop-part
decreases-loop-part l = left_over l.graph l.search.states l.search.waiting l.search.parts
