use Rattle.std.proofs.Common.{◌+◌, length}
use Rattle.eds_graph.specs.Reaching.{Reaching, unmarked}
use Rattle.eds_graph.proofs.marks.reached.Given as goal

abbrev pub invariant-loop-next : goal.invariant-loop-next
invariant-loop-next l = Reaching l.graph l.from l.marks.items l.waiting

abbrev pub decreases-loop-next : goal.decreases-loop-next
decreases-loop-next l = length l.waiting + unmarked l.graph l.marks.items
