use Rattle.std.proofs.Common.{take, map}
use Rattle.eds_overlap.specs.Pairs.{AreSetsInOrder}
use Rattle.eds_overlap.proofs.sets.gathered_sets.Given as goal

abbrev pub invariant-loop-constraint : goal.invariant-loop-constraint
invariant-loop-constraint l = AreSetsInOrder l.table (take l.constraint-index (map (λ c. c.now) l.constraints)) l.sets.items
