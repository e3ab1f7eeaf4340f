use Rattle.std.proofs.Common.{arith, map}
use Rattle.eds_overlap.specs.Pairs.{IsDeclared}
use Rattle.eds_overlap.proofs.TakenIn.{each_behind, length_behind, at_behind, next}
use Rattle.eds_overlap.proofs.sets.gathered_sets.Goals as goal

pub take_in-requires : goal.take_in-requires
take_in-requires c = each_behind (IsDeclared c.args.table.now) c.args.constraints.now c.loop-constraint.constraint-index c.constraint-item.result c.constraint-item.is (omega arith) c.requires.declared

pub loop-constraint-preserved : goal.loop-constraint-preserved
loop-constraint-preserved c =
    next c.args.table.now (map (λ c. c.now) c.args.constraints.now) c.loop-constraint.constraint-index c.constraint-item.result.now c.loop-constraint.sets.items c.take_in.new.sets.items c.requires.order
    (omega (arith, length_behind c.args.constraints.now)) (at_behind c.args.constraints.now c.loop-constraint.constraint-index c.constraint-item.result c.constraint-item.is (omega arith)) c.in_ok-take_in.ensures c.loop-constraint.invariant
