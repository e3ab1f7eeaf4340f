use Rattle.std.proofs.Common.{arith, sym, ◌∙◌}
use Rattle.eds_read_comp.specs.Plans.{unvalued_of}
use Rattle.eds_read_comp.proofs.Growing.{comp-judged, other-judged}
use Rattle.eds_read_comp.proofs.plan.least_unvalued_of_all.Goals as goal
use Rattle.eds_read_comp.proofs.plan.least_unvalued_of_all.Goals.{then-is_comp+in_ok-here, else-is_comp}

pub loop-one-preserved : goal.loop-one-preserved
loop-one-preserved c = λ firsts told. elim c.if-is_comp.branch [
  | then-is_comp+in_ok-here w ↦
      rw w.found-is
      (comp-judged (unvalued_of firsts c.args.trees.now c.args.space.now) c.declared-one-items.result.now c.loop-one.one-index c.one-item.result _ c.loop-one.found w.in_ok-here.here w.first-found.result _
      (omega arith) c.one-item.is (sym c.is_comp.ensures ∙ w.if-is_comp.true) (w.in_ok-here.ensures firsts told) w.first-found.ensures.first (c.loop-one.invariant firsts told))
  | else-is_comp w ↦
      rw w.found-is
      (other-judged (unvalued_of firsts c.args.trees.now c.args.space.now) c.declared-one-items.result.now c.loop-one.one-index c.one-item.result _ c.loop-one.found _
      (omega arith) c.one-item.is (sym c.is_comp.ensures ∙ w.if-is_comp.false) (c.loop-one.invariant firsts told))
]
