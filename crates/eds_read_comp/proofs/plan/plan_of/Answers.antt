use Rattle.std.proofs.Common.{arith, map, sym, ◌∙◌}
use Rattle.eds_read_comp.specs.Plans.{said_component, firsts_of, component_of, firsts_at}
use Rattle.eds_read_comp.proofs.Growing.{comp-grown, other-grown}
use Rattle.eds_read_comp.proofs.plan.plan_of.Goals as goal
use Rattle.eds_read_comp.proofs.plan.plan_of.Goals.{then-is_comp+in_ok-push_component, else-is_comp}

pub loop-one-preserved : goal.loop-one-preserved
loop-one-preserved c =
    let said = component_of c.args.sheet.now.faces.trees.now c.args.space.now c.args.sheet.now.table.now c.args.sheet.now.faces.faces.now in
    elim c.if-is_comp.branch [
      | then-is_comp+in_ok-push_component w ↦
          rw w.plan-is (
            comp-grown said c.declared-one-items.result.now c.loop-one.one-index c.one-item.result _ (map said_component c.loop-one.plan) (map said_component w.push_component.new.plan) _
                (omega arith) c.one-item.is (sym c.is_comp.ensures ∙ w.if-is_comp.true) w.in_ok-push_component.ensures.said c.loop-one.invariant.0,
            λ firsts told.
                comp-grown (firsts_at firsts c.args.sheet.now.faces.trees.now c.args.space.now) c.declared-one-items.result.now c.loop-one.one-index c.one-item.result _
                (map firsts_of c.loop-one.plan) (map firsts_of w.push_component.new.plan) _
                (omega arith) c.one-item.is (sym c.is_comp.ensures ∙ w.if-is_comp.true) (w.in_ok-push_component.ensures.firsts firsts told) (c.loop-one.invariant.1 firsts told),
          )
      | else-is_comp w ↦
          rw w.plan-is (
            other-grown said c.declared-one-items.result.now c.loop-one.one-index c.one-item.result _ (map said_component c.loop-one.plan) _
                (omega arith) c.one-item.is (sym c.is_comp.ensures ∙ w.if-is_comp.false) c.loop-one.invariant.0,
            λ firsts told.
                other-grown (firsts_at firsts c.args.sheet.now.faces.trees.now c.args.space.now) c.declared-one-items.result.now c.loop-one.one-index c.one-item.result _ (map firsts_of c.loop-one.plan) _
                (omega arith) c.one-item.is (sym c.is_comp.ensures ∙ w.if-is_comp.false) (c.loop-one.invariant.1 firsts told),
          )
    ]
