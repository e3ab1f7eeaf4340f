use Rattle.std.proofs.Common.{rules, ◌≡◌, ◌+◌, arith}
use Rattle.std.specs.HashMap.{get_by_text}
use Rattle.eds_plan.proofs.Called.{ends-more, opened_at}
use Rattle.eds_plan.proofs.ends.index_ends.Goals as goal

pub loop-component-preserved : goal.loop-component-preserved
loop-component-preserved c q =
    let next : c.in_ok-comp.comp ≡ c.loop-component.comp + 1 = search rules in
    ends-more q (get_by_text c.loop-component.index q) (get_by_text c.note_ends.new.index q) c.loop-component.comp c.in_ok-comp.comp c.component-item.result _ _ _
    (opened_at _ c.loop-component.component-index c.component-item.result (omega arith) c.component-item.is) next (c.in_ok-note_ends.ensures q) (c.loop-component.invariant q)
