use Rattle.std.specs.Vec.Iter.{into_iter_items}
use Rattle.eds_constraints.proofs.RowsEach.{all-are, no-row, no-own}
use Rattle.eds_constraints.proofs.constrain.constrained_rows.Goals as goal

pub returns : goal.returns
returns c =
    let each = no-row c.loop-row.whole (into_iter_items c.loop-row.each) (into_iter_items c.loop-row.row-iterator) _ _ c.loop-row.row-iterator.rest.ok.0 c.in-None.ensures.steps.0 c.loop-row.invariant in
    record { each = each; constrained = all-are c.args.rows c.loop-row.whole c.args.constraints each }

pub returns-in-None-next : goal.returns-in-None-next
returns-in-None-next c =
    let each = no-own c.loop-row.whole (into_iter_items c.loop-row.each) (into_iter_items c.loop-row.row-iterator) _ _ c.loop-row.each.rest.ok.0 c.in-None-next.ensures.cases.0 c.loop-row.invariant in
    record { each = each; constrained = all-are c.args.rows c.loop-row.whole c.args.constraints each }
