use Rattle.std.proofs.Common.{◌+◌, sym, ap, ◌∙◌, arith}
use Rattle.eds_sheet.specs.Compiled.{is_container}
use Rattle.eds_sheet.proofs.Lists.{counted_more, counted_as_before}
use Rattle.eds_sheet.proofs.sheet.count_containers.Goals as goal
use Rattle.eds_sheet.proofs.sheet.count_containers.Goals.{then-is_container, else-is_container}

pub loop-i-preserved : goal.loop-i-preserved
loop-i-preserved c =
    elim c.if-is_container.branch [
      | then-is_container w ↦ record {
        counted =
            w.count-is ∙ ap (λ n. n + 1) c.loop-i.invariant.counted
            ∙ sym (counted_more is_container c.args.table.now c.loop-i.i c.row.result.now c.row.ensures (sym c.is_container.ensures ∙ w.if-is_container.true));
        few = omega (arith, w.count-is, c.loop-i.invariant.few);
      }
      | else-is_container w ↦ record {
        counted =
            w.count-is ∙ c.loop-i.invariant.counted
            ∙ sym (counted_as_before is_container c.args.table.now c.loop-i.i c.row.result.now c.row.ensures (sym c.is_container.ensures ∙ w.if-is_container.false));
        few = omega (arith, w.count-is, c.loop-i.invariant.few);
      }
    ]
