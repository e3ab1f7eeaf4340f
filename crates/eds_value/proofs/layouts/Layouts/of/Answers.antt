use Rattle.std.proofs.Common.{arith, subst, sym}
use Rattle.eds_value.specs.Layouts.{AreLayouts}
use Rattle.eds_value.proofs.Pieces.{layouts_more}
use Rattle.eds_value.proofs.layouts.Layouts.of.Goals as goal

pub loop-number-preserved : goal.loop-number-preserved
loop-number-preserved c =
    let t = c.args.table.now in
    let so = c.loop-number.invariant in
    record {
      are = subst (AreLayouts t) (sym c.in_ok-push.ensures.items) (layouts_more t c.loop-number.each.items c.in_ok-layout.layout c.loop-number.number so.are so.long c.in_ok-layout.ensures);
      long = omega (arith, c.in_ok-push.ensures.len, so.long);
    }
