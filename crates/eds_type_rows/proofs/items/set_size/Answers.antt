use Rattle.std.proofs.Common.{refl, ap}
use Rattle.std.specs.Int.Signed.{≤ℤ_refl}
use Rattle.eds_base.specs.Spans.{bottom}
use Rattle.eds_type_rows.specs.Items.{set_size}
use Rattle.eds_type_rows.proofs.ItemFacts.{none-before}
use Rattle.eds_type_rows.proofs.items.set_size.Goals as goal

pub loop-rest-init : goal.loop-rest-init
loop-rest-init c = record {
  counted = none-before (set_size c.as_slice-rest.result.now) (set_size c.args.spans.now) (ap set_size c.as_slice-rest.ensures.same);
  small = refl;
  floor = bottom;
  above = ≤ℤ_refl bottom;
  rises = rw c.as_slice-rest.ensures.same c.as_slice-rest.ensures.rises;
}
