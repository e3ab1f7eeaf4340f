use Rattle.std.proofs.Common.{◌≡◌, ◌+◌, length}
use Rattle.std.specs.Prelude.{ℤ, ◌≤ℤ◌}
use Rattle.eds_base.specs.Spans.{RisesFrom, bottom}
use Rattle.eds_type_rows.specs.Items.{few, set_size}
use Rattle.eds_type_rows.proofs.items.set_size.Given as goal

abbrev pub invariant-loop-rest : goal.invariant-loop-rest
invariant-loop-rest l =
    record {
      counted : few (l.size + set_size l.rest) ≡ few (set_size l.spans);
      small : few l.size ≡ l.size;
      floor : ℤ;
      above : bottom ≤ℤ floor;
      rises : RisesFrom floor l.rest;
    }

abbrev pub decreases-loop-rest : goal.decreases-loop-rest
decreases-loop-rest l = length l.rest
