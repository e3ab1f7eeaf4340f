use Rattle.std.proofs.Common.{arith, rules}
use Rattle.std.proofs.lemmas.Int.{to_z-of_z}
use mir.Syntax.{w128}
use mir.Val.{SFits, to_z, of_z}
use Rattle.eds_type_rows.specs.Listings.{value}
use Rattle.eds_type_rows.proofs.ItemFacts.{different-next, counted-few}
use Rattle.eds_type_rows.proofs.items.different_values.Goals as goal

pub loop-entry-preserved : goal.loop-entry-preserved
loop-entry-preserved c =
    let fits : SFits w128 c.entry-item.result.1 = search rules in (
      different-next value c.args.entries.now c.loop-entry.entry-index c.entry-item.result c.entry-item.result (to_z w128 (of_z w128 c.entry-item.result.1)) c.loop-entry.before.keys c.add_value.new.before.keys c.in_ok-fresh.fresh c.loop-entry.count c.counted-count.result _
          (omega arith) c.entry-item.is (to_z-of_z w128 c.entry-item.result.1 fits) c.in_ok-fresh.ensures.fresh c.in_ok-fresh.ensures.before c.counted-count.ensures c.loop-entry.invariant.0,
      counted-few c.loop-entry.count c.in_ok-fresh.fresh c.counted-count.result c.counted-count.ensures c.loop-entry.invariant.1,
    )
