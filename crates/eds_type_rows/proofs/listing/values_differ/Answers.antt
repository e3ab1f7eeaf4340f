use Rattle.std.proofs.Common.{map, sym, ◌∙◌, arith, rules}
use Rattle.std.proofs.lemmas.Int.{to_z-of_z}
use Rattle.std.specs.Ordering.{int_eq}
use mir.Syntax.{w128}
use mir.Val.{SFits, to_z, of_z}
use Rattle.eds_type_rows.specs.Listings.{value}
use Rattle.eds_type_rows.proofs.ListingFacts.{apart-nothing, differ-next, int_eq-sym}
use Rattle.eds_type_rows.proofs.listing.values_differ.Goals as goal

pub loop-entry-init : goal.loop-entry-init
loop-entry-init c = rw (apart-nothing int_eq c.new-before.result.keys (map value c.args.entries.now) c.new-before.ensures.empty) (search rules)

pub loop-entry-preserved : goal.loop-entry-preserved
loop-entry-preserved c =
    let fits : SFits w128 c.entry-item.result.1 = search rules in
    differ-next int_eq int_eq-sym value c.args.entries.now c.loop-entry.entry-index c.entry-item.result c.entry-item.result (to_z w128 (of_z w128 c.entry-item.result.1)) c.loop-entry.before.keys c.add_value.new.before.keys _
    (omega arith) c.entry-item.is (to_z-of_z w128 c.entry-item.result.1 fits) (sym c.if-not-fresh.false ∙ c.in_ok-fresh.ensures.fresh) c.in_ok-fresh.ensures.before c.loop-entry.invariant
