use Rattle.std.proofs.Common.{map, sym, ◌∙◌, string_bytes, ap, arith, rules}
use Rattle.eds_base.specs.Reading.{same}
use Rattle.eds_type_rows.specs.Listings.{label}
use Rattle.eds_type_rows.proofs.ListingFacts.{apart-nothing, differ-next, same-sym}
use Rattle.eds_type_rows.proofs.listing.labels_differ.Goals as goal

pub loop-entry-init : goal.loop-entry-init
loop-entry-init c = rw (apart-nothing same (map string_bytes c.new-before.result.keys) (map label c.args.entries.now) (ap (map string_bytes) c.new-before.ensures.empty)) (search rules)

pub loop-entry-preserved : goal.loop-entry-preserved
loop-entry-preserved c =
    differ-next same same-sym label c.args.entries.now c.loop-entry.entry-index c.entry-item.result c.entry-item.result c.as_str.result.now (map string_bytes c.loop-entry.before.keys) (map string_bytes c.add_label.new.before.keys) _
    (omega arith) c.entry-item.is c.as_str.ensures (sym c.if-not-fresh.false ∙ c.in_ok-fresh.ensures.fresh) c.in_ok-fresh.ensures.before c.loop-entry.invariant
