use Rattle.std.proofs.Common.{ap, arith, map, string_bytes}
use Rattle.eds_type_rows.proofs.FixedFacts.{labels-first, labels-next, labels-last}
use Rattle.eds_type_rows.proofs.value_kind.labels_listed.Goals as goal

pub loop-entry-init : goal.loop-entry-init
loop-entry-init c q = labels-first c.args.entries.now (map string_bytes c.new-labels.result.keys) q (ap (map string_bytes) c.new-labels.ensures.empty)

pub loop-entry-preserved : goal.loop-entry-preserved
loop-entry-preserved c q =
    labels-next c.args.entries.now c.loop-entry.entry-index c.entry-item.result c.entry-item.result c.as_str.result.now (map string_bytes c.loop-entry.labels.keys) (map string_bytes c.note_name.new.names.keys) q
    (omega arith) c.entry-item.is c.as_str.ensures (c.in_ok-note_name.ensures q) (c.loop-entry.invariant q)

pub returns : goal.returns
returns c q = labels-last c.args.entries.now c.loop-entry.entry-index (map string_bytes c.loop-entry.labels.keys) q (omega arith) (c.loop-entry.invariant q)
