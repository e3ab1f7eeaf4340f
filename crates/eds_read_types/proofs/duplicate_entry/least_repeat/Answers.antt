use Rattle.std.proofs.Common.{◌++◌, map, refl, ap, string_bytes, arith}
use Rattle.eds_base.specs.Refusals.{first_of, least}
use Rattle.eds_types.specs.Rows.{base_of}
use Rattle.eds_read_types.specs.DuplicateEntry.{repeats, names_above}
use Rattle.eds_read_types.proofs.EntriesLemmas.{least-next_entry}
use Rattle.eds_read_types.proofs.duplicate_entry.least_repeat.Goals as goal

pub loop-at-init : goal.loop-at-init
loop-at-init c = ap (λ ks. least (repeats c.args.trees.now (map string_bytes ks ++ names_above 16 c.args.above.now.rows.now (base_of c.args.above.now.rows.now c.args.id)) c.args.entries.now)) c.new-before.ensures.empty

pub loop-at-preserved : goal.loop-at-preserved
loop-at-preserved c =
    let above = names_above 16 c.args.above.now.rows.now (base_of c.args.above.now.rows.now c.args.id) in
    least-next_entry c.args.trees.now c.args.entries.now c.loop-at.at-index _ _ c.own_name.result.now (map string_bytes c.loop-at.before.keys ++ above) (map string_bytes c.note_entry.new.before.keys ++ above) c.loop-at.found c.in_ok-found.found _
    (omega arith) refl c.own_name.ensures c.in_ok-found.ensures.before c.in_ok-found.ensures.found c.loop-at.invariant
