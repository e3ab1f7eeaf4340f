use Rattle.std.proofs.Common.{ap, ◌∙◌, ◌+◌, get_or, drop, arith}
use Rattle.eds_base.specs.declared.ids.TypeId.{TypeId}
use Rattle.eds_types.specs.Rows.{placed_entries, placed_from}
use Rattle.eds_types.specs.Seeking.{entries_in_turn}
use Rattle.eds_types.proofs.Seeking.{along}
use Rattle.eds_unpack.specs.Seeking.{length_among}
use Rattle.eds_unpack.proofs.Listing.{among_found, among_passed}
use Rattle.eds_unpack.proofs.seek.length_in_entries.Goals as goal

pub returns-in-Some : goal.returns-in-Some
returns-in-Some c =
    among_found (placed_entries c.args.table.now (get_or c.args.chain.now c.loop-id.id-index (record { 0 = 0 })).0) (entries_in_turn c.args.table.now (drop (c.loop-id.id-index + 1) c.args.chain.now)) c.in-Some.step _
    (c.in-Some.ensures ∙ ap (λ ps. length_among (placed_from (get_or c.args.chain.now c.loop-id.id-index (record { 0 = 0 })).0 0 ps)) c.entries_of.ensures.value)
    (rw (along (λ (id : TypeId). placed_entries c.args.table.now id.0) c.args.chain.now c.loop-id.id-index (record { 0 = 0 }) (omega arith)) at c.loop-id.invariant)

pub loop-id-preserved : goal.loop-id-preserved
loop-id-preserved c =
    among_passed (placed_entries c.args.table.now (get_or c.args.chain.now c.loop-id.id-index (record { 0 = 0 })).0) (entries_in_turn c.args.table.now (drop (c.loop-id.id-index + 1) c.args.chain.now)) _
    (c.in-None.ensures ∙ ap (λ ps. length_among (placed_from (get_or c.args.chain.now c.loop-id.id-index (record { 0 = 0 })).0 0 ps)) c.entries_of.ensures.value)
    (rw (along (λ (id : TypeId). placed_entries c.args.table.now id.0) c.args.chain.now c.loop-id.id-index (record { 0 = 0 }) (omega arith)) at c.loop-id.invariant)
