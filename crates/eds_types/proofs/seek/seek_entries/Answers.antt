use Rattle.std.proofs.Common.{ap, ◌∙◌, ◌+◌, get_or, drop, arith}
use Rattle.eds_base.specs.declared.ids.TypeId.{TypeId}
use Rattle.eds_types.specs.Rows.{placed_entries, placed_from}
use Rattle.eds_types.specs.Seeking.{seek}
use Rattle.eds_types.specs.Seeking.{entries_in_turn}
use Rattle.eds_types.proofs.Seeking.{along, found, passed}
use Rattle.eds_types.proofs.seek.seek_entries.Goals as goal

pub returns-in-Ok-clause-place : goal.returns-in-Ok-clause-place
returns-in-Ok-clause-place c =
    found (((c.args.wanted).0).0) ((c.args.wanted).1) (placed_entries c.args.table.now (get_or c.args.chain.now c.loop-id.id-index (record { 0 = 0 })).0) (entries_in_turn c.args.table.now (drop (c.loop-id.id-index + 1) c.args.chain.now)) c.loop-id.n c.in-Ok.place _ (c.in-Ok.ensures.place ∙ ap (λ ps. seek (placed_from (get_or c.args.chain.now c.loop-id.id-index (record { 0 = 0 })).0 0 ps) c.loop-id.n (((c.args.wanted).0).0) ((c.args.wanted).1)) c.entries_of.ensures.value)
    (rw (along (λ (id : TypeId). placed_entries c.args.table.now id.0) c.args.chain.now c.loop-id.id-index (record { 0 = 0 }) (omega arith)) at c.loop-id.invariant.sought)

pub loop-id-preserved : goal.loop-id-preserved
loop-id-preserved c = record {
  few = omega (arith, c.in-Err.ensures.few, c.entries_of.ensures.few, c.loop-id.invariant.few);
  sought =
      passed (((c.args.wanted).0).0) ((c.args.wanted).1) (placed_entries c.args.table.now (get_or c.args.chain.now c.loop-id.id-index (record { 0 = 0 })).0) (entries_in_turn c.args.table.now (drop (c.loop-id.id-index + 1) c.args.chain.now)) c.loop-id.n c.in-Err.more _ (c.in-Err.ensures.place ∙ ap (λ ps. seek (placed_from (get_or c.args.chain.now c.loop-id.id-index (record { 0 = 0 })).0 0 ps) c.loop-id.n (((c.args.wanted).0).0) ((c.args.wanted).1)) c.entries_of.ensures.value)
      (rw (along (λ (id : TypeId). placed_entries c.args.table.now id.0) c.args.chain.now c.loop-id.id-index (record { 0 = 0 }) (omega arith)) at c.loop-id.invariant.sought);
}
