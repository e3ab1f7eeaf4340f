use Rattle.std.proofs.Common.{ap, ◌∙◌, ◌-◌, length, get_or, take, reverse, arith}
use Rattle.std.proofs.lemmas.List.{length-take}
use Rattle.eds_base.specs.declared.ids.TypeId.{TypeId}
use Rattle.eds_types.specs.Rows.{placed_trailers, placed_from, entries_of}
use Rattle.eds_types.specs.Seeking.{seek}
use Rattle.eds_types.specs.Seeking.{trailers_in_turn}
use Rattle.eds_types.proofs.Seeking.{last_of, found, passed}
use Rattle.eds_types.proofs.seek.seek_trailers.Goals as goal

pub returns-in-Ok : goal.returns-in-Ok
returns-in-Ok c = found (((c.args.wanted).0).0) ((c.args.wanted).1) (placed_trailers c.args.table.now (get_or c.loop-rest.rest.now (length c.loop-rest.rest.now - 1) (record { 0 = 0 })).0) (trailers_in_turn c.args.table.now (reverse (take (length c.loop-rest.rest.now - 1) c.loop-rest.rest.now))) c.loop-rest.n c.in-Ok.place _ (c.in-Ok.ensures.place ∙ ap (λ ps. seek (placed_from (get_or c.loop-rest.rest.now (length c.loop-rest.rest.now - 1) (record { 0 = 0 })).0 (length ps) c.trailers_of.result.now) c.loop-rest.n (((c.args.wanted).0).0) ((c.args.wanted).1)) c.entries_of-first.ensures.value ∙ ap (λ ps. seek (placed_from (get_or c.loop-rest.rest.now (length c.loop-rest.rest.now - 1) (record { 0 = 0 })).0 (length (entries_of c.args.table.now (get_or c.loop-rest.rest.now (length c.loop-rest.rest.now - 1) (record { 0 = 0 })).0)) ps) c.loop-rest.n (((c.args.wanted).0).0) ((c.args.wanted).1)) c.trailers_of.ensures.value) (rw (last_of (λ (id : TypeId). placed_trailers c.args.table.now id.0) c.loop-rest.rest.now (record { 0 = 0 }) (omega arith)) at c.loop-rest.invariant.sought)

pub loop-rest-preserved : goal.loop-rest-preserved
loop-rest-preserved c =
    let shorter = length-take (length c.loop-rest.rest.now - 1) c.loop-rest.rest.now in
    record {
      less = omega (arith, shorter, c.loop-rest.invariant.less);
      few = omega (arith, shorter, c.in-Err.ensures.few, c.trailers_of.ensures.few, c.loop-rest.invariant.few);
      sought = passed (((c.args.wanted).0).0) ((c.args.wanted).1) (placed_trailers c.args.table.now (get_or c.loop-rest.rest.now (length c.loop-rest.rest.now - 1) (record { 0 = 0 })).0) (trailers_in_turn c.args.table.now (reverse (take (length c.loop-rest.rest.now - 1) c.loop-rest.rest.now))) c.loop-rest.n c.in-Err.more _ (c.in-Err.ensures.place ∙ ap (λ ps. seek (placed_from (get_or c.loop-rest.rest.now (length c.loop-rest.rest.now - 1) (record { 0 = 0 })).0 (length ps) c.trailers_of.result.now) c.loop-rest.n (((c.args.wanted).0).0) ((c.args.wanted).1)) c.entries_of-first.ensures.value ∙ ap (λ ps. seek (placed_from (get_or c.loop-rest.rest.now (length c.loop-rest.rest.now - 1) (record { 0 = 0 })).0 (length (entries_of c.args.table.now (get_or c.loop-rest.rest.now (length c.loop-rest.rest.now - 1) (record { 0 = 0 })).0)) ps) c.loop-rest.n (((c.args.wanted).0).0) ((c.args.wanted).1)) c.trailers_of.ensures.value) (rw (last_of (λ (id : TypeId). placed_trailers c.args.table.now id.0) c.loop-rest.rest.now (record { 0 = 0 }) (omega arith)) at c.loop-rest.invariant.sought);
    }
