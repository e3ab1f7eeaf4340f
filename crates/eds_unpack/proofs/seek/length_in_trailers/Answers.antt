use Rattle.std.proofs.Common.{ap, ◌∙◌, ◌-◌, length, get_or, take, reverse, arith}
use Rattle.std.proofs.lemmas.List.{length-take}
use Rattle.eds_base.specs.declared.ids.TypeId.{TypeId}
use Rattle.eds_types.specs.Rows.{placed_trailers, placed_from, entries_of}
use Rattle.eds_types.specs.Seeking.{trailers_in_turn}
use Rattle.eds_types.proofs.Seeking.{last_of}
use Rattle.eds_unpack.specs.Seeking.{length_among}
use Rattle.eds_unpack.proofs.Listing.{among_found, among_passed}
use Rattle.eds_unpack.proofs.seek.length_in_trailers.Goals as goal

pub returns-in-Some : goal.returns-in-Some
returns-in-Some c =
    let last = (get_or c.loop-rest.rest.now (length c.loop-rest.rest.now - 1) (record { 0 = 0 })).0 in
    among_found (placed_trailers c.args.table.now last) (trailers_in_turn c.args.table.now (reverse (take (length c.loop-rest.rest.now - 1) c.loop-rest.rest.now))) c.in-Some.step _
    (c.in-Some.ensures ∙ ap (λ ps. length_among (placed_from last (length ps) c.trailers_of.result.now)) c.entries_of.ensures.value ∙ ap (λ ps. length_among (placed_from last (length (entries_of c.args.table.now last)) ps)) c.trailers_of.ensures.value)
    (rw (last_of (λ (id : TypeId). placed_trailers c.args.table.now id.0) c.loop-rest.rest.now (record { 0 = 0 }) (omega arith)) at c.loop-rest.invariant.sought)

pub loop-rest-preserved : goal.loop-rest-preserved
loop-rest-preserved c =
    let last = (get_or c.loop-rest.rest.now (length c.loop-rest.rest.now - 1) (record { 0 = 0 })).0 in
    record {
      less = omega (arith, length-take (length c.loop-rest.rest.now - 1) c.loop-rest.rest.now, c.loop-rest.invariant.less);
      sought =
          among_passed (placed_trailers c.args.table.now last) (trailers_in_turn c.args.table.now (reverse (take (length c.loop-rest.rest.now - 1) c.loop-rest.rest.now))) _
          (c.in-None.ensures ∙ ap (λ ps. length_among (placed_from last (length ps) c.trailers_of.result.now)) c.entries_of.ensures.value ∙ ap (λ ps. length_among (placed_from last (length (entries_of c.args.table.now last)) ps)) c.trailers_of.ensures.value)
          (rw (last_of (λ (id : TypeId). placed_trailers c.args.table.now id.0) c.loop-rest.rest.now (record { 0 = 0 }) (omega arith)) at c.loop-rest.invariant.sought);
    }
