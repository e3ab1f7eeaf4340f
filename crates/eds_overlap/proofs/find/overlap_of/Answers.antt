use Rattle.std.proofs.Common.{refl, sym, subst, ◌∙◌}
use Rattle.eds_base.specs.declared.ids.TypeId.{TypeId}
use Rattle.eds_types.specs.Overlap.{Overlapping}
use Rattle.eds_overlap.specs.Pairs.{Named}
use Rattle.eds_overlap.proofs.Meeting.{if_some, if_none, sets_at, overlapping_from, no_overlap, parted_of}
use Rattle.eds_overlap.proofs.find.overlap_of.Goals as goal

pub returns-clause-some : goal.returns-clause-some
returns-clause-some c =
    let ours = sets_at c.args.table.now c.args.sets.now c.args.first.0 c.index-sets-first.result c.index-sets-first.result c.requires.sets c.index-sets-first.is c.requires.first refl in
    let theirs = sets_at c.args.table.now c.args.sets.now c.args.second.0 c.index-sets-second.result c.index-sets-second.result c.requires.sets c.index-sets-second.is c.requires.second refl in
    if_some _ _ c.met_at.result (λ (x : TypeId) h. subst (λ (y : TypeId). Overlapping c.args.table.now (Named c.args.used.now) y.0 c.args.first.0 c.args.second.0) (sym h.0)
    (overlapping_from c.args.table.now (Named c.args.used.now) c.in_ok-id.id.0 c.args.first.0 c.args.second.0 c.index-sets-first.result c.index-sets-second.result
    (sym c.is_concrete.ensures ∙ c.if-not-is_concrete.false) (sym c.is_concrete-else-not-is_concrete.ensures ∙ c.if-not-is_concrete-2.false) c.in_ok-id.ensures.some ours theirs h.1)) c.met_at.ensures.some

pub returns-clause-none : goal.returns-clause-none
returns-clause-none c =
    let ours = sets_at c.args.table.now c.args.sets.now c.args.first.0 c.index-sets-first.result c.index-sets-first.result c.requires.sets c.index-sets-first.is c.requires.first refl in
    let theirs = sets_at c.args.table.now c.args.sets.now c.args.second.0 c.index-sets-second.result c.index-sets-second.result c.requires.sets c.index-sets-second.is c.requires.second refl in
    if_none _ _ c.met_at.result (no_overlap c.args.table.now (Named c.args.used.now) c.in_ok-id.id.0 c.args.first.0 c.args.second.0 c.index-sets-first.result c.index-sets-second.result c.keeps_rules.ensures c.in_ok-id.ensures.some ours theirs) c.met_at.ensures.none

pub returns-in_err-id-clause-none : goal.returns-in_err-id-clause-none
returns-in_err-id-clause-none c = rw c.from_residual.ensures (λ x o. c.in_err-id.ensures.none x (parted_of c.args.table.now (Named c.args.used.now) x c.args.first.0 c.args.second.0 o))
