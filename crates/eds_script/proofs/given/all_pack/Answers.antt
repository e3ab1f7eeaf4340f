use Rattle.std.proofs.Common.{rules, ℕ, List, ◌==◌, ◌+◌, length, sym, ap, ◌∙◌, arith}
use Rattle.eds_base.specs.declared.ids.TypeId.{TypeId}
use Rattle.eds_types.specs.PackedSizes.{packs}
use Rattle.eds_types.specs.Plain.{plain}
use Rattle.eds_plan.proofs.Called.{opened}
use Rattle.eds_script.proofs.Packing.{all_pack-end, all_pack-none, all_pack-stop, all_pack-step, known-behind, there-within}
use Rattle.eds_script.proofs.given.all_pack.Goals as goal

pub returns-in_default-get : goal.returns-in_default-get
returns-in_default-get c =
    let split = opened c.loop-rest.rest.now c.index-rest-0.result _ c.in-len1-up.len_at_least c.index-rest-0.is in
    sym (all_pack-none c.args.table.now c.index-rest-0.result c.loop-rest.rest.now _ c.loop-rest.place c.args.values.now split (sym c.in_default-get.ensures)) ∙ c.loop-rest.invariant.same

pub returns-then-not-packs : goal.returns-then-not-packs
returns-then-not-packs c =
    let split = opened c.loop-rest.rest.now c.index-rest-0.result _ c.in-len1-up.len_at_least c.index-rest-0.is in
    sym (all_pack-stop c.args.table.now c.index-rest-0.result c.loop-rest.rest.now _ c.loop-rest.place c.args.values.now (plain c.in-Some.value.now) c.packs.result split (sym c.in-Some.ensures) (c.packs.ensures ∙ ap (λ (f : List ℕ × TypeId). packs c.args.table.now f.1.0 (plain c.in-Some.value.now)) (sym c.index-rest-0.is)) (search rules)) ∙ c.loop-rest.invariant.same

pub loop-rest-preserved : goal.loop-rest-preserved
loop-rest-preserved c =
    let split = opened c.loop-rest.rest.now c.index-rest-0.result _ c.in-len1-up.len_at_least c.index-rest-0.is in
    let long = ap length split in
    record {
      same = all_pack-step c.args.table.now c.index-rest-0.result c.loop-rest.rest.now _ c.loop-rest.place (c.loop-rest.place + 1) c.args.values.now (plain c.in-Some.value.now) c.packs.result split (sym c.in-Some.ensures) (c.packs.ensures ∙ ap (λ (f : List ℕ × TypeId). packs c.args.table.now f.1.0 (plain c.in-Some.value.now)) (sym c.index-rest-0.is)) (search rules) (search rules) ∙ c.loop-rest.invariant.same;
      known = known-behind c.args.table.now c.index-rest-0.result c.loop-rest.rest.now _ split c.loop-rest.invariant.known;
      within = omega (arith, long, c.loop-rest.invariant.within);
      behind = there-within c.args.values.now c.loop-rest.place (plain c.in-Some.value.now) (sym c.in-Some.ensures);
    }

pub returns : goal.returns
returns c =
    let short = c.in_default.len_below in
    all_pack-end c.args.table.now c.loop-rest.rest.now c.loop-rest.place c.args.values.now _ (omega (arith, short)) c.loop-rest.invariant.behind (ap (λ n. c.loop-rest.place == n) c.len.ensures) ∙ c.loop-rest.invariant.same
