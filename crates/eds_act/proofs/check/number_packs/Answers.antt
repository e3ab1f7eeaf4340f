use Rattle.std.proofs.Common.{◌↔◌, ◌∙◌, ℕ, rules, refl, sym, ap, subst, arith}
use Rattle.std.specs.Prelude.{IsTrue, is_ok}
use Rattle.std.proofs.lemmas.Int.{to_z-of_z}
use mir.Syntax.{w128}
use Rattle.eds_types.specs.Plain.{num}
use Rattle.eds_types.specs.PackedSizes.{not_long, packed_size_within, packed_kind_size}
use Rattle.eds_pack.specs.Packs.{Packs}
use Rattle.eds_pack.proofs.Counts.{size_next}
use Rattle.eds_pack.proofs.Scalars.{within_by}
use Rattle.eds_act.proofs.Telling.{number_packs}
use Rattle.eds_act.proofs.check.number_packs.Goals as goal

pub returns-in-Int : goal.returns-in-Int
returns-in-Int c =
    let t = c.args.table.now in
    let id = c.args.id.0 in
    let v = num c.args.number.now in
    let within = within_by c.in-Int.spans c.args.number.now _ c.holds.result (to_z-of_z w128 c.args.number.now (search rules)) c.holds.ensures in
    let is = within
    ∙ sym (number_packs c.in-Int.form c.in-Int.spans c.args.number.now (omega (arith, c.if-form-le-MOST_BITS.true)))
    ∙ ap (λ s. is_ok (not_long s)) (ap (λ k. packed_kind_size t (packed_size_within 31 t) id k v) (sym c.in-Int.is) ∙ sym (size_next 32 31 t id c.row.result.now v (omega arith) refl c.row.ensures)) in
    subst (λ b. IsTrue b ↔ ((n : ℕ) × Packs t id v n)) (sym is) (c.packed_sizes.ensures t id c.keeps_rules.ensures c.requires.known v).bool
