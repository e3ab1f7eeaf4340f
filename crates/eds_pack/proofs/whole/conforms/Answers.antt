use Rattle.std.proofs.Common.{◌↔◌, ℕ, ap, sym, subst, refl, ◌∙◌, arith}
use Rattle.std.specs.Prelude.{IsTrue, is_ok}
use Rattle.eds_types.specs.Plain.{plain}
use Rattle.eds_types.specs.PackedSizes.{not_long, packed_size_within}
use Rattle.eds_pack.specs.Packs.{Packs}
use Rattle.eds_pack.proofs.Counts.{size_next}
use Rattle.eds_pack.proofs.Rooms.{ok_where}
use Rattle.eds_pack.proofs.whole.conforms.Goals as goal

pub returns-in-Arr : goal.returns-in-Arr
returns-in-Arr c = ok_where (Packs c.args.table.now c.args.id.0 (plain c.args.value.now)) c.packed_bits.result c.is_ok.result c.is_ok.ensures.value c.packed_bits.ensures.size c.packed_bits.ensures.packs

pub returns-in_default : goal.returns-in_default
returns-in_default c =
    let t = c.args.table.now in let id = c.args.id.0 in let v = plain c.args.value.now in
    let is = c.packs_at_once.ensures ∙ ap (λ s. is_ok (not_long s)) (c.flat_size.ensures t (packed_size_within 31 t) id ∙ sym (size_next 32 31 t id c.row.result.now v (omega arith) refl c.row.ensures)) in
    subst (λ b. IsTrue b ↔ ((n : ℕ) × Packs t id v n)) (sym is) (c.packed_sizes.ensures t id c.keeps_rules.ensures c.requires.known v).bool
