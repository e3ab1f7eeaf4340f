use Rattle.std.proofs.Common.{◌+ℤ◌, ◌*ℤ◌, pos, cond, Some, None, ◌∙◌, sym, ap, ap₂, subst, map, arith, FitsSigned}
use Rattle.std.specs.Ordering.{int_eq}
use Rattle.std.proofs.lemmas.Int.{to_z-of_z}
use mir.Syntax.{w64, w128}
use mir.Val.{to_z, of_z}
use Rattle.eds_types.specs.PackedSizes.{told_by}
use Rattle.eds_types.specs.Plain.{num, plain}
use Rattle.eds_pack.specs.Putting.{own_octets}
use Rattle.eds_pack.proofs.LengthNumbers.{number_fits}
use Rattle.eds_types.proofs.PlainValues.{plain_num}
use Rattle.eds_pack.proofs.Telling.{number_found, number_missed}
use Rattle.eds_pack.proofs.told.length_value.Goals as goal

pub unreachable-requires : goal.unreachable-requires
unreachable-requires c =
    let m = own_octets c.args.fields.now.table.now c.args.fields.now.depth c.args.fields.now.own.0 (map plain c.args.fields.now.values.now) in
    let o = c.octets_of.result in
    number_missed c.args.c0 c.args.c1 c.requires.told.0 m c.requires.scale c.requires.told.1 o c.octets_of.ensures.value
    (c.in-None.ensures ∙ ap₂ (λ a b. cond (int_eq (a +ℤ (b *ℤ told_by a b o)) (pos o)) (Some (told_by a b o)) None) (to_z-of_z w64 c.args.c0 c.ranges.c0) (to_z-of_z w64 c.args.c1 c.ranges.c1))

pub returns : goal.returns
returns c =
    let m = own_octets c.args.fields.now.table.now c.args.fields.now.depth c.args.fields.now.own.0 (map plain c.args.fields.now.values.now) in
    let o = c.octets_of.result in
    let found =
    number_found c.args.c0 c.args.c1 c.requires.told.0 m c.requires.scale c.requires.told.1 o c.in-Some.number c.octets_of.ensures.value
    (c.in-Some.ensures ∙ ap₂ (λ a b. cond (int_eq (a +ℤ (b *ℤ told_by a b o)) (pos o)) (Some (told_by a b o)) None) (to_z-of_z w64 c.args.c0 c.ranges.c0) (to_z-of_z w64 c.args.c1 c.ranges.c1)) in
    let fits = subst (FitsSigned w128) (sym found) (number_fits c.args.c0 c.args.c1 m c.requires.scale (omega (arith, c.octets_of.ensures.value, c.octets_of.ensures.bound))) in
    plain_num (to_z w128 (of_z w128 c.in-Some.number)) ∙ ap num (to_z-of_z w128 c.in-Some.number fits ∙ found)
