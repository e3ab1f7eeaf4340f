use Rattle.std.proofs.Common.{◌≡◌, ◌<◌, ◌≤◌, Ok, length, map, take, sym, ap, subst, ◌∙◌}
use Rattle.std.specs.Prelude.{IfSome}
use Rattle.eds_bits.specs.Reader.{bits_left, view_bits}
use Rattle.eds_overlap.specs.Laws.{read_type}
use Rattle.eds_types.specs.declared.value.Value.TheVariants as value
use Rattle.eds_types.specs.Overlap.{IsClear}
use Rattle.eds_types.specs.Plain.{plain, fields, plains_of}
use Rattle.eds_types.specs.Rows.{Table}
use Rattle.eds_types.specs.Spelling.{Spells}
use Rattle.eds_types.proofs.PlainValues.{plain_fields}
use Rattle.eds_unpack.specs.Readers.{sized}
use Rattle.eds_unpack.specs.Scalars.{plain_of}
use Rattle.eds_unpack.proofs.Fronts.{readable, sized_front}
use Rattle.eds_unpack.proofs.whole.template_front.Goals as goal

pub returns : goal.returns
returns c =
    let t = c.table-table.result.now in
    let id = c.args.id.0 in
    let b = bits_left c.new-reader.result in
    let found = c.in-Some.found in
    let n = c.in-Some.bits in
    let vs = map plain_of c.fill_template.new.room.items in
    let v = fields found.0 (plains_of vs) in
    let clear = subst (λ (u : Table). IsClear u id) (sym c.table-table.ensures) c.requires.clear in
    let known = subst (λ (u : Table). id < length u) (sym c.table-table.ensures) c.requires.known in
    let few = subst (λ o. IfSome o (λ x. x.1 ≤ length b)) c.in-Some.is c.in_ok-found.ensures.size in
    let told = subst (λ o. IfSome o (λ x. Spells t id (fields (x.0).0 (plains_of vs)) (take x.1 b))) c.in-Some.is c.in_ok-found.ensures.value in
    let made : plain (value.Fields found c.in_ok-values.values) ≡ v = plain_fields found c.in_ok-values.values ∙ ap (λ ws. fields found.0 (plains_of ws)) (c.in_ok-values.ensures ∙ ap (map plain_of) c.as_slice.ensures.value) in
    let sized_is = sized_front c.reading_is_exact.ensures t id (readable t id c.keeps_rules.ensures clear known) b v n few told in
    subst (λ (u : Table). sized (view_bits c.args.view) (read_type u id (view_bits c.args.view)) ≡ Ok (plain (value.Fields found c.in_ok-values.values), n)) c.table-table.ensures
    (subst (λ b. sized b (read_type t id b) ≡ Ok (plain (value.Fields found c.in_ok-values.values), n)) c.new-reader.ensures
    (subst (λ w. sized b (read_type t id b) ≡ Ok (w, n)) (sym made) sized_is))
