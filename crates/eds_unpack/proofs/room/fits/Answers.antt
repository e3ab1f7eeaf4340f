use Rattle.std.proofs.Common.{◌≡◌, length, map, sym, ap, subst, ◌∙◌, arith}
use Rattle.std.specs.List.{AllByRecursion, flat_map}
use Rattle.std.proofs.lemmas.List.{length-map}
use Rattle.eds_bits.specs.Bits.{octets_for}
use Rattle.eds_bits.specs.Reader.{bits_left}
use Rattle.eds_types.specs.Fields.{Holds}
use Rattle.eds_types.specs.Rows.{address, chain, constraints_of, list_has, numbers_of, sequence}
use Rattle.eds_types.proofs.Candidates.{numbers_are}
use Rattle.eds_types.proofs.ReadingTests.{has_from}
use Rattle.eds_unpack.specs.Courses.{fields_at}
use Rattle.eds_unpack.specs.Scalars.{plain_of}
use Rattle.eds_unpack.proofs.Meanings.{on_true}
use Rattle.eds_unpack.proofs.Templates.{each_place, on_weaker, parts_are, template_spells}
use Rattle.eds_unpack.proofs.room.fits.Goals as goal

pub fill_by-requires-clause-are : goal.fill_by-requires-clause-are
fill_by-requires-clause-are c = λ i x lt. (parts_are c.args.table.now c.args.member.0 (length (bits_left c.args.reader.now)) c.args.template.now c.requires.template (omega arith) i x lt).0

pub fill_by-requires-clause-near : goal.fill_by-requires-clause-near
fill_by-requires-clause-near c = λ i x lt. (parts_are c.args.table.now c.args.member.0 (length (bits_left c.args.reader.now)) c.args.template.now c.requires.template (omega arith) i x lt).1

pub fill_by-requires-clause-within : goal.fill_by-requires-clause-within
fill_by-requires-clause-within c = λ i x lt. (parts_are c.args.table.now c.args.member.0 (length (bits_left c.args.reader.now)) c.args.template.now c.requires.template (omega arith) i x lt).2

pub returns-clause-value : goal.returns-clause-value
returns-clause-value c =
    let t = c.args.table.now in
    let k = c.args.member.0 in
    let m = c.args.template.now in
    let is = c.requires.template in
    let b = bits_left c.args.reader.now in
    let room = c.fill_by.new.room.items in
    let vs = map plain_of room in
    let ids : numbers_of c.as_slice-chain.result.now ≡ chain t k = numbers_are c.as_slice-chain.result.now (chain t k) (c.as_slice-chain.ensures.value ∙ is.chain) in
    let under = has_from (chain t k) c.args.id.0 (sym (ap (λ xs. list_has xs c.args.id.0) ids) ∙ sym c.if-not-is_among.ensures) in
    let say = on_true c.in_ok-fill_by.field-0 c.in_ok-fill_by.ensures c.if-not-branch.false in
    let each : length m.places.items ≡ length room = each_place t b (octets_for m.bits) 0 m.bits (map address (sequence t k)) m.parts.items m.places.items vs is.parts say ∙ length-map room plain_of in
    let many = ap length c.as_slice.ensures.value ∙ each ∙ sym (ap length c.as_slice-2.ensures.value) in
    let places = c.as_slice.ensures.value in
    on_weaker c.hold_along.result (λ hold.
    template_spells t c.keeps_rules.ensures k m is b vs c.args.id.0 under (omega arith) say
    (subst (λ ids. AllByRecursion (Holds t (fields_at m.places.items vs)) (flat_map (constraints_of t) ids)) ids
    (subst (λ qs. AllByRecursion (Holds t (fields_at qs vs)) (flat_map (constraints_of t) (numbers_of c.as_slice-chain.result.now))) places
    (subst (λ xs. AllByRecursion (Holds t (fields_at c.as_slice.result.now (map plain_of xs))) (flat_map (constraints_of t) (numbers_of c.as_slice-chain.result.now))) c.as_slice-2.ensures.value hold)))
    c.requires.container.0 c.requires.container.1)
    (c.hold_along.ensures many)
