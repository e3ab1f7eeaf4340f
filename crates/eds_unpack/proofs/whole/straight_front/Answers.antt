use Rattle.std.proofs.Common.{◌≡◌, ◌+◌, Ok, length, map, sym, subst}
use Rattle.std.specs.Prelude.{IfSome}
use Rattle.eds_bits.specs.Reader.{bits_left}
use Rattle.eds_overlap.specs.Laws.{read_type}
use Rattle.eds_types.specs.declared.value.Value.TheVariants as value
use Rattle.eds_types.specs.Plain.{plain, fields, plains_of}
use Rattle.eds_types.specs.Rows.{Table}
use Rattle.eds_types.proofs.PlainValues.{plain_fields}
use Rattle.eds_unpack.specs.Readers.{sized}
use Rattle.eds_unpack.specs.Segments.{IsSegmentOf, ReadsAs}
use Rattle.eds_unpack.proofs.SegmentPasses.{straight_sized}
use Rattle.eds_unpack.proofs.whole.straight_front.Goals as goal

pub read_segment-requires : goal.read_segment-requires
read_segment-requires c = subst (λ (t : Table). IsSegmentOf t c.args.id.0 c.in-Some.segment.now) c.requires c.in-Some.ensures

pub returns-in-Some-2 : goal.returns-in-Some-2
returns-in-Some-2 c =
    let t = c.args.table.now in
    let id = c.args.id.0 in
    let s = c.in-Some.segment.now in
    let b = bits_left c.new-reader.result in
    let rest = bits_left c.read_segment.new.reader in
    let v = fields id (plains_of (map plain c.in-Some-2.values.items)) in
    let is = subst (λ (t : Table). IsSegmentOf t id s) c.requires c.in-Some.ensures in
    let reads = subst (λ o. IfSome o (λ vs. ReadsAs t id b (fields id (plains_of (map plain vs.items))) rest)) c.in-Some-2.is c.in_ok-values.ensures.read in
    let size = subst (λ o. IfSome o (λ vs. length b ≡ s.bits + length rest)) c.in-Some-2.is c.in_ok-values.ensures.size in
    subst (λ b. sized b (read_type t id b) ≡ Ok (plain (value.Fields c.args.id c.in-Some-2.values), s.bits)) c.new-reader.ensures
    (subst (λ w. sized b (read_type t id b) ≡ Ok (w, s.bits)) (sym (plain_fields c.args.id c.in-Some-2.values)) (straight_sized t c.keeps_rules.ensures id b rest v s.bits is.straight reads size))
