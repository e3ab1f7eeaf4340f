use Rattle.std.proofs.Common.{◌≡◌, ◌+◌, ◌≤◌, length, Ok, sym, subst, arith}
use Rattle.std.specs.List.{All}
use Rattle.eds_bits.specs.Reader.{bits_left}
use Rattle.eds_overlap.specs.Laws.{read_type}
use Rattle.eds_types.specs.Plain.{Plain}
use Rattle.eds_types.specs.Rows.{Table}
use Rattle.eds_unpack.specs.declared.segment.Operation.{Operation}
use Rattle.eds_unpack.specs.Readers.{sized}
use Rattle.eds_unpack.specs.Segments.{HasValue, IsOperation, IsSegmentOf}
use Rattle.eds_unpack.specs.Walks.{type_of}
use Rattle.eds_unpack.proofs.SegmentPasses.{segment_passes}
use Rattle.eds_unpack.proofs.SegmentReads.{each_is, each_within}
use Rattle.eds_unpack.proofs.passing.pass_by_segment.Goals as goal

pub have_values-requires-clause-are : goal.have_values-requires-clause-are
have_values-requires-clause-are c =
    let is = subst (λ (t : Table). IsSegmentOf t c.args.id.0 c.in_ok-segment.segment.now) c.requires c.in_ok-segment.ensures in
    subst (All (IsOperation c.args.table.now)) (sym c.as_slice.ensures.value) (each_is c.args.table.now c.args.id.0 c.in_ok-segment.segment.now is)

pub have_values-requires-clause-within : goal.have_values-requires-clause-within
have_values-requires-clause-within c =
    let is = subst (λ (t : Table). IsSegmentOf t c.args.id.0 c.in_ok-segment.segment.now) c.requires c.in_ok-segment.ensures in
    subst (All (λ (o : Operation). o.at + o.bits ≤ length (bits_left c.new-reader.result))) (sym c.as_slice.ensures.value) (each_within c.args.table.now c.args.id.0 (length (bits_left c.new-reader.result)) c.in_ok-segment.segment.now (omega arith) is)

pub returns-then-have_values : goal.returns-then-have_values
returns-then-have_values c =
    let t = c.args.table.now in
    let is = subst (λ (t : Table). IsSegmentOf t c.args.id.0 c.in_ok-segment.segment.now) c.requires c.in_ok-segment.ensures in
    let have = subst (All (HasValue c.args.table.now (bits_left c.new-reader.result))) c.as_slice.ensures.value (c.have_values.ensures c.if-have_values.true) in
    subst (λ b. (v : Plain) × (sized b (read_type c.args.table.now c.args.id.0 b) ≡ Ok (v, c.in_ok-segment.segment.now.bits)) × (type_of c.args.id.0 v ≡ c.args.id.0)) c.new-reader.ensures
    (segment_passes c.args.table.now c.keeps_rules.ensures c.args.id.0 c.in_ok-segment.segment.now (bits_left c.new-reader.result) is (omega arith) have)
