use Rattle.std.proofs.Common.{◌≡◌, ◌+◌, ◌≤◌, List, Some, length, map, take, subst, sym, ap₂, ◌∙◌, arith}
use Rattle.std.specs.List.{All}
use Rattle.eds_bits.specs.Bits.{Bits}
use Rattle.eds_bits.specs.Reader.{bits_left}
use Rattle.eds_types.specs.Plain.{fields, plains_of}
use Rattle.eds_types.specs.Rows.{Table}
use Rattle.eds_types.specs.Rules.{KeepsRules}
use Rattle.eds_types.specs.Spelling.{Spells}
use Rattle.eds_unpack.specs.declared.segment.Operation.{Operation}
use Rattle.eds_unpack.specs.Segments.{IsOperation, IsSegmentOf, said}
use Rattle.eds_unpack.proofs.EntriesSay.{all_say}
use Rattle.eds_unpack.proofs.Fronts.{front_spells, readable}
use Rattle.eds_unpack.proofs.SegmentPasses.{segment_sized}
use Rattle.eds_unpack.proofs.SegmentReads.{each_is, each_within}
use Rattle.eds_unpack.proofs.entries.entries_by.Goals as goal

pub invariant_of-entries : goal.invariant_of-entries
invariant_of-entries c =
    let t = c.args.segments.now in
    let id = c.args.id.0 in
    let s = c.in_ok-segment.segment.now in
    let b = bits_left c.new-reader.result in
    let is : IsSegmentOf t id s = c.in_ok-segment.ensures in
    let are = subst (All (IsOperation t)) (sym c.as_slice.ensures.value) (each_is t id s is) in (
      subst (λ (u : Table). All (IsOperation u) c.as_slice.result.now) (sym c.table-table.ensures) are,
      subst (All (λ (o : Operation). o.at + o.bits ≤ length b)) (sym c.as_slice.ensures.value) (each_within t id (length b) s (omega arith) is),
      c.octets_left.ensures,
    )

pub returns-clause-value : goal.returns-clause-value
returns-clause-value c vs e =
    let t = c.args.segments.now in
    let id = c.args.id.0 in
    let s = c.in_ok-segment.segment.now in
    let b = bits_left c.new-reader.result in
    let is : IsSegmentOf t id s = c.in_ok-segment.ensures in
    let rules : KeepsRules t = subst KeepsRules c.table-table.ensures c.keeps_rules.ensures in
    let same : map (said t b) s.operations.items ≡ map Some vs = ap₂ (λ (u : Table) (os : List Operation). map (said u b) os) (sym c.table-table.ensures) (sym c.as_slice.ensures.value) ∙ e in
    let spelled = front_spells c.reading_is_exact.ensures t id (readable t id rules c.requires.clear c.requires.known) b (fields id (plains_of vs)) s.bits (segment_sized t rules id s b vs is (omega arith) (all_say t b s.operations.items vs same)) in
    subst (λ (w : Bits). Spells t id (fields id (plains_of vs)) (take s.bits w)) c.new-reader.ensures spelled
