use Rattle.std.proofs.Common.{◌+◌, ◌≤◌, length, drop, sym, ap, subst, ◌∙◌, arith, length-drop}
use Rattle.std.specs.List.{All}
use Rattle.eds_bits.specs.Reader.{bits_left}
use Rattle.eds_unpack.specs.declared.segment.Operation.{Operation}
use Rattle.eds_unpack.specs.Segments.{ArePut, IsOperation}
use Rattle.eds_unpack.proofs.Meanings.{on_true}
use Rattle.eds_unpack.proofs.SegmentReads.{each_is, each_within, segment_put}
use Rattle.eds_unpack.proofs.values.read_segment.Goals as goal

pub put_values-requires-clause-are : goal.put_values-requires-clause-are
put_values-requires-clause-are c = subst (All (IsOperation c.args.table.now)) (sym c.as_slice-operations.ensures.value) (each_is c.args.table.now c.args.container.0 c.args.segment.now c.requires)

pub put_values-requires-clause-within : goal.put_values-requires-clause-within
put_values-requires-clause-within c = subst (All (λ (o : Operation). o.at + o.bits ≤ length (bits_left c.args.reader.now))) (sym c.as_slice-operations.ensures.value) (each_within c.args.table.now c.args.container.0 (length (bits_left c.args.reader.now)) c.args.segment.now (omega arith) c.requires)

pub returns-clause-read : goal.returns-clause-read
returns-clause-read c =
    let b = bits_left c.args.reader.now in
    let put = subst (λ os. ArePut c.args.table.now b os c.in_ok-values.values.items c.put_values.new.values.items) c.as_slice-operations.ensures.value (on_true c.in_ok-put_values.field-0 c.in_ok-put_values.ensures.put c.if-not-branch.false) in
    segment_put c.args.table.now c.args.container.0 c.args.segment.now b (bits_left c.skip.new.self) c.in_ok-values.values.items c.put_values.new.values.items c.requires (omega arith) c.in_ok-values.ensures.items put (c.skip.ensures ∙ ap (λ n. drop n b) c.from-2.ensures)

pub returns-clause-size : goal.returns-clause-size
returns-clause-size c = omega (arith, length-drop c.from-2.result (bits_left c.args.reader.now), ap length c.skip.ensures, c.from-2.ensures)
