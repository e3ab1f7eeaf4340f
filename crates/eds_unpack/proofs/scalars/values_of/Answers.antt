use Rattle.std.proofs.Common.{◌≡◌, ◌+◌, ◌≤◌, length, slice_get, ap, ◌∙◌, arith}
use Rattle.eds_bits.specs.Reader.{bits_left}
use Rattle.eds_unpack.specs.Segments.{value_in}
use Rattle.eds_unpack.proofs.ItemReads.{items_more}
use Rattle.eds_unpack.proofs.Meanings.{on_true}
use Rattle.eds_unpack.proofs.scalars.values_of.Goals as goal

pub loop-preserved : goal.loop-preserved
loop-preserved c =
    let n = c.args.operation.now.bits in
    let b = bits_left c.args.reader.now in
    let so = c.loop.invariant in
    let put = on_true c.in_ok-put_value.field-0 c.in_ok-put_value.ensures.put c.if-not-branch.false in
    let size : length c.loop.values.items ≡ c.loop.counter = omega (arith, so.count) in
    let enough : c.loop.at + n ≤ length b = grind (arith, c.requires.enough, so.place, c.loop-test.true) in
    record {
      place = omega (arith, so.place, c.from.ensures);
      count = on_true c.in_ok-put_value.field-0 c.in_ok-put_value.ensures.more c.if-not-branch.false ∙ ap (λ k. k + 1) so.count;
      room = omega (arith, so.room, c.put_value.ensures.room);
      values = items_more (value_in (slice_get c.args.table.now c.args.operation.now.id.0)) n c.loop.at c.loop.counter c.number_at-number.result b c.loop.values.items c.put_value.new.values.items so.place size enough c.number_at-number.ensures.value put so.values;
    }
