use Rattle.std.proofs.Common.{◌≡◌, ◌+◌, ◌≤◌, length, ap, ◌∙◌, arith}
use Rattle.eds_bits.specs.Reader.{bits_left}
use Rattle.eds_unpack.proofs.ItemReads.{items_more}
use Rattle.eds_unpack.proofs.Meanings.{on_true}
use Rattle.eds_unpack.proofs.scalars.numbers_of.Goals as goal

pub loop-preserved : goal.loop-preserved
loop-preserved c =
    let n = c.args.operation.now.bits in
    let b = bits_left c.args.reader.now in
    let so = c.loop.invariant in
    let size : length c.loop.values.items ≡ c.loop.counter = omega (arith, so.count) in
    let enough : c.loop.at + n ≤ length b = grind (arith, c.requires.enough, so.place, c.loop-test.true) in
    record {
      place = omega (arith, so.place, c.from-at.ensures);
      count = on_true c.put_number.result c.put_number.ensures.more c.if-not-put_number.false ∙ ap (λ k. k + 1) so.count;
      room = omega (arith, so.room, c.put_number.ensures.room);
      values = λ value are.
          let put = on_true c.put_number.result (c.put_number.ensures.put value are) c.if-not-put_number.false in
          items_more value n c.loop.at c.loop.counter c.number_at-number.result b c.loop.values.items c.put_number.new.values.items so.place size enough c.number_at-number.ensures.value put (so.values value are);
    }
