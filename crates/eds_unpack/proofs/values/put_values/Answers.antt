use Rattle.std.proofs.Common.{◌≡◌, ◌∙◌, take, ap, arith}
use Rattle.std.proofs.lemmas.Bool.{OnFalse_at}
use Rattle.eds_bits.specs.Reader.{bits_left}
use Rattle.eds_unpack.proofs.Meanings.{on_true}
use Rattle.eds_unpack.proofs.SegmentReads.{cut_back, none_put, values_more}
use Rattle.eds_unpack.proofs.values.put_values.Goals as goal

pub loop-operation-init : goal.loop-operation-init
loop-operation-init c = record {
  put = none_put c.args.table.now (bits_left c.args.reader.now) c.args.values.now.items c.reserve.new.self.items c.reserve.ensures.items;
  long = omega (arith, c.reserve.ensures.len);
  room = omega (arith, c.reserve.ensures.len, c.in_ok-reserve.ensures.ok);
}

pub loop-operation-preserved : goal.loop-operation-preserved
loop-operation-preserved c =
    let put = on_true c.in_ok-put_value.field-0 c.in_ok-put_value.ensures.put c.if-not-branch.false in
    let more = on_true c.in_ok-put_value.field-0 c.in_ok-put_value.ensures.more c.if-not-branch.false in
    let so = c.loop-operation.invariant in
    record {
      put = values_more c.args.table.now (bits_left c.args.reader.now) c.args.operations.now c.loop-operation.operation-index c.operation-item.result c.number_of_bits-number.result c.args.values.now.items c.loop-operation.values.items c.put_value.new.values.items c.loop-operation-test.true c.operation-item.is c.requires.within c.number_of_bits-number.ensures.value put so.put;
      long = omega (arith, more, so.long);
      room = omega (arith, so.room, c.put_value.ensures.room);
    }

pub returns-then-not-branch-clause-same : goal.returns-then-not-branch-clause-same
returns-then-not-branch-clause-same c =
    let same : c.put_value.new.values.items ≡ c.loop-operation.values.items = OnFalse_at c.if-not-branch.true c.in_ok-put_value.ensures.same in
    cut_back c.len-before.result c.args.values.now.items c.loop-operation.values.items c.truncate.new.self.items c.loop-operation.invariant.put.values (omega (arith, c.len-before.ensures)) (c.truncate.ensures.items ∙ ap (take c.len-before.result) same) c.loop-operation.invariant.put.last
