use Rattle.std.proofs.Common.{subst}
use Rattle.std.specs.List.{All}
use Rattle.std.proofs.lemmas.List.{take_all}
use Rattle.std.proofs.lemmas.List.Elements.{All-more}
use Rattle.eds_bits.specs.Reader.{bits_left}
use Rattle.eds_unpack.specs.Segments.{HasValue}
use Rattle.eds_unpack.proofs.passing.have_values.Goals as goal

pub loop-operation-preserved : goal.loop-operation-preserved
loop-operation-preserved c =
    All-more (HasValue c.args.table.now (bits_left c.args.reader.now)) c.args.operations.now c.loop-operation.operation-index c.operation-item.result c.loop-operation-test.true c.loop-operation.invariant
    (subst (HasValue c.args.table.now (bits_left c.args.reader.now)) c.operation-item.is (c.passes.ensures c.if-not-passes.false))

pub returns : goal.returns
returns c = λ e. subst (All (HasValue c.args.table.now (bits_left c.args.reader.now))) (take_all c.loop-operation.operation-index c.args.operations.now c.loop-operation-test.false) c.loop-operation.invariant
