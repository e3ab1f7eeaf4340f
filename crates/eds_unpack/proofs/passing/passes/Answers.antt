use Rattle.std.proofs.Common.{◌≡◌, Ok, slice_get}
use Rattle.eds_bits.specs.Bits.{low_bits}
use Rattle.eds_bits.specs.Reader.{bits_left}
use Rattle.eds_unpack.specs.declared.scalar.Scalar.{Scalar}
use Rattle.eds_unpack.specs.Scalars.{plain_of}
use Rattle.eds_unpack.specs.Segments.{value_in}
use Rattle.eds_unpack.proofs.Meanings.{some_has}
use Rattle.eds_unpack.proofs.SegmentReads.{said, sure_value}
use Rattle.eds_unpack.proofs.passing.passes.Goals as goal

pub returns-then-operation : goal.returns-then-operation
returns-then-operation c = λ e. sure_value c.args.table.now (bits_left c.args.reader.now) c.args.operation.now c.requires.is c.if-operation.true c.requires.enough

pub returns : goal.returns
returns c = λ e.
    let t = c.args.table.now in
    let o = c.args.operation.now in
    let x = c.number_of_bits-number.result in
    let found = some_has (λ (s : Scalar). value_in (slice_get t o.id.0) (low_bits o.bits x) ≡ Ok (plain_of s)) c.scalar_at.result c.is_some.result c.scalar_at.ensures c.is_some.ensures e in
    (plain_of found.0, said t (bits_left c.args.reader.now) o x (plain_of found.0) c.requires.enough c.number_of_bits-number.ensures.value found.1)
