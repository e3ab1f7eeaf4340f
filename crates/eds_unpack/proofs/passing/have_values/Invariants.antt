use Rattle.std.proofs.Common.{take}
use Rattle.std.specs.List.{All}
use Rattle.eds_bits.specs.Reader.{bits_left}
use Rattle.eds_unpack.specs.Segments.{HasValue}
use Rattle.eds_unpack.proofs.passing.have_values.Given as goal

abbrev pub invariant-loop-operation : goal.invariant-loop-operation
invariant-loop-operation l = All (HasValue l.table (bits_left l.reader)) (take l.operation-index l.operations)
