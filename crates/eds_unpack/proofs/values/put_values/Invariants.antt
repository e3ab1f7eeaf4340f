use Rattle.std.proofs.Common.{◌≡◌, ◌+◌, ◌≤◌, length, take}
use Rattle.std.specs.Prelude.{vec_len, vec_capacity}
use Rattle.eds_bits.specs.Reader.{bits_left}
use Rattle.eds_unpack.specs.Segments.{ArePut}
use Rattle.eds_unpack.proofs.values.put_values.Given as goal

abbrev pub invariant-loop-operation : goal.invariant-loop-operation
invariant-loop-operation l = record {
  put : ArePut l.table (bits_left l.reader) (take l.operation-index l.operations) l.fn.values.items l.values.items;
  long : vec_len l.values ≡ vec_len l.fn.values + l.operation-index;
  room : vec_len l.fn.values + length l.operations ≤ vec_capacity l.values;
}
