use Rattle.std.proofs.Common.{◌≡◌, ◌*◌, ◌≤◌, map}
use Rattle.std.specs.Prelude.{Result, vec_len, vec_capacity}
use Rattle.eds_base.specs.declared.fault.Fault.{Fault}
use Rattle.eds_bits.specs.Bits.{Bits}
use Rattle.eds_bits.specs.Reader.{bits_left}
use Rattle.eds_types.specs.Plain.{Plain, plain}
use Rattle.eds_unpack.specs.Items.{AreItems}
use Rattle.eds_unpack.specs.Segments.{AreNumbers}
use Rattle.eds_unpack.proofs.scalars.numbers_of.Given as goal

abbrev pub invariant-loop : goal.invariant-loop
invariant-loop l = record {
  place : l.at ≡ l.counter * l.operation.bits;
  count : vec_len l.values ≡ l.counter;
  room : l.count ≤ vec_capacity l.values;
  values : (value : Bits → Result Plain Fault) → AreNumbers value l.operation.bits l.numbers → AreItems value l.operation.bits (bits_left l.reader) (map plain l.values.items);
}
