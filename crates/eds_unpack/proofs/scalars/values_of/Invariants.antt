use Rattle.std.proofs.Common.{◌≡◌, ◌*◌, ◌≤◌, map, slice_get}
use Rattle.std.specs.Prelude.{vec_len, vec_capacity}
use Rattle.eds_bits.specs.Reader.{bits_left}
use Rattle.eds_types.specs.Plain.{plain}
use Rattle.eds_unpack.specs.Items.{AreItems}
use Rattle.eds_unpack.specs.Segments.{value_in}
use Rattle.eds_unpack.proofs.scalars.values_of.Given as goal

abbrev pub invariant-loop : goal.invariant-loop
invariant-loop l = record {
  place : l.at ≡ l.counter * l.operation.bits;
  count : vec_len l.values ≡ l.counter;
  room : l.count ≤ vec_capacity l.values;
  values : AreItems (value_in (slice_get l.table l.operation.id.0)) l.operation.bits (bits_left l.reader) (map plain l.values.items);
}
