use Rattle.std.proofs.Common.{◌≤◌, length, map, take}
use Rattle.std.specs.Prelude.{vec_len, vec_capacity}
use Rattle.eds_bits.specs.Reader.{bits_left}
use Rattle.eds_unpack.specs.Scalars.{plain_of}
use Rattle.eds_unpack.specs.Templates.{PartsSay}
use Rattle.eds_unpack.proofs.by_template.fill_by.Given as goal

abbrev pub invariant-loop-part : goal.invariant-loop-part
invariant-loop-part l = record {
  say : PartsSay l.table (bits_left l.reader) l.all (take l.part-index l.parts) (map plain_of l.room.items);
  few : vec_len l.room ≤ l.part-index;
  room : length l.parts ≤ vec_capacity l.room;
}
