use Rattle.std.proofs.Common.{◌≡◌, ◌≤◌, Some, length, map, take}
use Rattle.std.specs.Prelude.{vec_len, vec_capacity}
use Rattle.eds_unpack.specs.Scalars.{plain_of}
use Rattle.eds_unpack.proofs.room.fill.Given as goal

abbrev pub invariant-loop-position : goal.invariant-loop-position
invariant-loop-position l = record {
  said : take l.position l.entries ≡ map Some (map plain_of l.room.items);
  long : vec_len l.room ≡ l.position;
  room : length l.entries ≤ vec_capacity l.room;
}
