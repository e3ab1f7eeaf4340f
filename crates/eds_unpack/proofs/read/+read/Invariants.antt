use Rattle.std.proofs.Common.{◌≡◌, ◌+◌, ◌-◌, ◌*◌, ◌≤◌, [], length, map, reverse, true, drop}
use Rattle.std.specs.List.{AllByRecursion, list_all}
use Rattle.eds_base.specs.declared.ids.TypeId.{TypeId}
use Rattle.eds_bits.specs.Reader.{bits_left}
use Rattle.eds_types.specs.Plain.{plain}
use Rattle.eds_types.specs.Reading.{read_within, read_items, read_parts, read_chain, read_under}
use Rattle.eds_types.specs.Rows.{placed_from, numbers_of}
use Rattle.eds_types.specs.Seeking.{trailers_in_turn}
use Rattle.eds_unpack.specs.Courses.{IsUnderWay, progress_of}
use Rattle.eds_unpack.specs.Entries.{IsLow, PartIsRead}
use Rattle.eds_unpack.specs.Straight.{is_straight_entry}
use Rattle.eds_unpack.proofs.Reaches.{behind_items}
use Rattle.eds_unpack.proofs.StraightReads.{IsStraightSoFar}
use Rattle.eds_unpack.proofs.read.+read.Given as goal

abbrev pub decreases-read_value : goal.decreases-read_value
decreases-read_value l = 16 * l.level.now.depth

abbrev pub decreases-read_items : goal.decreases-read_items
decreases-read_items l = 16 * l.level.now.depth + 1

abbrev pub decreases-read_field : goal.decreases-read_field
decreases-read_field l = 16 * l.level.now.depth + 1

abbrev pub decreases-read_straight : goal.decreases-read_straight
decreases-read_straight l = 16 * l.level.now.depth + 2

abbrev pub decreases-read_part : goal.decreases-read_part
decreases-read_part l = 16 * l.level.now.depth + 2

abbrev pub decreases-read_entry : goal.decreases-read_entry
decreases-read_entry l = 16 * l.level.now.depth + 3

abbrev pub decreases-read_parts : goal.decreases-read_parts
decreases-read_parts l = 16 * l.level.now.depth + 4

abbrev pub decreases-read_own : goal.decreases-read_own
decreases-read_own l = 16 * l.level.now.depth + 5

abbrev pub decreases-read_chain : goal.decreases-read_chain
decreases-read_chain l = 16 * l.level.now.depth + 6

abbrev pub decreases-read_trailers : goal.decreases-read_trailers
decreases-read_trailers l = 16 * l.level.now.depth + 5

abbrev pub decreases-read_under : goal.decreases-read_under
decreases-read_under l = 16 * l.level.now.depth + 6

abbrev pub decreases-read_container : goal.decreases-read_container
decreases-read_container l = 16 * l.level.now.depth + 7

abbrev pub decreases-read_row : goal.decreases-read_row
decreases-read_row l = 16 * l.level.now.depth + 9

abbrev pub decreases-read_fields : goal.decreases-read_fields
decreases-read_fields l = 16 * l.level.now.depth + 8

abbrev pub invariant-read_items-loop-id : goal.invariant-read_items-loop-id
invariant-read_items-loop-id l = record {
  root : l.path ≡ [];
  read : behind_items (map plain l.values.items) (read_items (read_within l.level.depth l.level.table.now l.id.0) (l.count - l.place) l.place (bits_left l.reader)) ≡ read_items (read_within l.level.depth l.level.table.now l.id.0) l.count 0 (bits_left l.fn.reader);
}

abbrev pub decreases-read_items-loop-id : goal.decreases-read_items-loop-id
decreases-read_items-loop-id l = l.count - l.place

abbrev pub invariant-read_straight-loop-part : goal.invariant-read_straight-loop-part
invariant-read_straight-loop-part l = record {
  root : l.path ≡ [];
  inner : AllByRecursion (PartIsRead l.level.table.now l.level.depth) (drop l.part-index l.rest);
  straight : list_all (is_straight_entry l.level.table.now) (drop l.part-index l.rest) ≡ true;
  few : l.place + (length l.rest - l.part-index) ≤ 32767;
  read : IsStraightSoFar l.level.table.now (read_within l.level.depth l.level.table.now) l.container.0 (bits_left l.fn.reader) l.place (drop l.part-index l.rest) (map plain l.values.items) (bits_left l.reader);
}

abbrev pub invariant-read_parts-loop-part : goal.invariant-read_parts-loop-part
invariant-read_parts-loop-part l = record {
  root : l.path ≡ [];
  begun : IsUnderWay l.reached (bits_left l.reader);
  many : l.place ≡ l.first + l.part-index;
  inner : AllByRecursion (PartIsRead l.level.table.now l.level.depth) (drop l.part-index l.parts);
  read : read_parts l.level.table.now (read_within l.level.depth l.level.table.now) (placed_from l.container.0 l.place (drop l.part-index l.parts)) (progress_of l.reached (bits_left l.reader)) (bits_left l.reader) ≡ read_parts l.level.table.now (read_within l.level.depth l.level.table.now) (placed_from l.container.0 l.first l.parts) (progress_of l.fn.reached (bits_left l.fn.reader)) (bits_left l.fn.reader);
}

abbrev pub invariant-read_chain-loop-id : goal.invariant-read_chain-loop-id
invariant-read_chain-loop-id l = record {
  root : l.path ≡ [];
  begun : IsUnderWay l.reached (bits_left l.reader);
  read : read_chain l.level.table.now (read_within l.level.depth l.level.table.now) (numbers_of (drop l.id-index l.chain)) (progress_of l.reached (bits_left l.reader)) (bits_left l.reader) ≡ read_chain l.level.table.now (read_within l.level.depth l.level.table.now) (numbers_of l.chain) (progress_of l.fn.reached (bits_left l.fn.reader)) (bits_left l.fn.reader);
}

abbrev pub invariant-read_trailers-loop-rest : goal.invariant-read_trailers-loop-rest
invariant-read_trailers-loop-rest l = record {
  root : l.path ≡ [];
  begun : IsUnderWay l.reached (bits_left l.reader);
  inner : AllByRecursion (λ (id : TypeId). IsLow l.level.table.now (l.level.depth + 1) id.0) l.rest;
  less : length l.rest ≤ length l.chain;
  read : read_parts l.level.table.now (read_within l.level.depth l.level.table.now) (trailers_in_turn l.level.table.now (reverse l.rest)) (progress_of l.reached (bits_left l.reader)) (bits_left l.reader) ≡ read_parts l.level.table.now (read_within l.level.depth l.level.table.now) (trailers_in_turn l.level.table.now (reverse l.chain)) (progress_of l.fn.reached (bits_left l.fn.reader)) (bits_left l.fn.reader);
}

abbrev pub decreases-read_trailers-loop-rest : goal.decreases-read_trailers-loop-rest
decreases-read_trailers-loop-rest l = length l.rest

abbrev pub invariant-read_under-loop : goal.invariant-read_under-loop
invariant-read_under-loop l = record {
  root : l.path ≡ [];
  begun : IsUnderWay l.reached (bits_left l.reader);
  low : IsLow l.level.table.now (l.level.depth + 1) l.at.0;
  read : read_under l.level.table.now (read_within l.level.depth l.level.table.now) (16 - l.counter) l.at.0 (progress_of l.reached (bits_left l.reader)) (bits_left l.reader) ≡ read_under l.level.table.now (read_within l.level.depth l.level.table.now) 16 l.fn.id.0 (progress_of l.fn.reached (bits_left l.fn.reader)) (bits_left l.fn.reader);
}
