use Rattle.std.proofs.Common.{◌≡◌, ℕ, ◌+◌, ◌-◌, ◌*◌, ◌≤◌, List, [], ◌++◌, length, reverse, drop}
use Rattle.std.specs.List.{AllByRecursion, flat_map}
use Rattle.eds_bits.specs.Lists.{Has}
use Rattle.eds_bits.specs.Reader.{bits_left}
use Rattle.eds_types.specs.Plain.{Plain}
use Rattle.eds_types.specs.Reading.{read_within, read_items, read_parts, read_chain, read_under}
use Rattle.eds_types.specs.Rows.{Placed, chain, numbers_of, placed_entries, placed_from, placed_trailers}
use Rattle.eds_types.specs.Spelling.{Progress, started}
use Rattle.eds_unpack.specs.Courses.{MovesOn}
use Rattle.eds_unpack.specs.Entries.{IsLow, PartIsRead}
use Rattle.eds_unpack.specs.Noted.{KeepsOuter}
use Rattle.eds_unpack.specs.Walks.{IsAt, IsFront, IsWalking, Stands}
use Rattle.eds_unpack.proofs.Reaches.{behind_items}
use Rattle.eds_unpack.proofs.walk.+walk.Given as goal

abbrev pub decreases-walk_value : goal.decreases-walk_value
decreases-walk_value l = 16 * l.walk.now.depth

abbrev pub decreases-walk_items : goal.decreases-walk_items
decreases-walk_items l = 16 * l.walk.now.depth + 1

abbrev pub decreases-walk_part : goal.decreases-walk_part
decreases-walk_part l = 16 * l.walk.now.depth + 2

abbrev pub decreases-walk_entry : goal.decreases-walk_entry
decreases-walk_entry l = 16 * l.walk.now.depth + 3

abbrev pub decreases-walk_parts : goal.decreases-walk_parts
decreases-walk_parts l = 16 * l.walk.now.depth + 4

abbrev pub decreases-walk_chain : goal.decreases-walk_chain
decreases-walk_chain l = 16 * l.walk.now.depth + 5

abbrev pub decreases-walk_trailers : goal.decreases-walk_trailers
decreases-walk_trailers l = 16 * l.walk.now.depth + 5

abbrev pub decreases-walk_under : goal.decreases-walk_under
decreases-walk_under l = 16 * l.walk.now.depth + 6

abbrev pub decreases-walk_container : goal.decreases-walk_container
decreases-walk_container l = 16 * l.walk.now.depth + 7

abbrev pub decreases-walk_row : goal.decreases-walk_row
decreases-walk_row l = 16 * l.walk.now.depth + 8

-- ---- loops

abbrev pub invariant-walk_items-loop-id : goal.invariant-walk_items-loop-id
invariant-walk_items-loop-id l = record {
  root : l.path ≡ [];
  outer : KeepsOuter l.walk.table.now l.walk.notes.now l.id.0 l.fn.numbers l.numbers;
  moved : MovesOn (bits_left l.fn.reader) (bits_left l.reader);
  few : l.place + length (bits_left l.reader) ≤ length (bits_left l.fn.reader);
  read : (vs : List Plain) × (behind_items vs (read_items (read_within l.walk.depth l.walk.table.now l.id.0) (l.count - l.place) l.place (bits_left l.reader)) ≡ read_items (read_within l.walk.depth l.walk.table.now l.id.0) l.count 0 (bits_left l.fn.reader));
}

abbrev pub decreases-walk_items-loop-id : goal.decreases-walk_items-loop-id
decreases-walk_items-loop-id l = l.count - l.place

abbrev pub invariant-walk_parts-loop-part : goal.invariant-walk_parts-loop-part
invariant-walk_parts-loop-part l = record {
  root : l.path ≡ [];
  outer : KeepsOuter l.walk.table.now l.walk.notes.now l.container.0 l.fn.numbers l.numbers;
  start : l.walked.start ≡ l.fn.walked.start;
  begun : IsWalking l.walked (bits_left l.reader);
  many : l.place ≡ l.first + l.part-index;
  inner : AllByRecursion (PartIsRead l.walk.table.now l.walk.depth) (drop l.part-index l.parts);
  stands : AllByRecursion (Stands l.walk.table.now) (placed_from l.container.0 l.place (drop l.part-index l.parts));
  at : (done : List Placed) (s : Progress) → IsAt l.walk.table.now l.walk.notes.now l.container.0 l.fn.walked l.fn.numbers (bits_left l.fn.reader) done s → IsFront l.walk.table.now (done ++ placed_from l.container.0 l.first l.parts)
      → (front : List Placed) × (u : Progress) × (placed_from l.container.0 l.first l.parts ≡ front ++ placed_from l.container.0 l.place (drop l.part-index l.parts)) × IsAt l.walk.table.now l.walk.notes.now l.container.0 l.walked l.numbers (bits_left l.reader) (done ++ front) u
      × (read_parts l.walk.table.now (read_within l.walk.depth l.walk.table.now) (placed_from l.container.0 l.place (drop l.part-index l.parts)) u (bits_left l.reader) ≡ read_parts l.walk.table.now (read_within l.walk.depth l.walk.table.now) (placed_from l.container.0 l.first l.parts) s (bits_left l.fn.reader));
}

abbrev pub invariant-walk_chain-loop-one : goal.invariant-walk_chain-loop-one
invariant-walk_chain-loop-one l = record {
  root : l.path ≡ [];
  outer : KeepsOuter l.walk.table.now l.walk.notes.now l.fn.id.0 l.fn.numbers l.numbers;
  start : l.walked.start ≡ l.fn.walked.start;
  begun : IsWalking l.walked (bits_left l.reader);
  at : (front : List ℕ) × (s : Progress) × (chain l.walk.table.now l.fn.id.0 ≡ front ++ numbers_of (drop l.one-index l.chain)) × IsAt l.walk.table.now l.walk.notes.now l.fn.id.0 l.walked l.numbers (bits_left l.reader) (flat_map (placed_entries l.walk.table.now) front) s
      × (read_chain l.walk.table.now (read_within l.walk.depth l.walk.table.now) (numbers_of (drop l.one-index l.chain)) s (bits_left l.reader) ≡ read_chain l.walk.table.now (read_within l.walk.depth l.walk.table.now) (chain l.walk.table.now l.fn.id.0) started (bits_left l.fn.reader));
}

abbrev pub invariant-walk_trailers-loop-rest : goal.invariant-walk_trailers-loop-rest
invariant-walk_trailers-loop-rest l = record {
  root : l.path ≡ [];
  outer : KeepsOuter l.walk.table.now l.walk.notes.now l.fn.id.0 l.fn.numbers l.numbers;
  start : l.walked.start ≡ l.fn.walked.start;
  begun : IsWalking l.walked (bits_left l.reader);
  left : (after : List ℕ) × (chain l.walk.table.now l.fn.id.0 ≡ numbers_of l.rest ++ after);
  at : (done : List Placed) (s : Progress) → IsAt l.walk.table.now l.walk.notes.now l.fn.id.0 l.fn.walked l.fn.numbers (bits_left l.fn.reader) done s → IsFront l.walk.table.now (done ++ flat_map (placed_trailers l.walk.table.now) (reverse (chain l.walk.table.now l.fn.id.0)))
      → (front : List Placed) × (u : Progress) × (flat_map (placed_trailers l.walk.table.now) (reverse (chain l.walk.table.now l.fn.id.0)) ≡ front ++ flat_map (placed_trailers l.walk.table.now) (reverse (numbers_of l.rest))) × IsAt l.walk.table.now l.walk.notes.now l.fn.id.0 l.walked l.numbers (bits_left l.reader) (done ++ front) u
      × (read_parts l.walk.table.now (read_within l.walk.depth l.walk.table.now) (flat_map (placed_trailers l.walk.table.now) (reverse (numbers_of l.rest))) u (bits_left l.reader) ≡ read_parts l.walk.table.now (read_within l.walk.depth l.walk.table.now) (flat_map (placed_trailers l.walk.table.now) (reverse (chain l.walk.table.now l.fn.id.0))) s (bits_left l.fn.reader));
}

abbrev pub decreases-walk_trailers-loop-rest : goal.decreases-walk_trailers-loop-rest
decreases-walk_trailers-loop-rest l = length l.rest

abbrev pub invariant-walk_under-loop : goal.invariant-walk_under-loop
invariant-walk_under-loop l = record {
  root : l.path ≡ [];
  outer : KeepsOuter l.walk.table.now l.walk.notes.now l.fn.id.0 l.fn.numbers l.numbers;
  start : l.walked.start ≡ l.fn.walked.start;
  begun : IsWalking l.walked (bits_left l.reader);
  low : IsLow l.walk.table.now (l.walk.depth + 1) l.at.0;
  under : Has (chain l.walk.table.now l.at.0) l.fn.id.0;
  at : (s : Progress) → IsAt l.walk.table.now l.walk.notes.now l.fn.id.0 l.fn.walked l.fn.numbers (bits_left l.fn.reader) (flat_map (placed_entries l.walk.table.now) (chain l.walk.table.now l.fn.id.0)) s
      → (u : Progress) × IsAt l.walk.table.now l.walk.notes.now l.fn.id.0 l.walked l.numbers (bits_left l.reader) (flat_map (placed_entries l.walk.table.now) (chain l.walk.table.now l.at.0)) u
      × (read_under l.walk.table.now (read_within l.walk.depth l.walk.table.now) (16 - l.counter) l.at.0 u (bits_left l.reader) ≡ read_under l.walk.table.now (read_within l.walk.depth l.walk.table.now) 16 l.fn.id.0 s (bits_left l.fn.reader));
}
