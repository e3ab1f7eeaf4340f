-- A shelf and a sink in memory, which fail where they are told to.
use Rattle.std.specs.Prelude.{◌==◌, ℕ, ◌+◌, nat_lt, min, List, [], ◌++◌, length, take, drop, replicate, slice_index, slice_index_or, slice_set, if◌then◌else◌, Bool, true, Option, Some, None}
use Rattle.std.specs.List.{list_any, position}
use Rattle.eds_io.specs.Counts.{counted}
use Rattle.eds_io.specs.Files.{Files, file_named, is_named}
use Rattle.eds_io.specs.declared.shelf.Got.{Got}
use Rattle.eds_io.specs.declared.shelf.Got.TheVariants as got
use Rattle.eds_io.specs.declared.sink.Wrote.{Wrote}
use Rattle.eds_io.specs.declared.sink.Wrote.TheVariants as wrote

-- ---- calls that fail

-- how many calls were made, and the numbers of those that fail, the first call having number 1
pub record Calls : Type 0 where
  pub made : ℕ
  pub failing : List ℕ

-- whether the next call fails
abbrev pub is_next_failing : Calls → Bool
is_next_failing calls = list_any (λ number. number == counted calls.made) calls.failing

-- after one more call
abbrev pub after_call : Calls → Calls
after_call calls = record calls { made = counted calls.made }

-- ---- counts of faults by name

-- how many reads of each file have failed, and how many of all other names
pub record Tally : Type 0 where
  pub files : List ℕ
  pub others : ℕ

-- where the file of that name stands among the files
abbrev pub place_of : List ℕ → Files → Option ℕ
place_of name files = position (is_named name) files

-- the count of the file at a place, or of all other names
abbrev pub count_at : Option ℕ → Tally → ℕ
count_at None tally = tally.others
count_at (Some place) tally = slice_index_or tally.files place tally.others

-- that count one higher
abbrev pub tally_at : Option ℕ → Tally → Tally
tally_at None tally = record tally { others = counted tally.others }
tally_at (Some place) tally = record tally { files = slice_set tally.files place (counted (slice_index tally.files place)) }

-- ---- a shelf

-- the files, the most octets that a read gives, the calls, and the counts of faults
pub record ShelfState : Type 0 where
  pub files : Files
  pub most : ℕ
  pub calls : Calls
  pub tally : Tally

-- a shelf of which nothing was read
abbrev pub new_shelf : Files → ℕ → List ℕ → ShelfState
new_shelf files most failing = record {
  files = files;
  most = most;
  calls = record { made = 0; failing = failing };
  tally = record { files = replicate (length files) 0; others = 0 };
}

-- how many octets of a file a read gives: those from a place on, but no more than the most, nor than the room takes
abbrev pub piece_size : List ℕ → ℕ → ℕ → ℕ → ℕ
piece_size file from most room = min (min (length (drop from file)) most) room

-- what a read of a file that may be there gives
abbrev pub got_of : Option (List ℕ) → ℕ → ℕ → ℕ → Got
got_of None from most room = got.NoFile
got_of (Some file) from most room = got.Bytes (piece_size file from most room)

-- what a read gives
abbrev pub read_of : ShelfState → List ℕ → ℕ → ℕ → Got
read_of shelf name from room =
    if is_next_failing shelf.calls then got.Failed else got_of (file_named name shelf.files) from shelf.most room

-- what the shelf is after a read
abbrev pub after_read : ShelfState → List ℕ → ShelfState
after_read shelf name = record shelf {
  calls = after_call shelf.calls;
  tally = if is_next_failing shelf.calls then tally_at (place_of name shelf.files) shelf.tally else shelf.tally;
}

-- ---- a sink

-- what was written, the most octets that are taken in all and in one write, the calls, and the count of faults
pub record SinkState : Type 0 where
  pub written : List ℕ
  pub room : ℕ
  pub most : ℕ
  pub calls : Calls
  pub faults : ℕ

-- a sink to which nothing was written
abbrev pub new_sink : ℕ → ℕ → List ℕ → SinkState
new_sink room most failing = record {
  written = [];
  room = room;
  most = most;
  calls = record { made = 0; failing = failing };
  faults = 0;
}

-- whether so many more octets would go past the room
abbrev pub is_past_room : SinkState → ℕ → Bool
is_past_room sink n = nat_lt sink.room (length sink.written + n)

-- whether the next write fails: it is one of those that do, or its octets would go past the room
abbrev pub is_write_failing : SinkState → ℕ → Bool
is_write_failing sink n = if is_next_failing sink.calls then true else is_past_room sink n

-- what a write of so many octets takes
abbrev pub write_of : SinkState → ℕ → Wrote
write_of sink size = let n = min size sink.most in if is_write_failing sink n then wrote.Failed else wrote.Took n

-- what the sink is after a write
abbrev pub after_write : SinkState → List ℕ → SinkState
after_write sink piece = let n = min (length piece) sink.most in
    if is_write_failing sink n
    then record sink { calls = after_call sink.calls; faults = counted sink.faults }
    else record sink { calls = after_call sink.calls; written = sink.written ++ take n piece }
