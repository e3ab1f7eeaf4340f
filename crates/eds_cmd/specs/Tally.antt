-- How much of what leaves a run is sent, and how much is refused.
use Rattle.std.specs.Prelude.{◌≡◌, ◌+◌, List, Bool, true, false, count_by}
use Rattle.eds_plan.specs.Outs.{Report, left, stopped, refused}
use Rattle.eds_cmd.specs.declared.tally.Tally.{Tally}

-- a primitive is sent
abbrev pub is_sent : Report → Bool
is_sent (left time s) = true
is_sent (stopped time component machine h) = false
is_sent (refused time e member fault) = false

-- a frame is refused
abbrev pub is_reject : Report → Bool
is_reject (left time s) = false
is_reject (stopped time component machine h) = false
is_reject (refused time e member fault) = true

-- so many of these are sent, and so many are refused
pub record Counts (rs : List Report) (tally : Tally) : Type 0 where
  pub sent : tally.sent ≡ count_by is_sent rs
  pub rejects : tally.rejects ≡ count_by is_reject rs

-- these are counted beside those that were counted before
pub record CountsMore (rs : List Report) (old new : Tally) : Type 0 where
  pub sent : new.sent ≡ old.sent + count_by is_sent rs
  pub rejects : new.rejects ≡ old.rejects + count_by is_reject rs
