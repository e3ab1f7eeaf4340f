-- What is read by the table of the examples is spelled, or fails, as the definitions say.
use Rattle.std.proofs.Common.{ℕ, ◌≡◌, ◌<◌, None, refl, lit<}
use Rattle.eds_types.specs.Sizes.{open_of}
use Rattle.eds_overlap.specs.Example.{example, WorkedFrames, WorkedTails}
use Rattle.eds_overlap.specs.Laws.{IsReadable}
use Rattle.eds_overlap.proofs.ExampleReading as reading
use Rattle.eds_overlap.proofs.ExampleRules.{keeps_rules, clear}
use Rattle.eds_overlap.proofs.TailReading as tail
use Rattle.eds_overlap.proofs.WhatIsRead.{spelled, failed, read_front}

readable : (id : ℕ) → id < 35 → open_of example id ≡ None → IsReadable example id
readable id h closed = record { rules = keeps_rules; there = h; clear = clear id closed }

pub worked_frames : WorkedFrames
worked_frames = record {
  packet = spelled example 6 (readable 6 (lit< tt) refl) _ _ reading.packet;
  longer = failed example 6 (readable 6 (lit< tt) refl) _ _ reading.longer;
  other = failed example 6 (readable 6 (lit< tt) refl) _ _ reading.other;
  empty = failed example 6 (readable 6 (lit< tt) refl) _ _ reading.empty;
  trailers = spelled example 11 (readable 11 (lit< tt) refl) _ _ reading.trailers;
  checked = spelled example 10 (readable 10 (lit< tt) refl) _ _ reading.checked;
  unchecked = failed example 10 (readable 10 (lit< tt) refl) _ _ reading.unchecked;
  list = read_front example 14 (readable 14 (lit< tt) refl) _ _ _ 20 4 24 reading.list reading.list_size refl refl;
  short_list = failed example 14 (readable 14 (lit< tt) refl) _ _ reading.short_list;
  asked = failed example 7 (readable 7 (lit< tt) refl) _ _ reading.asked;
  line = spelled example 21 (readable 21 (lit< tt) refl) _ _ reading.line;
  short_line = failed example 21 (readable 21 (lit< tt) refl) _ _ reading.short_line;
  unterminated = failed example 21 (readable 21 (lit< tt) refl) _ _ reading.unterminated;
  bad_line = failed example 21 (readable 21 (lit< tt) refl) _ _ reading.bad_line;
  nested = spelled example 27 (readable 27 (lit< tt) refl) _ _ reading.nested;
  nested_short = read_front example 27 (readable 27 (lit< tt) refl) _ _ _ 68 4 72 reading.nested_short reading.nested_size refl refl;
  no_nested = failed example 27 (readable 27 (lit< tt) refl) _ _ reading.no_nested;
  no_mark = failed example 27 (readable 27 (lit< tt) refl) _ _ reading.no_mark;
}

pub worked_tails : WorkedTails
worked_tails = record {
  two = spelled example 19 (readable 19 (lit< tt) refl) _ _ tail.two;
  none = spelled example 19 (readable 19 (lit< tt) refl) _ _ tail.none;
  followed = read_front example 19 (readable 19 (lit< tt) refl) _ _ _ 32 8 40 tail.followed tail.followed_size tail.left_size refl;
  below_zero = failed example 19 (readable 19 (lit< tt) refl) _ _ tail.below_zero;
  above_most = failed example 19 (readable 19 (lit< tt) refl) _ _ tail.above_most;
  unchecked = failed example 19 (readable 19 (lit< tt) refl) _ _ tail.unchecked;
  short = failed example 19 (readable 19 (lit< tt) refl) _ _ tail.short;
  even = spelled example 20 (readable 20 (lit< tt) refl) _ _ tail.even;
}
