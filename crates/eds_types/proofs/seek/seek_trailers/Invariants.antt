use Rattle.std.proofs.Common.{◌≡◌, ◌≤◌, ◌+◌, ◌*◌, length, reverse}
use Rattle.eds_types.specs.Seeking.{seek}
use Rattle.eds_types.specs.Seeking.{trailers_in_turn}
use Rattle.eds_types.proofs.seek.seek_trailers.Given as goal

abbrev pub invariant-loop-rest : goal.invariant-loop-rest
invariant-loop-rest l = record {
  less : length l.rest ≤ length l.chain;
  few : l.n + 32767 * length l.rest ≤ l.before + 32767 * length l.chain;
  sought : seek (trailers_in_turn l.table (reverse l.rest)) l.n ((l.wanted).0).0 (l.wanted).1 ≡ seek (trailers_in_turn l.table (reverse l.chain)) l.before ((l.wanted).0).0 (l.wanted).1;
}

abbrev pub decreases-loop-rest : goal.decreases-loop-rest
decreases-loop-rest l = length l.rest
