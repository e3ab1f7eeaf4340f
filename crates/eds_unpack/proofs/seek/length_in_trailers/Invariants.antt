use Rattle.std.proofs.Common.{◌≡◌, ◌≤◌, length, reverse}
use Rattle.eds_types.specs.Seeking.{trailers_in_turn}
use Rattle.eds_unpack.specs.Seeking.{length_among}
use Rattle.eds_unpack.proofs.seek.length_in_trailers.Given as goal

abbrev pub invariant-loop-rest : goal.invariant-loop-rest
invariant-loop-rest l = record {
  less : length l.rest ≤ length l.chain;
  sought : length_among (trailers_in_turn l.table (reverse l.rest)) ≡ length_among (trailers_in_turn l.table (reverse l.chain));
}

abbrev pub decreases-loop-rest : goal.decreases-loop-rest
decreases-loop-rest l = length l.rest
