use Rattle.std.proofs.Common.{◌≡◌, ◌+◌, ◌≤◌, length, reverse}
use Rattle.eds_unpack.specs.Tails.{limit, limited, trailers_sizes}
use Rattle.eds_unpack.proofs.tail.trailers_size.Given as goal

abbrev pub invariant-loop-rest : goal.invariant-loop-rest
invariant-loop-rest l = record {
  most : l.size ≤ limit;
  less : length l.rest ≤ length l.chain;
  size : limited (l.size + trailers_sizes l.table (reverse l.rest)) ≡ limited (trailers_sizes l.table (reverse l.chain));
}

abbrev pub decreases-loop-rest : goal.decreases-loop-rest
decreases-loop-rest l = length l.rest
