use Rattle.std.proofs.Common.{◌≤◌}
use Rattle.eds_unpack.specs.Asked.{slots_of}
use Rattle.eds_bench.proofs.frame.sum_of_turns.Given as goal

abbrev pub invariant-loop : goal.invariant-loop
invariant-loop l = slots_of l.table ≤ l.scratch
