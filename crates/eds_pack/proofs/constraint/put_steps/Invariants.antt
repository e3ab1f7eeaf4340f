use Rattle.std.proofs.Common.{◌≡◌, ◌+◌, ◌≤◌, ◌++◌, length}
use Rattle.eds_types.specs.Failing.{path_steps}
use Rattle.eds_pack.proofs.constraint.put_steps.Given as goal

abbrev pub invariant-loop-rest : goal.invariant-loop-rest
invariant-loop-rest l = record {
  room : length l.path + length l.rest ≤ 64;
  put : path_steps l.rest ++ l.path ≡ path_steps l.steps ++ l.fn.path;
}

abbrev pub decreases-loop-rest : goal.decreases-loop-rest
decreases-loop-rest l = length l.rest
