use Rattle.std.proofs.Common.{◌≡◌, ◌++◌}
use Rattle.eds_unpack.specs.Courses.{parts_from}
use Rattle.eds_unpack.proofs.progress.keep_first_parts.Given as goal

abbrev pub invariant-loop-place : goal.invariant-loop-place
invariant-loop-place l = l.parts.items ≡ l.fn.parts.items ++ parts_from l.container 0 l.place
