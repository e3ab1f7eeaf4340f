use Rattle.std.proofs.Common.{◌≡◌, length}
use Rattle.eds_unpack.specs.Asked.{tails}
use Rattle.eds_unpack.specs.Index.{with_paths}
use Rattle.eds_unpack.proofs.notes.Notes.with_tails.Given as goal

abbrev pub invariant-loop-rest : goal.invariant-loop-rest
invariant-loop-rest l = with_paths l.notes (tails l.rest) ≡ with_paths l.initial.notes (tails l.path)

abbrev pub decreases-loop-rest : goal.decreases-loop-rest
decreases-loop-rest l = length l.rest
