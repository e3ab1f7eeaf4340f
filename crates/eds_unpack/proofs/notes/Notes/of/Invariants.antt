use Rattle.std.proofs.Common.{◌≡◌}
use Rattle.eds_unpack.proofs.Indexing.{asked_up_to}
use Rattle.eds_unpack.proofs.notes.Notes.of.Given as goal

abbrev pub invariant-loop-number : goal.invariant-loop-number
invariant-loop-number l = l.notes ≡ asked_up_to l.table l.number
