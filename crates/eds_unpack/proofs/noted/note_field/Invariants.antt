use Rattle.std.proofs.Common.{drop}
use Rattle.eds_unpack.proofs.NotedSlots.{AreNoted}
use Rattle.eds_unpack.proofs.noted.note_field.Given as goal

abbrev pub invariant-loop-at : goal.invariant-loop-at
invariant-loop-at l = AreNoted l.notes l.fn.container l.place l.number l.fn.numbers l.numbers (drop l.at-index l.at-items)
