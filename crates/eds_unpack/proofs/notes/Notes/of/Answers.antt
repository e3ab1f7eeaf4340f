use Rattle.std.proofs.Common.{◌+◌, refl, arith}
use Rattle.eds_unpack.proofs.Indexing.{asked_next, asked_end}
use Rattle.eds_unpack.proofs.notes.Notes.of.Goals as goal

pub loop-number-preserved : goal.loop-number-preserved
loop-number-preserved c = asked_next c.args.table.now c.loop-number.number (c.loop-number.number + 1) c.loop-number.notes c.in_ok-notes-2.notes refl c.loop-number.invariant c.in_ok-notes-2.ensures

pub returns : goal.returns
returns c = asked_end c.args.table.now c.loop-number.number c.loop-number.notes (omega (arith, c.len-number-end.ensures)) c.loop-number.invariant
