use Rattle.std.proofs.Common.{sym}
use Rattle.eds_types.specs.Overlap.{IsClear}
use Rattle.eds_plan.specs.Outs.{report}
use Rattle.eds_script.specs.Frames.{framed}
use Rattle.eds_replay.proofs.FrameTexts.{frame-text}
use Rattle.eds_replay.proofs.FrameTypes.{frame-known, frame_has}
use Rattle.eds_replay.proofs.pair.is_respelled.Goals as goal

pub respells-requires-clause-known : goal.respells-requires-clause-known
respells-requires-clause-known c = frame-known c.args.table.now c.args.plan.now (report c.args.event.now) (framed c.in-Some.frame) c.requires.known (sym (rw c.in-Some.is at c.frame_of.ensures))

pub respells-requires-clause-clear : goal.respells-requires-clause-clear
respells-requires-clause-clear c = frame_has (λ n. IsClear c.args.table.now n) c.args.plan.now c.requires.clear (report c.args.event.now) (framed c.in-Some.frame) (sym (rw c.in-Some.is at c.frame_of.ensures))

pub respells-requires-clause-line : goal.respells-requires-clause-line
respells-requires-clause-line c =
    frame-text c.args.table.now c.keeps_rules.ensures c.args.plan.now (report c.args.event.now) (framed c.in-Some.frame) c.args.line.now c.requires.fits (sym (rw c.in-Some.is at c.frame_of.ensures)) c.requires.line
