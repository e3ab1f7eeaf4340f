use Rattle.std.proofs.Common.{◌≡◌, ◌+◌, ◌*◌, ◌≤◌, length}
use Rattle.eds_act.specs.declared.ending.ActEnd.TheVariants.{Done}
use Rattle.eds_act.specs.Running.{LeadsTo, HasConforming}
use Rattle.eds_act.specs.Work.{frame_items, frames_items}
use Rattle.eds_act.proofs.run.run_frames.Given as goal

abbrev pub invariant-frames : goal.invariant-frames
invariant-frames l = record {
  conform : HasConforming l.table l.comp l.event;
  comp : l.event.comp ≡ l.initial.event.comp;
  left : l.event.left ≤ l.initial.event.left;
  runs : LeadsTo l.table l.comp Done (frame_items l.fn.first) (frames_items l.frames.items) l.initial.event l.event;
}

abbrev pub decreases-frames : goal.decreases-frames
decreases-frames l = 2 * l.event.left + length l.frames.items
