use Rattle.std.proofs.Common.{◌≡◌, ◌≤◌, ◌++◌, ◌+◌, ◌*◌, length, map}
use Rattle.eds_types.specs.Plain.{plain}
use Rattle.eds_act.specs.declared.ending.ActEnd.TheVariants.{Done}
use Rattle.eds_act.specs.Running.{LeadsTo, HasConforming}
use Rattle.eds_act.specs.Work.{frame_items, frames_items, tasks_items}
use Rattle.eds_act.proofs.run.run_frame.Given as goal

abbrev pub invariant-tasks : goal.invariant-tasks
invariant-tasks l = record {
  conform : HasConforming l.table l.comp l.event;
  comp : l.event.comp ≡ l.initial.event.comp;
  left : l.event.left ≤ l.initial.event.left;
  frames : l.frames.items ≡ l.initial.frames.items;
  runs : LeadsTo l.table l.comp Done (frame_items l.fn.frame ++ frames_items l.initial.frames.items) (tasks_items (map plain l.fn.frame.arguments.items) l.tasks.items ++ frames_items l.initial.frames.items) l.initial.event l.event;
}

abbrev pub decreases-tasks : goal.decreases-tasks
decreases-tasks l = 2 * l.event.left + length l.tasks.items
