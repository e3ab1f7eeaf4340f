-- What is still to be started, as it stands in memory.
use Rattle.std.specs.Prelude.{◌≤◌, ◌<◌, ◌+◌, ◌*◌, ℕ, List, [], ◌∷◌, ◌++◌, map, reverse}
use Rattle.std.specs.List.{flat_map}
use Rattle.eds_types.specs.Plain.{Plain, plain}
use Rattle.eds_plan.specs.Statements.{stmts}
use Rattle.eds_act.specs.declared.work.Task.{Task}
use Rattle.eds_act.specs.declared.work.Task.TheVariants as task
use Rattle.eds_act.specs.declared.work.Frame.{Frame}
use Rattle.eds_act.specs.declared.work.Ran.{Ran}
use Rattle.eds_act.specs.declared.work.Ran.TheVariants as ran
use Rattle.eds_act.specs.declared.work.Step.{Step}
use Rattle.eds_act.specs.declared.work.Step.TheVariants as step
use Rattle.eds_types.specs.Rows.{Table}
use Rattle.eds_plan.specs.declared.component.ComponentPlan.{ComponentPlan}
use Rattle.eds_act.specs.declared.ending.ActEnd.{ActEnd}
use Rattle.eds_act.specs.declared.ending.ActEnd.TheVariants.{Done, Halted}
use Rattle.eds_act.specs.declared.event.Event.{Event}
use Rattle.eds_act.specs.Does.{Item, items_of}
use Rattle.eds_act.specs.Running.{turn_item, Leads, world}

-- what a task still does
abbrev pub task_items : List Plain → Task → List Item
task_items args (task.Statements body) = items_of args (stmts body.now)
task_items args (task.Turn t body) = turn_item t args (stmts body.now) ∷ []

-- the last task is the next
abbrev pub tasks_items : List Plain → List Task → List Item
tasks_items args ts = flat_map (task_items args) (reverse ts)

-- how the stores that statements begin with end
abbrev pub ran_end : Ran → ActEnd
ran_end (ran.Until rest) = Done
ran_end (ran.Halted h) = Halted h

-- what is behind them
abbrev pub ran_items : List Plain → Ran → List Item
ran_items args (ran.Until rest) = items_of args (stmts rest.now)
ran_items args (ran.Halted h) = []

-- ---- activities that are being run

-- what a call still does
abbrev pub frame_items : Frame → List Item
frame_items f = tasks_items (map plain f.arguments.items) f.tasks.items

-- the last frame is the next
abbrev pub frames_items : List Frame → List Item
frames_items fs = flat_map frame_items (reverse fs)

-- ---- steps

-- how a step ends
abbrev pub end_of : Step → ActEnd
end_of step.Goes = Done
end_of (step.Calls f) = Done
end_of (step.Halts h) = Halted h

-- the items of an activity that is called
abbrev pub called_items : Step → List Item
called_items step.Goes = []
called_items (step.Calls f) = frame_items f
called_items (step.Halts h) = []

-- with l statements and turns that may still start, an item of a frame comes to what is called and to the frame's tasks
abbrev pub StepsTo : Table → ComponentPlan → Step → List Plain → Item → List Task → List Task → ℕ → Event → Event → Type 0
StepsTo t c s args i ts us l e f = Leads t c (end_of s) (i ∷ tasks_items args ts) (called_items s ++ tasks_items args us) l (world e) f.left (world f)

-- items of a frame come to what is called and to the frame's tasks
abbrev pub ComesTo : Table → ComponentPlan → Step → List Plain → List Item → List Task → List Task → Event → Event → Type 0
ComesTo t c s args is ts us e f = Leads t c (end_of s) (is ++ tasks_items args ts) (called_items s ++ tasks_items args us) e.left (world e) f.left (world f)

-- each statement and turn that was started left two tasks at most; where an activity is called, fewer may start than before
abbrev pub Lessens : Step → (before tasks now left : ℕ) → Type 0
Lessens step.Goes before tasks now left = 2 * now + left ≤ 2 * before + tasks
Lessens (step.Calls f) before tasks now left = now < before
Lessens (step.Halts h) before tasks now left = Unit {0}

-- fewer may start than before, unless it halted
abbrev pub CountsOn : Ran → (before now : ℕ) → Type 0
CountsOn (ran.Until rest) before now = now < before
CountsOn (ran.Halted h) before now = Unit {0}
