use Rattle.std.proofs.Common.{◌∙◌, ◌++◌, length, refl, sym, ap, map, subst, append_assoc, take, ◌-◌, arith}
use Rattle.std.proofs.lemmas.List.{append-nil}
use Rattle.eds_types.specs.Plain.{plain}
use Rattle.eds_act.specs.declared.ending.ActEnd.TheVariants.{Done}
use Rattle.eds_act.specs.declared.work.Step.TheVariants as step
use Rattle.eds_act.specs.Running.{world, Leads}
use Rattle.eds_act.specs.Work.{frame_items, frames_items, task_items, tasks_items}
use Rattle.eds_act.proofs.Leading.{leads_same, leads_nowhere}
use Rattle.eds_act.proofs.Working.{put_frame, put_task, one_longer, ran_on}
use Rattle.eds_act.proofs.run.run_frame.Goals as goal

pub tasks-init : goal.tasks-init
tasks-init c = record {
  conform = c.requires.conform;
  comp = refl;
  left = omega arith;
  frames = refl;
  runs = leads_same c.args.table.now c.args.comp.now (frame_items c.args.frame ++ frames_items c.args.frames.now.items) c.args.event.now.left (world c.args.event.now);
}

pub tasks-preserved : goal.tasks-preserved
tasks-preserved c =
    let args = map plain c.args.frame.arguments.items in
    record {
      conform = c.run_task.ensures.conform;
      comp = c.run_task.ensures.comp ∙ c.tasks.invariant.comp;
      left = omega (arith, c.run_task.ensures.left, c.tasks.invariant.left);
      frames = c.tasks.invariant.frames;
      runs = ran_on c.args.table.now c.args.comp.now step.Goes args (task_items args c.in-Some.task) c.pop.new.self.items c.run_task.new.tasks.items (frame_items c.args.frame ++ frames_items c.args.frames.now.items) (tasks_items args c.tasks.tasks.items) (frames_items c.args.frames.now.items) (tasks_items args c.run_task.new.tasks.items) c.args.event.now c.tasks.event c.run_task.new.event
          c.tasks.invariant.runs (put_task args c.pop.new.self.items c.tasks.tasks.items c.in-Some.task c.in-Some.ensures.items) refl (rw (c.as_slice.ensures.value, c.in-Goes.is) at c.in_ok-run_task.ensures.runs);
    }

pub returns-clause-runs : goal.returns-clause-runs
returns-clause-runs c =
    let args = map plain c.args.frame.arguments.items in
    subst (λ fs. Leads c.args.table.now c.args.comp.now Done (frame_items c.args.frame ++ frames_items c.args.frames.now.items) (frames_items fs) c.args.event.now.left (world c.args.event.now) c.tasks.event.left (world c.tasks.event)) (sym c.tasks.invariant.frames)
    (subst (λ x. Leads c.args.table.now c.args.comp.now Done (frame_items c.args.frame ++ frames_items c.args.frames.now.items) (x ++ frames_items c.args.frames.now.items) c.args.event.now.left (world c.args.event.now) c.tasks.event.left (world c.tasks.event))
    (ap (tasks_items args) (c.in_default.ensures.items ∙ append-nil c.pop.new.self.items ∙ c.in_default.ensures.rest ∙ ap (λ n. take (n - 1) c.tasks.tasks.items) c.in_default.ensures.cases.0)) c.tasks.invariant.runs)

pub returns-clause-fewer : goal.returns-clause-fewer
returns-clause-fewer c = omega (arith, c.tasks.invariant.left, ap length c.tasks.invariant.frames)

pub returns-in-Calls-clause-runs : goal.returns-in-Calls-clause-runs
returns-in-Calls-clause-runs c =
    let args = map plain c.args.frame.arguments.items in
    subst (λ k. Leads c.args.table.now c.args.comp.now Done (frame_items c.args.frame ++ frames_items c.args.frames.now.items) k c.args.event.now.left (world c.args.event.now) c.run_task.new.event.left (world c.run_task.new.event))
    (append_assoc (frame_items c.in-Calls.called) (tasks_items args c.run_task.new.tasks.items) (frames_items c.args.frames.now.items)
    ∙ ap (λ fs. frame_items c.in-Calls.called ++ (tasks_items args c.run_task.new.tasks.items ++ frames_items fs)) (sym c.tasks.invariant.frames)
    ∙ ap (λ k. frame_items c.in-Calls.called ++ k) (sym (put_frame c.tasks.frames.items c.push.new.self.items (record { arguments = c.args.frame.arguments; tasks = c.run_task.new.tasks }) c.in_ok-push-in-Calls.ensures.items))
    ∙ sym (put_frame c.push.new.self.items c.push-in-Calls.new.self.items c.in-Calls.called c.in_ok-push-in-Calls-2.ensures.items))
    (ran_on c.args.table.now c.args.comp.now (step.Calls c.in-Calls.called) args (task_items args c.in-Some.task) c.pop.new.self.items c.run_task.new.tasks.items (frame_items c.args.frame ++ frames_items c.args.frames.now.items) (tasks_items args c.tasks.tasks.items) (frames_items c.args.frames.now.items) (frame_items c.in-Calls.called ++ tasks_items args c.run_task.new.tasks.items) c.args.event.now c.tasks.event c.run_task.new.event
    c.tasks.invariant.runs (put_task args c.pop.new.self.items c.tasks.tasks.items c.in-Some.task c.in-Some.ensures.items) refl (rw (c.as_slice.ensures.value, c.in-Calls.is) at c.in_ok-run_task.ensures.runs))

pub returns-in-Calls-clause-fewer : goal.returns-in-Calls-clause-fewer
returns-in-Calls-clause-fewer c =
    let started = rw c.in-Calls.is at c.in_ok-run_task.ensures.counts in
    let back = one_longer c.tasks.frames.items c.push.new.self.items _ c.in_ok-push-in-Calls.ensures.items in
    let behind = one_longer c.push.new.self.items c.push-in-Calls.new.self.items _ c.in_ok-push-in-Calls-2.ensures.items in
    omega (arith, started, back, behind, c.tasks.invariant.left, ap length c.tasks.invariant.frames)

pub returns-in-Halts-clause-runs : goal.returns-in-Halts-clause-runs
returns-in-Halts-clause-runs c =
    let args = map plain c.args.frame.arguments.items in
    leads_nowhere c.args.table.now c.args.comp.now c.in-Halts.halt (frame_items c.args.frame ++ frames_items c.args.frames.now.items) (tasks_items args c.run_task.new.tasks.items ++ frames_items c.args.frames.now.items) (frames_items c.tasks.frames.items) c.args.event.now.left c.run_task.new.event.left (world c.args.event.now) (world c.run_task.new.event)
    (ran_on c.args.table.now c.args.comp.now (step.Halts c.in-Halts.halt) args (task_items args c.in-Some.task) c.pop.new.self.items c.run_task.new.tasks.items (frame_items c.args.frame ++ frames_items c.args.frames.now.items) (tasks_items args c.tasks.tasks.items) (frames_items c.args.frames.now.items) (tasks_items args c.run_task.new.tasks.items) c.args.event.now c.tasks.event c.run_task.new.event
    c.tasks.invariant.runs (put_task args c.pop.new.self.items c.tasks.tasks.items c.in-Some.task c.in-Some.ensures.items) refl (rw (c.as_slice.ensures.value, c.in-Halts.is) at c.in_ok-run_task.ensures.runs))
