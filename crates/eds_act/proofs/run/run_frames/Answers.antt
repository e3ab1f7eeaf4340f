use Rattle.std.proofs.Common.{[], ◌∷◌, ◌++◌, refl, sym, ap, ◌∙◌, subst, arith}
use Rattle.std.proofs.lemmas.List.{append-nil}
use Rattle.eds_act.specs.declared.ending.ActEnd.TheVariants.{Done, Halted}
use Rattle.eds_act.specs.Running.{world, Leads}
use Rattle.eds_act.specs.Work.{frame_items, frames_items}
use Rattle.eds_act.proofs.Leading.{leads_same, leads_on, leads_nowhere}
use Rattle.eds_act.proofs.Working.{put_frame}
use Rattle.eds_act.proofs.run.run_frames.Goals as goal

pub frames-init : goal.frames-init
frames-init c = record {
  conform = c.requires.conform;
  comp = refl;
  left = omega arith;
  runs =
      subst (λ k. Leads c.args.table.now c.args.comp.now Done (frame_items c.args.first) k c.args.event.now.left (world c.args.event.now) c.args.event.now.left (world c.args.event.now))
      (sym (put_frame [] c.push.new.self.items c.args.first (c.in_ok-push.ensures.items ∙ ap (λ xs. xs ++ c.args.first ∷ []) c.new-frames.ensures.items) ∙ append-nil (frame_items c.args.first)))
      (leads_same c.args.table.now c.args.comp.now (frame_items c.args.first) c.args.event.now.left (world c.args.event.now));
}

pub frames-preserved : goal.frames-preserved
frames-preserved c = record {
  conform = c.run_frame.ensures.conform;
  comp = c.run_frame.ensures.comp ∙ c.frames.invariant.comp;
  left = omega (arith, c.run_frame.ensures.left, c.frames.invariant.left);
  runs =
      leads_on c.args.table.now c.args.comp.now Done (frame_items c.args.first) (frames_items c.frames.frames.items) (frames_items c.run_frame.new.frames.items) c.args.event.now.left c.frames.event.left c.run_frame.new.event.left (world c.args.event.now) (world c.frames.event) (world c.run_frame.new.event)
      c.frames.invariant.runs
      (subst (λ k. Leads c.args.table.now c.args.comp.now Done k (frames_items c.run_frame.new.frames.items) c.frames.event.left (world c.frames.event) c.run_frame.new.event.left (world c.run_frame.new.event)) (sym (put_frame c.pop.new.self.items c.frames.frames.items c.in-Some.frame c.in-Some.ensures.items)) (rw c.in-Done.is at c.in_ok-run_frame.ensures.runs));
}

pub returns-in-Halted-clause-runs : goal.returns-in-Halted-clause-runs
returns-in-Halted-clause-runs c =
    leads_on c.args.table.now c.args.comp.now (Halted c.in-Halted.halt) (frame_items c.args.first) (frames_items c.frames.frames.items) [] c.args.event.now.left c.frames.event.left c.run_frame.new.event.left (world c.args.event.now) (world c.frames.event) (world c.run_frame.new.event)
    c.frames.invariant.runs
    (leads_nowhere c.args.table.now c.args.comp.now c.in-Halted.halt (frames_items c.frames.frames.items) (frames_items c.run_frame.new.frames.items) [] c.frames.event.left c.run_frame.new.event.left (world c.frames.event) (world c.run_frame.new.event)
    (subst (λ k. Leads c.args.table.now c.args.comp.now (Halted c.in-Halted.halt) k (frames_items c.run_frame.new.frames.items) c.frames.event.left (world c.frames.event) c.run_frame.new.event.left (world c.run_frame.new.event)) (sym (put_frame c.pop.new.self.items c.frames.frames.items c.in-Some.frame c.in-Some.ensures.items)) (rw c.in-Halted.is at c.in_ok-run_frame.ensures.runs)))
