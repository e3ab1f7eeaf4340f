use Rattle.std.proofs.Common.{◌≡◌, ℕ, [], Bool, map, option_map, Vec, Global, ap, sym, ◌∙◌}
use Rattle.std.specs.Prelude.{OnOk, Result, Ok, Err}
use Rattle.eds_base.specs.declared.fail.Memory.{Memory}
use Rattle.eds_types.specs.declared.value.Value.{Value}
use Rattle.eds_types.specs.Plain.{Plain, plain}
use Rattle.eds_types.specs.Rows.{Table}
use Rattle.eds_plan.specs.Statements.{stmts}
use Rattle.eds_act.specs.declared.ending.ActEnd.TheVariants.{Done, Halted}
use Rattle.eds_act.specs.Acting.{noted}
use Rattle.eds_act.specs.Does.{World, Tells, items_of}
use Rattle.eds_act.specs.Running.{types_of, world}
use Rattle.eds_plan.specs.declared.run.Halt.TheVariants.{BadArgument}
use Rattle.eds_act.proofs.Acted.{acting_none, acting_unfit, acting_ran}
use Rattle.eds_act.proofs.Whole.{ended}
use Rattle.eds_act.proofs.action.act.Goals as goal

pub returns-in-Done-clause-acts : goal.returns-in-Done-clause-acts
returns-in-Done-clause-acts c = λ packs tells.
    acting_ran packs c.args.table.now c.args.comp.now c.args.machine c.args.action.now c.in-Some.activity.now (map plain c.args.arguments.now) (map plain c.in-Some-values.values.items) c.as_slice.result.now (map plain c.as_slice-in-Some.result.now) c.as_slice-in-Some-2.result.now Done c.args.event.now.left c.run_frames.new.event.left (world c.args.event.now) (world c.run_frames.new.event)
    c.in-Some.ensures (ap types_of c.as_slice.ensures.value ∙ c.in_ok-types-in-Some.ensures) (ap (map plain) c.as_slice-in-Some.ensures.value) c.as_slice-in-Some-2.ensures
    (ap (option_map (λ (v : Vec Value Global). map plain v.items)) (sym c.in-Some-values.is) ∙ c.in_ok-values-in-Some.ensures packs tells)
    (ended c.args.table.now 0 c.args.comp.now c.in-Some.activity.now [] packs tells Done (items_of (map plain c.in-Some-values.values.items) (stmts c.in-Some.activity.now.body)) _ _ _ _
    (rw (c.in_ok-frame-in-Some-values.ensures) at (rw c.in-Done.is at c.in_ok-run_frames-in-Some-values.ensures.runs)))

-- where the halt was noted
with_note : (r : Result (Unit {0}) Memory) (t : Table) (f : (ℕ → Plain → Bool) → ℕ × World) (l m : ℕ) (w v : World) → OnOk r (w ≡ v) → l ≡ m → ((packs : ℕ → Plain → Bool) → Tells t packs → (m, v) ≡ f packs) → OnOk r ((packs : ℕ → Plain → Bool) → Tells t packs → (l, w) ≡ f packs)
with_note (Ok u) t f l m w v e k h = λ packs tells. ap (λ x. (x, w)) k ∙ ap (λ x. (m, x)) e ∙ h packs tells
with_note (Err e') t f l m w v e k h = tt

pub returns-in-None-clause-acts : goal.returns-in-None-clause-acts
returns-in-None-clause-acts c = with_note c.note.result c.args.table.now _ c.note.new.event.left c.args.event.now.left (world c.note.new.event) (noted c.args.machine BadArgument (world c.args.event.now)) c.note.ensures.noted c.note.ensures.left
    (λ packs tells. acting_none packs c.args.table.now c.args.comp.now c.args.machine c.args.action.now (map plain c.args.arguments.now) c.args.event.now.left (world c.args.event.now) c.in-None.ensures)

pub returns-in-None-values-clause-acts : goal.returns-in-None-values-clause-acts
returns-in-None-values-clause-acts c = with_note c.note-in-None-values.result c.args.table.now _ c.note-in-None-values.new.event.left c.args.event.now.left (world c.note-in-None-values.new.event) (noted c.args.machine BadArgument (world c.args.event.now)) c.note-in-None-values.ensures.noted c.note-in-None-values.ensures.left
    (λ packs tells.
    acting_unfit packs c.args.table.now c.args.comp.now c.args.machine c.args.action.now c.in-Some.activity.now (map plain c.args.arguments.now) c.as_slice.result.now (map plain c.as_slice-in-Some.result.now) c.as_slice-in-Some-2.result.now c.args.event.now.left (world c.args.event.now)
    c.in-Some.ensures (ap types_of c.as_slice.ensures.value ∙ c.in_ok-types-in-Some.ensures) (ap (map plain) c.as_slice-in-Some.ensures.value) c.as_slice-in-Some-2.ensures
    (ap (option_map (λ (v : Vec Value Global). map plain v.items)) (sym c.in-None-values.is) ∙ c.in_ok-values-in-Some.ensures packs tells))

pub returns-clause-acts : goal.returns-clause-acts
returns-clause-acts c = with_note c.note-in-Halted.result c.args.table.now _ c.note-in-Halted.new.event.left c.run_frames.new.event.left (world c.note-in-Halted.new.event) (noted c.args.machine c.in-Halted.halt (world c.run_frames.new.event)) c.note-in-Halted.ensures.noted c.note-in-Halted.ensures.left
    (λ packs tells.
    acting_ran packs c.args.table.now c.args.comp.now c.args.machine c.args.action.now c.in-Some.activity.now (map plain c.args.arguments.now) (map plain c.in-Some-values.values.items) c.as_slice.result.now (map plain c.as_slice-in-Some.result.now) c.as_slice-in-Some-2.result.now (Halted c.in-Halted.halt) c.args.event.now.left c.run_frames.new.event.left (world c.args.event.now) (world c.run_frames.new.event)
    c.in-Some.ensures (ap types_of c.as_slice.ensures.value ∙ c.in_ok-types-in-Some.ensures) (ap (map plain) c.as_slice-in-Some.ensures.value) c.as_slice-in-Some-2.ensures
    (ap (option_map (λ (v : Vec Value Global). map plain v.items)) (sym c.in-Some-values.is) ∙ c.in_ok-values-in-Some.ensures packs tells)
    (ended c.args.table.now 0 c.args.comp.now c.in-Some.activity.now [] packs tells (Halted c.in-Halted.halt) (items_of (map plain c.in-Some-values.values.items) (stmts c.in-Some.activity.now.body)) _ _ _ _
    (rw (c.in_ok-frame-in-Some-values.ensures) at (rw c.in-Halted.is at c.in_ok-run_frames-in-Some-values.ensures.runs))))
