-- What a component makes of an event doesn't rest on what was sent before.
use Rattle.std.proofs.Common.{◌≡◌, ℕ, ◌+◌, ◌-◌, List, [], ◌∷◌, map, Bool, true, false, Option, Some, None, slice_get, refl, sym, ap, ◌∙◌, append_assoc, append-nil}
use Rattle.std.specs.Prelude.{option_to_list, slice_set}
use Rattle.std.specs.List.{find}
use Rattle.eds_types.specs.Plain.{Plain, plain}
use Rattle.eds_types.specs.Rows.{Table}
use Rattle.eds_plan.specs.declared.activity.Action.{Action}
use Rattle.eds_plan.specs.declared.activity.Activity.{Activity}
use Rattle.eds_plan.specs.declared.activity.Op.{Op}
use Rattle.eds_plan.specs.declared.activity.Op.TheVariants as op
use Rattle.eds_plan.specs.declared.component.ComponentPlan.{ComponentPlan}
use Rattle.eds_plan.specs.declared.component.MapPlan.{MapPlan}
use Rattle.eds_plan.specs.declared.machine.Machine.{Machine}
use Rattle.eds_plan.specs.declared.machine.Transition.{Transition}
use Rattle.eds_plan.specs.declared.machine.Trigger.{Trigger}
use Rattle.eds_plan.specs.declared.machine.Trigger.TheVariants as trigger
use Rattle.eds_plan.specs.declared.run.Halt.{Halt}
use Rattle.eds_plan.specs.declared.run.Halt.TheVariants.{BadArgument}
use Rattle.eds_plan.specs.declared.run.Way.TheVariants.{Up}
use Rattle.eds_plan.specs.Sends.{Sent, primitive, halted}
use Rattle.eds_plan.specs.Statements.{stmts}
use Rattle.eds_act.specs.declared.ending.ActEnd.{ActEnd}
use Rattle.eds_act.specs.declared.ending.ActEnd.TheVariants.{Done, Halted}
use Rattle.eds_act.specs.Acting.{acting, acted, entered, noted, noted_end}
use Rattle.eds_plan.specs.Plans.{argument_types}
use Rattle.eds_act.specs.Does.{World, Ended, exec, items_of, value_of, arguments_of}
use Rattle.eds_act.proofs.Whole.{sent_before, exec_before}
use Rattle.eds_machine.specs.declared.event.Event.{Event}
use Rattle.eds_machine.specs.declared.event.Event.TheVariants as event
use Rattle.eds_machine.specs.Laws.{behind, SendsStandBehind, StartSendsStandBehind}
use Rattle.eds_machine.specs.Reactions.{Reacting, standing, settles, taken, at_entry, at_exit, acts, moves, goes, goes_or_stays, machine_reacts, machines_react, map_reacts, mapped, mapped_by, maps_to, is_required, fires, fresh, reacts, starts, trigger_of}

-- of a number and a world
abbrev pair_behind : List Sent → ℕ × World → ℕ × World
pair_behind o p = (p.0, sent_before o p.1)

noted_behind : (machine : ℕ) (h : Halt) (o : List Sent) (l : ℕ) (w : World) → (l, noted machine h (sent_before o w)) ≡ pair_behind o (l, noted machine h w)
noted_behind machine h o l w = ap (λ (s : List Sent). (l, record w { sent = s })) (append_assoc o w.sent (halted machine h ∷ []))

ended_behind : (machine : ℕ) (end : ActEnd) (o : List Sent) (l : ℕ) (w : World) → noted_end machine end l (sent_before o w) ≡ pair_behind o (noted_end machine end l w)
ended_behind machine Done o l w = refl
ended_behind machine (Halted h) o l w = noted_behind machine h o l w

module _ (packs : ℕ → Plain → Bool) (t : Table) (c : ComponentPlan) (o : List Sent) where
  entered_behind : (machine : ℕ) (a : Activity) (vs : Option (List Plain)) (l : ℕ) (w : World) → entered packs t c machine a vs l (sent_before o w) ≡ pair_behind o (entered packs t c machine a vs l w)
  entered_behind machine a None l w = noted_behind machine BadArgument o l w
  entered_behind machine a (Some args) l w =
      ap (λ (r : Ended). noted_end machine r.end r.left r.world) (exec_before packs t o c l (items_of args (stmts a.body)) w)
      ∙ ended_behind machine (exec packs t c l (items_of args (stmts a.body)) w).end o (exec packs t c l (items_of args (stmts a.body)) w).left (exec packs t c l (items_of args (stmts a.body)) w).world

  acted_behind : (machine : ℕ) (a : Option Activity) (vs : List (Option Plain)) (l : ℕ) (w : World) → acted packs t c machine a vs l (sent_before o w) ≡ pair_behind o (acted packs t c machine a vs l w)
  acted_behind machine None vs l w = noted_behind machine BadArgument o l w
  acted_behind machine (Some a) vs l w = entered_behind machine a (arguments_of packs (argument_types a) vs) l w

  acting_behind : (machine : ℕ) (action : Action) (args : List Plain) (l : ℕ) (w : World) → acting packs t c machine action args l (sent_before o w) ≡ pair_behind o (acting packs t c machine action args l w)
  unfolding acting
  acting_behind machine action args l w = acted_behind machine (slice_get c.activities action.activity) (map (value_of t args w.variables) action.operands) l w

  acts_behind : (i : ℕ) (args : List Plain) (a : Option Action) (r : Reacting) → acts packs t c i args a (behind o r) ≡ behind o (acts packs t c i args a r)
  acts_behind i args None r = refl
  acts_behind i args (Some a) r = ap (λ (p : ℕ × World). record { world = p.1; machines = r.machines; left = p.0 }) (acting_behind i a args r.left r.world)

  moves_behind : (args : List Plain) (i : ℕ) (machine : Machine) (at : ℕ) (x : Transition) (r : Reacting) → moves packs t c args i machine at x (behind o r) ≡ behind o (moves packs t c args i machine at x r)
  moves_behind args i machine at x r =
      ap (λ s. acts packs t c i [] (at_entry machine x.to) (acts packs t c i args x.action s)) (acts_behind i [] (at_exit machine at) (settles c x r))
      ∙ ap (acts packs t c i [] (at_entry machine x.to)) (acts_behind i args x.action (acts packs t c i [] (at_exit machine at) (settles c x r)))
      ∙ acts_behind i [] (at_entry machine x.to) (acts packs t c i args x.action (acts packs t c i [] (at_exit machine at) (settles c x r)))

  goes_behind : (now : ℕ) (args : List Plain) (i : ℕ) (machine : Machine) (at : ℕ) (x : Transition) (r : Reacting) → goes packs t c now args i machine at x (behind o r) ≡ behind o (goes packs t c now args i machine at x r)
  goes_behind now args i machine at x r = ap (λ (s : Reacting). record s { machines = slice_set s.machines i (record { at = x.to; entered = now; passed = now }) }) (moves_behind args i machine at x r)

  taken_behind : (now : ℕ) (e : Trigger) (args : List Plain) (i : ℕ) (machine : Machine) (at : ℕ) (x : Option Transition) (r : Reacting) → goes_or_stays packs t c now e args i machine at x (behind o r) ≡ behind o (goes_or_stays packs t c now e args i machine at x r)
  taken_behind now e args i machine at None r = refl
  taken_behind now e args i machine at (Some x) r = goes_behind now args i machine at x r

  machine_behind : (now : ℕ) (e : Trigger) (args : List Plain) (i : ℕ) (machine : Machine) (r : Reacting) → machine_reacts packs t c now e args i machine (behind o r) ≡ behind o (machine_reacts packs t c now e args i machine r)
  unfolding machine_reacts
  machine_behind now e args i machine r = taken_behind now e args i machine (standing r.machines i).at (taken t c machine (standing r.machines i).at e args r.world.variables r.world.waiting) r

  machines_behind : (now : ℕ) (e : Trigger) (args : List Plain) (i : ℕ) (ms : List Machine) (r : Reacting) → machines_react packs t c now e args i ms (behind o r) ≡ behind o (machines_react packs t c now e args i ms r)
  machines_behind now e args i [] r = refl
  machines_behind now e args i (m ∷ ms) r = ap (machines_react packs t c now e args (i + 1) ms) (machine_behind now e args i m r) ∙ machines_behind now e args (i + 1) ms (machine_reacts packs t c now e args i m r)

  mapped_behind : (required : Bool) (p : Op) (args : List Plain) (face member x : ℕ) (r : Reacting) → mapped required p args face member x (behind o r) ≡ behind o (mapped required p args face member x r)
  mapped_behind true op.Command args face member x r = refl
  mapped_behind false op.Command args face member x r = refl
  mapped_behind true op.Get args face member x r = refl
  mapped_behind false op.Get args face member x r = ap (λ (s : List Sent). record r { world = record r.world { sent = s } }) (append_assoc o r.world.sent (primitive r.world.component face member Up op.Val (option_to_list (slice_get r.world.variables x)) ∷ []))
  mapped_behind true op.Set args face member x r = refl
  mapped_behind false op.Set args face member x r = refl
  mapped_behind true op.Val args face member x r = refl
  mapped_behind false op.Val args face member x r = refl

  map_behind : (face member : ℕ) (p : Op) (args : List Plain) (r : Reacting) → map_reacts c face member p args (behind o r) ≡ behind o (map_reacts c face member p args r)
  map_behind face member p args r = go (find (maps_to face member) c.maps)
    where
      go : (m : Option MapPlan) → mapped_by (is_required c face) p args face member m (behind o r) ≡ behind o (mapped_by (is_required c face) p args face member m r)
      go None = refl
      go (Some m) = mapped_behind (is_required c face) p args face member m.variable r

  fires_behind : (now i : ℕ) (m : Option Machine) (r : Reacting) → fires packs t c now i m (behind o r) ≡ behind o (fires packs t c now i m r)
  fires_behind now i None r = refl
  fires_behind now i (Some m) r = machine_behind now (trigger.Timer (now - (standing r.machines i).entered)) [] i m r

  reacts_behind : (now : ℕ) (e : Event) (r : Reacting) → reacts packs t c now e (behind o r) ≡ behind o (reacts packs t c now e r)
  reacts_behind now (event.Prim p) r =
      ap (machines_react packs t c now (trigger_of p.op p.end.face p.member) (map plain p.arguments) 0 c.machines) (map_behind p.end.face p.member p.op (map plain p.arguments) r)
      ∙ machines_behind now (trigger_of p.op p.end.face p.member) (map plain p.arguments) 0 c.machines (map_reacts c p.end.face p.member p.op (map plain p.arguments) r)
  reacts_behind now (event.Timer i) r = fires_behind now i (slice_get c.machines i) r

  starts_behind : (comp : ℕ) → starts packs t c comp o ≡ behind o (starts packs t c comp [])
  starts_behind comp =
      ap (λ (ss : List Sent). starts packs t c comp ss) (sym (append-nil o))
      ∙ machines_behind 0 trigger.Start [] 0 c.machines (fresh c comp [])

pub start_sends_stand_behind : StartSendsStandBehind
start_sends_stand_behind packs t c comp out = starts_behind packs t c out comp

pub sends_stand_behind : SendsStandBehind
sends_stand_behind packs t c now e out r = reacts_behind packs t c out now e r
