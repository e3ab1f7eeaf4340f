-- What a component sends may leave it.
use Rattle.std.proofs.Common.{◌≡◌, ◌<◌, ◌+◌, ◌-◌, ℕ, zero, suc, List, [], ◌∷◌, length, map, Bool, true, false, Option, Some, None, slice_get, refl, sym, ap, subst, ◌∙◌, arith}
use Rattle.std.proofs.lemmas.Option.{slice_get_within}
use Rattle.std.specs.Prelude.{option_to_list}
use Rattle.std.specs.List.{find}
use Rattle.eds_base.specs.declared.ids.TypeId.{TypeId}
use Rattle.eds_types.specs.Plain.{Plain, plain}
use Rattle.eds_types.specs.Rows.{Table}
use Rattle.eds_plan.specs.Carried.{leaving}
use Rattle.eds_plan.specs.Fitting.{ComponentFits, MapFits}
use Rattle.eds_plan.specs.Plans.{argument_types, variable_types}
use Rattle.eds_plan.specs.Sends.{halted, primitive}
use Rattle.eds_plan.specs.Statements.{stmts}
use Rattle.eds_plan.specs.declared.activity.Action.{Action}
use Rattle.eds_plan.specs.declared.activity.Activity.{Activity}
use Rattle.eds_plan.specs.declared.activity.Op.{Op}
use Rattle.eds_plan.specs.declared.activity.Op.TheVariants as op
use Rattle.eds_plan.specs.declared.component.ComponentPlan.{ComponentPlan}
use Rattle.eds_plan.specs.declared.component.MapPlan.{MapPlan}
use Rattle.eds_plan.specs.declared.component.VarPlan.{VarPlan}
use Rattle.eds_plan.specs.declared.instance.Member.TheVariants as member
use Rattle.eds_plan.specs.declared.machine.Machine.{Machine}
use Rattle.eds_plan.specs.declared.machine.Transition.{Transition}
use Rattle.eds_plan.specs.declared.machine.Trigger.{Trigger}
use Rattle.eds_plan.specs.declared.machine.Trigger.TheVariants as trigger
use Rattle.eds_plan.specs.declared.run.Halt.{Halt}
use Rattle.eds_plan.specs.declared.run.Halt.TheVariants.{BadArgument}
use Rattle.eds_plan.specs.declared.run.Way.TheVariants.{Up}
use Rattle.eds_act.specs.declared.ending.ActEnd.{ActEnd}
use Rattle.eds_act.specs.declared.ending.ActEnd.TheVariants.{Done, Halted}
use Rattle.eds_act.specs.Acting.{acting, acted, entered, noted, noted_end}
use Rattle.eds_act.specs.Does.{World, Tells, Conforms, AllConform, exec, items_of, value_of, arguments_of}
use Rattle.eds_act.specs.Leaves.{MayAllLeave, MayLeave}
use Rattle.eds_act.proofs.Leaving.{activities_send_well, all_append}
use Rattle.eds_machine.specs.declared.event.Event.{Event}
use Rattle.eds_machine.specs.declared.event.Event.TheVariants as event
use Rattle.eds_machine.specs.Laws.{ReactionsSendWell, StartsSendWell}
use Rattle.eds_machine.specs.Reactions.{Reacting, standing, settles, taken, at_entry, at_exit, acts, moves, goes_or_stays, machine_reacts, machines_react, map_reacts, mapped, mapped_by, maps_to, is_required, required_end, replies, fires, fresh, reacts, receives, starts, trigger_of}
use Rattle.eds_machine.proofs.MapLaws.{found_fits}

map_at : (xs : List VarPlan) (i : ℕ) (x : VarPlan) → slice_get xs i ≡ Some x → slice_get (map (λ (y : VarPlan). y.id.0) xs) i ≡ Some x.id.0
map_at [] i x e = absurd cc
map_at (y ∷ xs) zero x e = let same : y ≡ x = cc in ap (λ (z : VarPlan). Some z.id.0) same
map_at (y ∷ xs) (suc i) x e = map_at xs i x e

-- the value of a variable packs as the variable's type
value_conforms : (t : Table) (ids : List ℕ) (vs : List Plain) (i id : ℕ) → AllConform t ids vs → slice_get ids i ≡ Some id → AllConform t (id ∷ []) (option_to_list (slice_get vs i))
value_conforms t [] vs i id h e = absurd cc
value_conforms t (k ∷ ids) [] i id h e = absurd h
value_conforms t (k ∷ ids) (v ∷ vs) zero id h e = let same : k ≡ id = cc in (subst (λ n. Conforms t n v) same h.0, tt)
value_conforms t (k ∷ ids) (v ∷ vs) (suc i) id h e = value_conforms t ids vs i id h.1 e

module _ (packs : ℕ → Plain → Bool) (t : Table) (c : ComponentPlan) (comp : ℕ) (tells : Tells t packs) (fits : ComponentFits t (Conforms t) c) where
  -- ---- actions

  noted_leaves : (i : ℕ) (h : Halt) (w : World) → i < length c.machines → MayAllLeave t c comp w → MayAllLeave t c comp (noted i h w)
  noted_leaves i h w lt k = record { own = k.own; sent = all_append (MayLeave t c comp) w.sent (halted i h ∷ []) k.sent (lt, tt) }

  ended_leaves : (i : ℕ) (end : ActEnd) (l : ℕ) (w : World) → i < length c.machines → MayAllLeave t c comp w → MayAllLeave t c comp (noted_end i end l w).1
  ended_leaves i Done l w lt k = k
  ended_leaves i (Halted h) l w lt k = noted_leaves i h w lt k

  entered_leaves : (i j : ℕ) (a : Activity) (vs : Option (List Plain)) (l : ℕ) (w : World) → slice_get c.activities j ≡ Some a → i < length c.machines → MayAllLeave t c comp w → MayAllLeave t c comp (entered packs t c i a vs l w).1
  entered_leaves i j a None l w is lt k = noted_leaves i BadArgument w lt k
  entered_leaves i j a (Some args) l w is lt k =
      ended_leaves i (exec packs t c l (items_of args (stmts a.body)) w).end (exec packs t c l (items_of args (stmts a.body)) w).left (exec packs t c l (items_of args (stmts a.body)) w).world lt
      (activities_send_well packs t c comp j a args l w tells fits is k)

  acting_leaves : (i : ℕ) (a : Action) (args : List Plain) (l : ℕ) (w : World) → i < length c.machines → MayAllLeave t c comp w → MayAllLeave t c comp (acting packs t c i a args l w).1
  unfolding acting
  acting_leaves i a args l w lt k = go (slice_get c.activities a.activity) refl
    where
      go : (o : Option Activity) → slice_get c.activities a.activity ≡ o → MayAllLeave t c comp (acted packs t c i o (map (value_of t args w.variables) a.operands) l w).1
      go None is = noted_leaves i BadArgument w lt k
      go (Some b) is = entered_leaves i a.activity b (arguments_of packs (argument_types b) (map (value_of t args w.variables) a.operands)) l w is lt k

  acts_leave : (i : ℕ) (args : List Plain) (a : Option Action) (r : Reacting) → i < length c.machines → MayAllLeave t c comp r.world → MayAllLeave t c comp (acts packs t c i args a r).world
  acts_leave i args None r lt k = k
  acts_leave i args (Some a) r lt k = acting_leaves i a args r.left r.world lt k

  -- ---- machines

  moves_leave : (args : List Plain) (i : ℕ) (machine : Machine) (at : ℕ) (x : Transition) (r : Reacting) → i < length c.machines → MayAllLeave t c comp r.world → MayAllLeave t c comp (moves packs t c args i machine at x r).world
  moves_leave args i machine at x r lt k =
      acts_leave i [] (at_entry machine x.to) (acts packs t c i args x.action (acts packs t c i [] (at_exit machine at) (settles c x r))) lt
      (acts_leave i args x.action (acts packs t c i [] (at_exit machine at) (settles c x r)) lt
      (acts_leave i [] (at_exit machine at) (settles c x r) lt (record { own = k.own; sent = k.sent })))

  taken_leaves : (now : ℕ) (e : Trigger) (args : List Plain) (i : ℕ) (machine : Machine) (at : ℕ) (x : Option Transition) (r : Reacting) → i < length c.machines → MayAllLeave t c comp r.world → MayAllLeave t c comp (goes_or_stays packs t c now e args i machine at x r).world
  taken_leaves now e args i machine at None r lt k = k
  taken_leaves now e args i machine at (Some x) r lt k = moves_leave args i machine at x r lt k

  machine_leaves : (now : ℕ) (e : Trigger) (args : List Plain) (i : ℕ) (machine : Machine) (r : Reacting) → i < length c.machines → MayAllLeave t c comp r.world → MayAllLeave t c comp (machine_reacts packs t c now e args i machine r).world
  unfolding machine_reacts
  machine_leaves now e args i machine r lt k = taken_leaves now e args i machine (standing r.machines i).at (taken t c machine (standing r.machines i).at e args r.world.variables r.world.waiting) r lt k

  machines_leave : (now : ℕ) (e : Trigger) (args : List Plain) (i : ℕ) (ms : List Machine) (r : Reacting) → i + length ms ≡ length c.machines → MayAllLeave t c comp r.world → MayAllLeave t c comp (machines_react packs t c now e args i ms r).world
  machines_leave now e args i [] r count k = k
  machines_leave now e args i (m ∷ ms) r count k = machines_leave now e args (i + 1) ms (machine_reacts packs t c now e args i m r) (omega (arith, count)) (machine_leaves now e args i m r (omega (arith, count)) k)

  all_leave : (now : ℕ) (e : Trigger) (args : List Plain) (r : Reacting) → MayAllLeave t c comp r.world → MayAllLeave t c comp (machines_react packs t c now e args 0 c.machines r).world
  all_leave now e args r k = machines_leave now e args 0 c.machines r (omega arith) k

  -- ---- the parameter map

  -- a map's answer at a provided end
  reply_leaves : (face number : ℕ) (m : MapPlan) (r : Reacting) → MapFits c m → m.face ≡ face → m.member ≡ number → is_required c face ≡ false → AllConform t (variable_types c) r.world.variables → MayAllLeave t c comp r.world → MayAllLeave t c comp (replies face number m.variable r).world
  reply_leaves face number m r f at of provided all k =
      let here : slice_get c.ends face ≡ Some f.end = ap (slice_get c.ends) (sym at) ∙ f.end_is in
      let up : f.end.required ≡ false = sym (ap required_end here) ∙ provided in
      let kind : slice_get (variable_types c) m.variable ≡ Some f.id.0 = map_at c.variables m.variable f.variable f.variable_is ∙ ap (λ (n : TypeId). Some n.0) f.same in
      record {
        own = k.own;
        sent = all_append (MayLeave t c comp) r.world.sent (primitive r.world.component face number Up op.Val (option_to_list (slice_get r.world.variables m.variable)) ∷ []) k.sent (
          (
            k.own,
            record {
              end = f.end;
              end_is = here;
              member = member.Parameter f.name f.id f.read_only;
              member_is = ap (slice_get f.end.instance.members) (sym of) ∙ f.member_is;
              turned = ap leaving (sym up);
              op = tt;
              values = value_conforms t (variable_types c) r.world.variables m.variable f.id.0 all kind;
            },
          ),
          tt,
        );
      }

  mapped_leaves : (required : Bool) (o : Op) (args : List Plain) (face number : ℕ) (m : MapPlan) (r : Reacting) → MapFits c m → m.face ≡ face → m.member ≡ number → is_required c face ≡ required → AllConform t (variable_types c) r.world.variables → MayAllLeave t c comp r.world → MayAllLeave t c comp (mapped required o args face number m.variable r).world
  mapped_leaves true op.Command args face number m r f at of is all k = k
  mapped_leaves false op.Command args face number m r f at of is all k = k
  mapped_leaves true op.Get args face number m r f at of is all k = k
  mapped_leaves false op.Get args face number m r f at of is all k = reply_leaves face number m r f at of is all k
  mapped_leaves true op.Set args face number m r f at of is all k = k
  mapped_leaves false op.Set args face number m r f at of is all k = record { own = k.own; sent = k.sent }
  mapped_leaves true op.Val args face number m r f at of is all k = record { own = k.own; sent = k.sent }
  mapped_leaves false op.Val args face number m r f at of is all k = k

  map_leaves : (face number : ℕ) (o : Op) (args : List Plain) (r : Reacting) → AllConform t (variable_types c) r.world.variables → MayAllLeave t c comp r.world → MayAllLeave t c comp (map_reacts c face number o args r).world
  map_leaves face number o args r all k = go (find (maps_to face number) c.maps) refl
    where
      go : (m : Option MapPlan) → find (maps_to face number) c.maps ≡ m → MayAllLeave t c comp (mapped_by (is_required c face) o args face number m r).world
      go None q = k
      go (Some m) q =
          let f = found_fits t c face number c.maps m q fits.maps in
          mapped_leaves (is_required c face) o args face number m r f.0 f.1 f.2 refl all k

  -- ---- events

  pub fires_leaves : (now i : ℕ) (m : Option Machine) (r : Reacting) → slice_get c.machines i ≡ m → MayAllLeave t c comp r.world → MayAllLeave t c comp (fires packs t c now i m r).world
  fires_leaves now i None r is k = k
  fires_leaves now i (Some machine) r is k = machine_leaves now (trigger.Timer (now - (standing r.machines i).entered)) [] i machine r (slice_get_within c.machines i machine is) k

  -- something is received
  pub receives_leaves : (now face number : ℕ) (o : Op) (args : List Plain) (r : Reacting) → AllConform t (variable_types c) r.world.variables → MayAllLeave t c comp r.world → MayAllLeave t c comp (receives packs t c now face number o args r).world
  receives_leaves now face number o args r all k = all_leave now (trigger_of o face number) args (map_reacts c face number o args r) (map_leaves face number o args r all k)

  reacts_leaves : (now : ℕ) (e : Event) (r : Reacting) → AllConform t (variable_types c) r.world.variables → MayAllLeave t c comp r.world → MayAllLeave t c comp (reacts packs t c now e r).world
  reacts_leaves now (event.Prim p) r all k = receives_leaves now p.end.face p.member p.op (map plain p.arguments) r all k
  reacts_leaves now (event.Timer i) r all k = fires_leaves now i (slice_get c.machines i) r refl k

  starts_leaves : MayAllLeave t c comp (starts packs t c comp []).world
  starts_leaves = all_leave 0 trigger.Start [] (fresh c comp []) (record { own = refl; sent = tt })

pub reactions_send_well : ReactionsSendWell
reactions_send_well packs t c comp now e r tells fits all k = reacts_leaves packs t c comp tells fits now e r all k

pub starts_send_well : StartsSendWell
starts_send_well packs t c comp tells fits = starts_leaves packs t c comp tells fits
