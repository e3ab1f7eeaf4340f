-- After an event the variables of a component have values that pack.
use Rattle.std.proofs.Common.{◌≡◌, ◌+◌, ◌-◌, ℕ, zero, suc, List, [], ◌∷◌, ◌++◌, map, Bool, true, false, Option, Some, None, slice_get, refl, sym, ap, ◌∙◌}
use Rattle.std.specs.Prelude.{ℤ, ◌+ℤ◌, if◌then◌else◌, option_to_list, slice_set}
use Rattle.std.specs.List.{AllByRecursion, find}
use Rattle.eds_types.specs.Plain.{Plain, num}
use Rattle.eds_types.specs.Rows.{Table}
use Rattle.eds_plan.specs.Carried.{carried}
use Rattle.eds_plan.specs.Fitting.{MapFits}
use Rattle.eds_plan.specs.Plans.{argument_types, variable_types}
use Rattle.eds_plan.specs.Sends.{Sent}
use Rattle.eds_plan.specs.Statements.{Stmt, assign, calculate, choose, iterate, call, send_command, send_parameter, list_of, stmts}
use Rattle.eds_plan.specs.declared.activity.Action.{Action}
use Rattle.eds_plan.specs.declared.activity.Activity.{Activity}
use Rattle.eds_plan.specs.declared.activity.Op.{Op}
use Rattle.eds_plan.specs.declared.activity.Op.TheVariants as op
use Rattle.eds_plan.specs.declared.component.ComponentPlan.{ComponentPlan}
use Rattle.eds_plan.specs.declared.component.EndPlan.{EndPlan}
use Rattle.eds_plan.specs.declared.component.MapPlan.{MapPlan}
use Rattle.eds_plan.specs.declared.machine.Machine.{Machine}
use Rattle.eds_plan.specs.declared.machine.Transition.{Transition}
use Rattle.eds_plan.specs.declared.machine.Trigger.{Trigger}
use Rattle.eds_plan.specs.declared.machine.Trigger.TheVariants as trigger
use Rattle.eds_plan.specs.declared.run.Halt.TheVariants.{OutOfRange}
use Rattle.eds_plan.specs.declared.run.Outstanding.{Outstanding}
use Rattle.eds_plan.specs.declared.run.Way.{Way}
use Rattle.eds_act.specs.declared.ending.ActEnd.{ActEnd}
use Rattle.eds_act.specs.declared.ending.ActEnd.TheVariants.{Done, Halted}
use Rattle.eds_act.specs.Acting.{acting, acted, entered, noted_end}
use Rattle.eds_act.specs.Does.{World, Tells, AllConform, Item, statement, turn, items_of, Started, goes, halts, exec, start, after, arguments_of, storing, iterating, entering, calling, emitting, sending, turns, begun, way_of, number_of, value_of, calculated, targeted}
use Rattle.eds_act.proofs.Conforming.{conform_set}
use Rattle.eds_machine.specs.Reactions.{Reacting, standing, settles, taken, at_entry, at_exit, acts, moves, goes_or_stays, machine_reacts, machines_react, map_reacts, mapped_by, maps_to, is_required, fires, receives, fresh, starts, trigger_of}
use Rattle.eds_machine.proofs.MapLaws.{found_fits, mapped_conforms, mapped_type}

module _ (packs : ℕ → Plain → Bool) (t : Table) (c : ComponentPlan) (tells : Tells t packs) where
  abbrev pub Keeps : World → Type 0
  Keeps w = AllConform t (variable_types c) w.variables

  -- ---- statements and turns

  abbrev StartsKept : Started → Type 0
  StartsKept (goes is w) = Keeps w
  StartsKept (halts h) = Unit {0}

  storing_keeps : (id : Option ℕ) (x : ℕ) (v : Option Plain) (is : List Item) (w : World) → slice_get (variable_types c) x ≡ id → Keeps w → StartsKept (storing packs id x v is w)
  storing_keeps None x v is w e k = tt
  storing_keeps (Some id) x None is w e k = tt
  storing_keeps (Some id) x (Some v) is w e k = go (packs id v) refl
    where
      go : (b : Bool) → packs id v ≡ b → StartsKept (if b then goes is (record w { variables = slice_set w.variables x v }) else halts OutOfRange)
      go true p = conform_set t (variable_types c) w.variables x id v k e (tells.packs_only id v p)
      go false p = tt

  iterating_keeps : (x : ℕ) (a b : Option ℤ) (step : ℤ) (args : List Plain) (body : List Stmt) (w : World) → Keeps w → StartsKept (iterating x a b step args body w)
  iterating_keeps x None b step args body w k = tt
  iterating_keeps x (Some m) None step args body w k = tt
  iterating_keeps x (Some m) (Some last) step args body w k = k

  entering_keeps : (body : List Stmt) (vs : Option (List Plain)) (w : World) → Keeps w → StartsKept (entering packs body vs w)
  entering_keeps body None w k = tt
  entering_keeps body (Some args) w k = k

  calling_keeps : (a : Option Activity) (vs : List (Option Plain)) (w : World) → Keeps w → StartsKept (calling packs a vs w)
  calling_keeps None vs w k = tt
  calling_keeps (Some a) vs w k = entering_keeps (stmts a.body) (arguments_of packs (argument_types a) vs) w k

  emitting_keeps : (p : List Plain → Sent) (q : List Outstanding) (vs : Option (List Plain)) (w : World) → Keeps w → StartsKept (emitting packs p q vs w)
  emitting_keeps p q None w k = tt
  emitting_keeps p q (Some vs) w k = k

  sending_keeps : (o : Op) (face number : ℕ) (name : Option ℕ) (e : Option EndPlan) (vs : List (Option Plain)) (w : World) → Keeps w → StartsKept (sending packs o face number name e vs w)
  sending_keeps o face number name None vs w k = tt
  sending_keeps o face number name (Some e) vs w k = emitting_keeps _ (begun e.required face number name w.waiting) (arguments_of packs (carried o (way_of e) (slice_get e.instance.members number)) vs) w k

  start_keeps : (i : Item) (w : World) → Keeps w → StartsKept (start packs t c i w)
  start_keeps (statement args (assign x a)) w k = storing_keeps (slice_get (variable_types c) x.variable) x.variable (targeted t w.variables x (value_of t args w.variables a)) [] w refl k
  start_keeps (statement args (calculate x is)) w k = storing_keeps (slice_get (variable_types c) x.variable) x.variable (targeted t w.variables x (calculated t args w.variables is)) [] w refl k
  start_keeps (statement args (choose g a b)) w k = k
  start_keeps (statement args (iterate x a b step body)) w k = iterating_keeps x (number_of (value_of t args w.variables a)) (number_of (value_of t args w.variables b)) step args (list_of body) w k
  start_keeps (statement args (call action)) w k = calling_keeps (slice_get c.activities action.activity) (map (value_of t args w.variables) action.operands) w k
  start_keeps (statement args (send_command end member operands name)) w k = sending_keeps op.Command end member name (slice_get c.ends end) (map (value_of t args w.variables) operands) w k
  start_keeps (statement args (send_parameter end member o operand name)) w k = sending_keeps o end member name (slice_get c.ends end) (map (value_of t args w.variables) (option_to_list operand)) w k
  start_keeps (turn x number last step args body) w k = storing_keeps (slice_get (variable_types c) x) x (Some (num number)) (items_of args body ++ turns x (number +ℤ step) last step args body) w refl k

  after_keeps : (l : ℕ) (is : List Item) (v : World) (s : Started) → StartsKept s → Keeps v → ((js : List Item) (u : World) → Keeps u → Keeps (exec packs t c l js u).world) → Keeps (after packs t c s l v (λ more u. exec packs t c l (more ++ is) u)).world
  after_keeps l is v (goes more u) g k on = on (more ++ is) u g
  after_keeps l is v (halts r) g k on = k

  exec_keeps : (l : ℕ) (is : List Item) (w : World) → Keeps w → Keeps (exec packs t c l is w).world
  unfolding exec
  exec_keeps zero [] w k = k
  exec_keeps (suc l) [] w k = k
  exec_keeps zero (i ∷ is) w k = k
  exec_keeps (suc l) (i ∷ is) w k = after_keeps l is w (start packs t c i w) (start_keeps i w k) k (λ js u p. exec_keeps l js u p)

  -- ---- actions

  ended_keeps : (i : ℕ) (end : ActEnd) (l : ℕ) (w : World) → Keeps w → Keeps (noted_end i end l w).1
  ended_keeps i Done l w k = k
  ended_keeps i (Halted h) l w k = k

  entered_keeps : (i : ℕ) (a : Activity) (vs : Option (List Plain)) (l : ℕ) (w : World) → Keeps w → Keeps (entered packs t c i a vs l w).1
  entered_keeps i a None l w k = k
  entered_keeps i a (Some args) l w k =
      ended_keeps i (exec packs t c l (items_of args (stmts a.body)) w).end (exec packs t c l (items_of args (stmts a.body)) w).left (exec packs t c l (items_of args (stmts a.body)) w).world
      (exec_keeps l (items_of args (stmts a.body)) w k)

  acted_keeps : (i : ℕ) (a : Option Activity) (vs : List (Option Plain)) (l : ℕ) (w : World) → Keeps w → Keeps (acted packs t c i a vs l w).1
  acted_keeps i None vs l w k = k
  acted_keeps i (Some a) vs l w k = entered_keeps i a (arguments_of packs (argument_types a) vs) l w k

  acts_keep : (i : ℕ) (args : List Plain) (a : Option Action) (r : Reacting) → Keeps r.world → Keeps (acts packs t c i args a r).world
  unfolding acting
  acts_keep i args None r k = k
  acts_keep i args (Some a) r k = acted_keeps i (slice_get c.activities a.activity) (map (value_of t args r.world.variables) a.operands) r.left r.world k

  -- ---- machines

  moves_keep : (args : List Plain) (i : ℕ) (machine : Machine) (at : ℕ) (x : Transition) (r : Reacting) → Keeps r.world → Keeps (moves packs t c args i machine at x r).world
  moves_keep args i machine at x r k =
      acts_keep i [] (at_entry machine x.to) (acts packs t c i args x.action (acts packs t c i [] (at_exit machine at) (settles c x r)))
      (acts_keep i args x.action (acts packs t c i [] (at_exit machine at) (settles c x r))
      (acts_keep i [] (at_exit machine at) (settles c x r) k))

  taken_keeps : (now : ℕ) (e : Trigger) (args : List Plain) (i : ℕ) (machine : Machine) (at : ℕ) (x : Option Transition) (r : Reacting) → Keeps r.world → Keeps (goes_or_stays packs t c now e args i machine at x r).world
  taken_keeps now e args i machine at None r k = k
  taken_keeps now e args i machine at (Some x) r k = moves_keep args i machine at x r k

  machine_keeps : (now : ℕ) (e : Trigger) (args : List Plain) (i : ℕ) (machine : Machine) (r : Reacting) → Keeps r.world → Keeps (machine_reacts packs t c now e args i machine r).world
  unfolding machine_reacts
  machine_keeps now e args i machine r k = taken_keeps now e args i machine (standing r.machines i).at (taken t c machine (standing r.machines i).at e args r.world.variables r.world.waiting) r k

  machines_keep : (now : ℕ) (e : Trigger) (args : List Plain) (i : ℕ) (ms : List Machine) (r : Reacting) → Keeps r.world → Keeps (machines_react packs t c now e args i ms r).world
  machines_keep now e args i [] r k = k
  machines_keep now e args i (m ∷ ms) r k = machines_keep now e args (i + 1) ms (machine_reacts packs t c now e args i m r) (machine_keeps now e args i m r k)

  -- ---- events

  map_keeps : (face number : ℕ) (o : Op) (way : Way) (e : EndPlan) (args : List Plain) (r : Reacting) → AllByRecursion (MapFits c) c.maps → slice_get c.ends face ≡ Some e
      → AllConform t (carried o way (slice_get e.instance.members number)) args → Keeps r.world → Keeps (map_reacts c face number o args r).world
  map_keeps face number o way e args r fits at h k = go (find (maps_to face number) c.maps) refl
    where
      go : (m : Option MapPlan) → find (maps_to face number) c.maps ≡ m → Keeps (mapped_by (is_required c face) o args face number m r).world
      go None q = k
      go (Some m) q =
          let f = found_fits t c face number c.maps m q fits in
          mapped_conforms t c (is_required c face) o way (slice_get e.instance.members number) face number m.variable args r
          (mapped_type t c m e number (f.0) (sym (ap (slice_get c.ends) f.1 ∙ at)) f.2) h k

  -- where something with values that pack is received
  pub receives_keeps : (now face number : ℕ) (o : Op) (way : Way) (e : EndPlan) (args : List Plain) (r : Reacting) → AllByRecursion (MapFits c) c.maps → slice_get c.ends face ≡ Some e
      → AllConform t (carried o way (slice_get e.instance.members number)) args → Keeps r.world → Keeps (receives packs t c now face number o args r).world
  receives_keeps now face number o way e args r fits at h k = machines_keep now (trigger_of o face number) args 0 c.machines (map_reacts c face number o args r) (map_keeps face number o way e args r fits at h k)

  -- where a moment of a machine comes
  pub fires_keeps : (now i : ℕ) (m : Option Machine) (r : Reacting) → Keeps r.world → Keeps (fires packs t c now i m r).world
  fires_keeps now i None r k = k
  fires_keeps now i (Some machine) r k = machine_keeps now (trigger.Timer (now - (standing r.machines i).entered)) [] i machine r k

  -- where the component starts
  pub starts_keep : (comp : ℕ) → Keeps (fresh c comp []).world → Keeps (starts packs t c comp []).world
  starts_keep comp k = machines_keep 0 trigger.Start [] 0 c.machines (fresh c comp []) k
