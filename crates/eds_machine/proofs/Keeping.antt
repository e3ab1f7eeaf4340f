-- After an event each machine is in one of its states, and at such times.
use Rattle.std.proofs.Common.{◌≡◌, ◌<◌, ◌+◌, ◌-◌, ℕ, zero, suc, List, [], ◌∷◌, length, map, Bool, true, false, Option, Some, None, slice_get, refl, sym, ap, subst, ◌∙◌, arith}
use Rattle.std.specs.Prelude.{slice_set, ◌&&◌, if◌then◌else◌, OnOk, IfOk, Result, Ok, Err}
use Rattle.std.specs.List.{AllByRecursion, find}
use Rattle.eds_base.specs.declared.fail.Memory.{Memory}
use Rattle.eds_types.specs.Plain.{Plain, plain}
use Rattle.eds_types.specs.Rows.{Table}
use Rattle.eds_plan.specs.declared.activity.Action.{Action}
use Rattle.eds_plan.specs.declared.activity.Op.{Op}
use Rattle.eds_plan.specs.declared.activity.Op.TheVariants as op
use Rattle.eds_plan.specs.declared.component.ComponentPlan.{ComponentPlan}
use Rattle.eds_plan.specs.declared.component.MapPlan.{MapPlan}
use Rattle.eds_plan.specs.declared.machine.Machine.{Machine}
use Rattle.eds_plan.specs.declared.machine.Transition.{Transition}
use Rattle.eds_plan.specs.declared.machine.Trigger.{Trigger}
use Rattle.eds_plan.specs.declared.machine.Trigger.TheVariants as trigger
use Rattle.eds_plan.specs.declared.run.CompState.{CompState}
use Rattle.eds_plan.specs.declared.run.MachineState.{MachineState}
use Rattle.eds_plan.specs.Matching.{waits_for}
use Rattle.eds_plan.specs.Sends.{Sent}
use Rattle.eds_plan.specs.Plans.{variable_types}
use Rattle.eds_act.specs.Does.{AllConform}
use Rattle.eds_machine.specs.declared.event.Event.{Event}
use Rattle.eds_machine.specs.declared.event.Event.TheVariants as event
use Rattle.eds_machine.specs.Conditions.{AreTimely, IsTimely, HasStates, IsStateAt}
use Rattle.eds_machine.specs.Reactions.{Reacting, standing, settles, stays, taken, is_open, at_entry, at_exit, acts, moves, goes_or_stays, machine_reacts, machines_react, map_reacts, mapped, mapped_by, maps_to, is_required, fires, receives, reacts, starts, fresh, begins, trigger_of}

timely_set : (now : ℕ) (ms : List Machine) (rs : List MachineState) (i : ℕ) (machine : Machine) (m : MachineState) → slice_get ms i ≡ Some machine → IsTimely now machine m → AreTimely now ms rs → AreTimely now ms (slice_set rs i m)
timely_set now [] rs i machine m at ok h = absurd cc
timely_set now (x ∷ xs) [] i machine m at ok h = h
timely_set now (x ∷ xs) (r ∷ rs) zero machine m at ok h = (let same : machine ≡ x = cc in subst (λ k. IsTimely now k m) same ok, h.1)
timely_set now (x ∷ xs) (r ∷ rs) (suc i) machine m at ok h = (h.0, timely_set now xs rs i machine m at ok h.1)

timely_at : (now : ℕ) (ms : List Machine) (rs : List MachineState) (i : ℕ) (machine : Machine) → slice_get ms i ≡ Some machine → AreTimely now ms rs → IsTimely now machine (standing rs i)
timely_at now [] rs i machine at h = absurd cc
timely_at now (x ∷ xs) [] i machine at h = absurd h
timely_at now (x ∷ xs) (r ∷ rs) zero machine at h = let same : x ≡ machine = cc in subst (λ k. IsTimely now k r) same h.0
timely_at now (x ∷ xs) (r ∷ rs) (suc i) machine at h = timely_at now xs rs i machine at h.1

found_holds : (P : Transition → Type 0) (p : Transition → Bool) (xs : List Transition) (x : Transition) → find p xs ≡ Some x → AllByRecursion P xs → P x
found_holds P p [] x e h = absurd cc
found_holds P p (y ∷ ys) x e h = go (p y) e (λ f. found_holds P p ys x f h.1)
  where
    go : (b : Bool) → (if b then Some y else find p ys) ≡ Some x → (find p ys ≡ Some x → P x) → P x
    go true f rest = let same : y ≡ x = cc in subst P same h.0
    go false f rest = rest f

states_at : (ms : List Machine) (i : ℕ) (machine : Machine) → slice_get ms i ≡ Some machine → AllByRecursion HasStates ms → HasStates machine
states_at [] i machine at h = absurd cc
states_at (x ∷ xs) zero machine at h = let same : x ≡ machine = cc in subst HasStates same h.0
states_at (x ∷ xs) (suc i) machine at h = states_at xs i machine at h.1

stays_keeps : (now : ℕ) (e : Trigger) (ms : List Machine) (rs : List MachineState) (i : ℕ) (machine : Machine) → slice_get ms i ≡ Some machine → AreTimely now ms rs → AreTimely now ms (stays now e i rs)
stays_keeps now trigger.Start ms rs i machine at h = h
stays_keeps now (trigger.Command f n) ms rs i machine at h = h
stays_keeps now (trigger.Param f n o) ms rs i machine at h = h
stays_keeps now (trigger.Timer k) ms rs i machine at h =
    let was = timely_at now ms rs i machine at h in
    timely_set now ms rs i machine (record { at = (standing rs i).at; entered = (standing rs i).entered; passed = now }) at (record { at = was.at; entered = omega (arith, was.entered, was.passed); passed = omega arith }) h

begin_timely : (ms : List Machine) → AllByRecursion HasStates ms → AreTimely 0 ms (map begins ms)
begin_timely [] h = tt
begin_timely (m ∷ ms) h = (record { at = h.0.entry; entered = omega arith; passed = omega arith }, begin_timely ms h.1)

mapped_same : (required : Bool) (o : Op) (args : List Plain) (face member x : ℕ) (r : Reacting) → (mapped required o args face member x r).machines ≡ r.machines
mapped_same true op.Command args face member x r = refl
mapped_same false op.Command args face member x r = refl
mapped_same true op.Get args face member x r = refl
mapped_same false op.Get args face member x r = refl
mapped_same true op.Set args face member x r = refl
mapped_same false op.Set args face member x r = refl
mapped_same true op.Val args face member x r = refl
mapped_same false op.Val args face member x r = refl

pub map_same : (c : ComponentPlan) (face member : ℕ) (o : Op) (args : List Plain) (r : Reacting) → (map_reacts c face member o args r).machines ≡ r.machines
map_same c face member o args r = go (find (maps_to face member) c.maps)
  where
    go : (m : Option MapPlan) → (mapped_by (is_required c face) o args face member m r).machines ≡ r.machines
    go None = refl
    go (Some m) = mapped_same (is_required c face) o args face member m.variable r

module _ (packs : ℕ → Plain → Bool) (t : Table) (c : ComponentPlan) where
  acts_same : (i : ℕ) (args : List Plain) (a : Option Action) (r : Reacting) → (acts packs t c i args a r).machines ≡ r.machines
  acts_same i args None r = refl
  acts_same i args (Some a) r = refl

  pub moves_same : (args : List Plain) (i : ℕ) (machine : Machine) (at : ℕ) (x : Transition) (r : Reacting) → (moves packs t c args i machine at x r).machines ≡ r.machines
  moves_same args i machine at x r =
      acts_same i [] (at_entry machine x.to) (acts packs t c i args x.action (acts packs t c i [] (at_exit machine at) (settles c x r)))
      ∙ acts_same i args x.action (acts packs t c i [] (at_exit machine at) (settles c x r))
      ∙ acts_same i [] (at_exit machine at) (settles c x r)

  machine_keeps : (now : ℕ) (e : Trigger) (args : List Plain) (i : ℕ) (machine : Machine) (r : Reacting) → slice_get c.machines i ≡ Some machine → HasStates machine → AreTimely now c.machines r.machines → AreTimely now c.machines (machine_reacts packs t c now e args i machine r).machines
  unfolding machine_reacts
  machine_keeps now e args i machine r at states h = go (taken t c machine (standing r.machines i).at e args r.world.variables r.world.waiting) refl
    where
      go : (o : Option Transition) → taken t c machine (standing r.machines i).at e args r.world.variables r.world.waiting ≡ o → AreTimely now c.machines (goes_or_stays packs t c now e args i machine (standing r.machines i).at o r).machines
      go None q = stays_keeps now e c.machines r.machines i machine at h
      go (Some x) q =
          let there : x.to < length machine.states = found_holds (λ (y : Transition). y.to < length machine.states) (λ y. waits_for (standing r.machines i).at e y && is_open t c args r.world.variables r.world.waiting y) machine.transitions x q states.to in
          subst (λ rs. AreTimely now c.machines (slice_set rs i (record { at = x.to; entered = now; passed = now }))) (sym (moves_same args i machine (standing r.machines i).at x r))
          (timely_set now c.machines r.machines i machine (record { at = x.to; entered = now; passed = now }) at (record { at = there; entered = omega arith; passed = omega arith }) h)

  machines_keep : (now : ℕ) (e : Trigger) (args : List Plain) (i : ℕ) (ms : List Machine) (r : Reacting) → ((k : ℕ) → slice_get c.machines (i + k) ≡ slice_get ms k) → AllByRecursion HasStates ms → AreTimely now c.machines r.machines → AreTimely now c.machines (machines_react packs t c now e args i ms r).machines
  machines_keep now e args i [] r same states h = h
  machines_keep now e args i (m ∷ ms) r same states h =
      let here : slice_get c.machines i ≡ Some m = let z : i ≡ i + 0 = omega arith in ap (slice_get c.machines) z ∙ same 0 in
      machines_keep now e args (i + 1) ms (machine_reacts packs t c now e args i m r) (λ k. let z : (i + 1) + k ≡ i + suc k = omega arith in ap (slice_get c.machines) z ∙ same (suc k)) states.1 (machine_keeps now e args i m r here states.0 h)

  all_keep : (now : ℕ) (e : Trigger) (args : List Plain) (r : Reacting) → AllByRecursion HasStates c.machines → AreTimely now c.machines r.machines → AreTimely now c.machines (machines_react packs t c now e args 0 c.machines r).machines
  all_keep now e args r states h = machines_keep now e args 0 c.machines r (λ k. let z : 0 + k ≡ k = omega arith in ap (slice_get c.machines) z) states h

  pub receives_keep : (now face number : ℕ) (o : Op) (args : List Plain) (r : Reacting) → AllByRecursion HasStates c.machines → AreTimely now c.machines r.machines → AreTimely now c.machines (receives packs t c now face number o args r).machines
  receives_keep now face number o args r states h =
      all_keep now (trigger_of o face number) args (map_reacts c face number o args r) states
      (subst (AreTimely now c.machines) (sym (map_same c face number o args r)) h)

  pub fires_keep : (now i : ℕ) (r : Reacting) → AllByRecursion HasStates c.machines → AreTimely now c.machines r.machines → AreTimely now c.machines (fires packs t c now i (slice_get c.machines i) r).machines
  fires_keep now i r states h = go (slice_get c.machines i) refl
    where
      go : (o : Option Machine) → slice_get c.machines i ≡ o → AreTimely now c.machines (fires packs t c now i o r).machines
      go None q = h
      go (Some machine) q = machine_keeps now (trigger.Timer (now - (standing r.machines i).entered)) [] i machine r q (states_at c.machines i machine q states) h

  pub reacts_keep : (now : ℕ) (e : Event) (r : Reacting) → AllByRecursion HasStates c.machines → AreTimely now c.machines r.machines → AreTimely now c.machines (reacts packs t c now e r).machines
  reacts_keep now (event.Prim p) r states h = receives_keep now p.end.face p.member p.op (map plain p.arguments) r states h
  reacts_keep now (event.Timer i) r states h = fires_keep now i r states h

  pub starts_keep : (comp : ℕ) (out : List Sent) → AllByRecursion HasStates c.machines → AreTimely 0 c.machines (starts packs t c comp out).machines
  starts_keep comp out states = all_keep 0 trigger.Start [] (fresh c comp out) states (begin_timely c.machines states)

  -- after an event that was handled
  pub kept_on_ok : (res : Result (Unit {0}) Memory) (now : ℕ) (e : Event) (r : Reacting) (s : CompState) → AllByRecursion HasStates c.machines → AreTimely now c.machines r.machines → AllConform t (variable_types c) (map plain s.variables) → OnOk res (s.machines ≡ (reacts packs t c now e r).machines) → OnOk res (IsStateAt t c now s)
  kept_on_ok (Ok u) now e r s states h all same = record { variables = all; machines = subst (AreTimely now c.machines) (sym same) (reacts_keep now e r states h) }
  kept_on_ok (Err o) now e r s states h all same = tt

  -- after a start
  pub started_on_ok : (res : Result CompState Memory) (comp : ℕ) (out : List Sent) → AllByRecursion HasStates c.machines → IfOk res (λ (s : CompState). AllConform t (variable_types c) (map plain s.variables)) → IfOk res (λ (s : CompState). s.machines ≡ (starts packs t c comp out).machines) → IfOk res (λ (s : CompState). IsStateAt t c 0 s)
  started_on_ok (Ok s) comp out states all same = record { variables = all; machines = subst (AreTimely 0 c.machines) (sym same) (starts_keep comp out states) }
  started_on_ok (Err e) comp out states all same = tt
