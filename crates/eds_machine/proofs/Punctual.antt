-- No moment of a machine is passed over.
use Rattle.std.proofs.Common.{◌≤◌, ◌<◌, ◌+◌, ◌-◌, ℕ, zero, suc, List, [], ◌∷◌, map, Bool, Option, Some, None, slice_get, sym, subst, arith, inl, inr}
use Rattle.std.specs.Prelude.{slice_set}
use Rattle.eds_types.specs.Plain.{Plain, plain}
use Rattle.eds_types.specs.Rows.{Table}
use Rattle.eds_plan.specs.declared.activity.Op.{Op}
use Rattle.eds_plan.specs.declared.component.ComponentPlan.{ComponentPlan}
use Rattle.eds_plan.specs.declared.machine.Machine.{Machine}
use Rattle.eds_plan.specs.declared.machine.Transition.{Transition}
use Rattle.eds_plan.specs.declared.machine.Trigger.{Trigger}
use Rattle.eds_plan.specs.declared.machine.Trigger.TheVariants as trigger
use Rattle.eds_plan.specs.declared.run.MachineState.{MachineState}
use Rattle.eds_machine.specs.declared.event.Event.{Event}
use Rattle.eds_machine.specs.declared.event.Event.TheVariants as event
use Rattle.eds_machine.specs.Laws.{NoneBefore, ReactionsArePunctual, StartsArePunctual}
use Rattle.eds_machine.specs.Moments.{AnyHas}
use Rattle.eds_machine.specs.Reactions.{Reacting, standing, taken, stays, goes_or_stays, machine_reacts, machines_react, map_reacts, receives, fires, fresh, begins, reacts, trigger_of}
use Rattle.eds_machine.proofs.Keeping.{map_same, moves_same}
use Rattle.eds_machine.proofs.MachineLaws.{IsLater, moment_later}

-- each moment to come of a machine is later than what has passed
moments_later : (m : MachineState) (xs : List Transition) (at : ℕ) → AnyHas m xs at → m.passed < at
moments_later m [] at h = absurd h
moments_later m (x ∷ xs) at (inl e) = subst (IsLater m.passed) e (moment_later m x)
moments_later m (x ∷ xs) at (inr h) = moments_later m xs at h

-- a machine where so much has passed takes the place of another
set_late : (b : ℕ) (ms : List Machine) (rs : List MachineState) (i : ℕ) (m : MachineState) → b ≤ m.passed + 1 → NoneBefore b ms rs → NoneBefore b ms (slice_set rs i m)
set_late b [] rs i m le h j at k = absurd k
set_late b (x ∷ ms) [] i m le h j at k = absurd k
set_late b (x ∷ ms) (r ∷ rs) zero m le h zero at k = omega (arith, le, moments_later m x.transitions at k)
set_late b (x ∷ ms) (r ∷ rs) zero m le h (suc j) at k = h (suc j) at k
set_late b (x ∷ ms) (r ∷ rs) (suc i) m le h zero at k = h zero at k
set_late b (x ∷ ms) (r ∷ rs) (suc i) m le h (suc j) at k = set_late b ms rs i m le (λ n u q. h (suc n) u q) j at k

stays_late : (now b : ℕ) (e : Trigger) (i : ℕ) (ms : List Machine) (rs : List MachineState) → b ≤ now + 1 → NoneBefore b ms rs → NoneBefore b ms (stays now e i rs)
stays_late now b trigger.Start i ms rs le h = h
stays_late now b (trigger.Command f n) i ms rs le h = h
stays_late now b (trigger.Param f n o) i ms rs le h = h
stays_late now b (trigger.Timer k) i ms rs le h = set_late b ms rs i (record { at = (standing rs i).at; entered = (standing rs i).entered; passed = now }) le h

begin_late : (ms : List Machine) → NoneBefore 1 ms (map begins ms)
begin_late [] j at k = absurd k
begin_late (m ∷ ms) zero at k = omega (arith, moments_later (begins m) m.transitions at k)
begin_late (m ∷ ms) (suc j) at k = begin_late ms j at k

module _ (packs : ℕ → Plain → Bool) (t : Table) (c : ComponentPlan) where
  taken_late : (now b : ℕ) (e : Trigger) (args : List Plain) (i : ℕ) (machine : Machine) (at : ℕ) (x : Option Transition) (r : Reacting) → b ≤ now + 1 → NoneBefore b c.machines r.machines → NoneBefore b c.machines (goes_or_stays packs t c now e args i machine at x r).machines
  taken_late now b e args i machine at None r le h = stays_late now b e i c.machines r.machines le h
  taken_late now b e args i machine at (Some x) r le h =
      subst (λ rs. NoneBefore b c.machines (slice_set rs i (record { at = x.to; entered = now; passed = now }))) (sym (moves_same packs t c args i machine at x r))
      (set_late b c.machines r.machines i (record { at = x.to; entered = now; passed = now }) le h)

  machine_late : (now b : ℕ) (e : Trigger) (args : List Plain) (i : ℕ) (machine : Machine) (r : Reacting) → b ≤ now + 1 → NoneBefore b c.machines r.machines → NoneBefore b c.machines (machine_reacts packs t c now e args i machine r).machines
  unfolding machine_reacts
  machine_late now b e args i machine r le h = taken_late now b e args i machine (standing r.machines i).at (taken t c machine (standing r.machines i).at e args r.world.variables r.world.waiting) r le h

  machines_late : (now b : ℕ) (e : Trigger) (args : List Plain) (i : ℕ) (ms : List Machine) (r : Reacting) → b ≤ now + 1 → NoneBefore b c.machines r.machines → NoneBefore b c.machines (machines_react packs t c now e args i ms r).machines
  machines_late now b e args i [] r le h = h
  machines_late now b e args i (m ∷ ms) r le h = machines_late now b e args (i + 1) ms (machine_reacts packs t c now e args i m r) le (machine_late now b e args i m r le h)

  pub receives_late : (now b face number : ℕ) (o : Op) (args : List Plain) (r : Reacting) → b ≤ now + 1 → NoneBefore b c.machines r.machines → NoneBefore b c.machines (receives packs t c now face number o args r).machines
  receives_late now b face number o args r le h =
      machines_late now b (trigger_of o face number) args 0 c.machines (map_reacts c face number o args r) le
      (subst (λ rs. NoneBefore b c.machines rs) (sym (map_same c face number o args r)) h)

  pub fires_late : (now b i : ℕ) (m : Option Machine) (r : Reacting) → b ≤ now + 1 → NoneBefore b c.machines r.machines → NoneBefore b c.machines (fires packs t c now i m r).machines
  fires_late now b i None r le h = h
  fires_late now b i (Some m) r le h = machine_late now b (trigger.Timer (now - (standing r.machines i).entered)) [] i m r le h

  reacts_late : (now b : ℕ) (e : Event) (r : Reacting) → b ≤ now + 1 → NoneBefore b c.machines r.machines → NoneBefore b c.machines (reacts packs t c now e r).machines
  reacts_late now b (event.Prim p) r le h = receives_late now b p.end.face p.member p.op (map plain p.arguments) r le h
  reacts_late now b (event.Timer i) r le h = fires_late now b i (slice_get c.machines i) r le h

pub reactions_are_punctual : ReactionsArePunctual
reactions_are_punctual packs t c now b e r le h = reacts_late packs t c now b e r le h

pub starts_are_punctual : StartsArePunctual
starts_are_punctual packs t c comp = machines_late packs t c 0 1 trigger.Start [] 0 c.machines (fresh c comp []) (omega arith) (begin_late c.machines)
