-- What a component that fits gives to the functions that run its machines.
use Rattle.std.proofs.Common.{◌<◌, ℕ, List, [], ◌∷◌, length, arith}
use Rattle.std.specs.List.{AllByRecursion}
use Rattle.eds_types.specs.Rows.{Table}
use Rattle.eds_plan.specs.Fitting.{Brings, ComponentFits, MachineFits, TransitionFits}
use Rattle.eds_plan.specs.declared.component.ComponentPlan.{ComponentPlan}
use Rattle.eds_plan.specs.declared.machine.Machine.{Machine}
use Rattle.eds_plan.specs.declared.machine.Transition.{Transition}
use Rattle.eds_plan.specs.declared.machine.Trigger.{Trigger}
use Rattle.eds_plan.specs.declared.machine.Trigger.TheVariants as trigger
use Rattle.eds_act.specs.Does.{Conforms}
use Rattle.eds_act.proofs.Fitted.{fitted}
use Rattle.eds_machine.specs.Conditions.{HasStates, MachinesFit}
use Rattle.eds_machine.specs.Moments.{HasTimers, IsNear}

all_so : {A : Type 0} (P Q : A → Type 0) → ((x : A) → P x → Q x) → (xs : List A) → AllByRecursion P xs → AllByRecursion Q xs
all_so P Q f [] h = tt
all_so P Q f (x ∷ xs) h = (f x h.0, all_so P Q f xs h.1)

module _ (t : Table) (c : ComponentPlan) where
  brings_near : (e : Trigger) (ids : List ℕ) → Brings c e ids → IsNear e
  brings_near trigger.Start ids h = tt
  brings_near (trigger.Command f n) ids h = tt
  brings_near (trigger.Param f n o) ids h = tt
  brings_near (trigger.Timer k) ids h = h.0

  has_states : (m : Machine) → MachineFits t (Conforms t) c m → HasStates m
  has_states m h = record { entry = h.entry; to = all_so (TransitionFits t (Conforms t) c m) (λ (x : Transition). x.to < length m.states) (λ x k. k.to) m.transitions h.transitions }

  has_timers : (m : Machine) → MachineFits t (Conforms t) c m → HasTimers m
  has_timers m h = all_so (TransitionFits t (Conforms t) c m) (λ (x : Transition). IsNear x.event) (λ x k. brings_near x.event k.brought k.event) m.transitions h.transitions

  pub machines_fit : ComponentFits t (Conforms t) c → MachinesFit t c
  machines_fit f = record {
    activities = fitted t c f;
    initial = f.initial;
    maps = f.maps;
    few = omega (arith, f.few);
    states = all_so (MachineFits t (Conforms t) c) HasStates has_states c.machines f.machines;
    timers = all_so (MachineFits t (Conforms t) c) HasTimers has_timers c.machines f.machines;
  }
