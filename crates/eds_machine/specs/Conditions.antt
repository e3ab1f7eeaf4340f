-- What is asked of a component's plan, its state and an event.
use Rattle.std.specs.List.{AllByRecursion}
use Rattle.std.specs.Prelude.{◌≡◌, ◌≤◌, ◌<◌, ℕ, List, [], ◌∷◌, length, map, Some, slice_get}
use Rattle.eds_types.specs.Plain.{plain}
use Rattle.eds_types.specs.Rows.{Table}
use Rattle.eds_plan.specs.Carried.{arriving, carried}
use Rattle.eds_plan.specs.Fitting.{MapFits}
use Rattle.eds_plan.specs.declared.component.ComponentPlan.{ComponentPlan}
use Rattle.eds_plan.specs.declared.component.EndPlan.{EndPlan}
use Rattle.eds_plan.specs.declared.component.VarPlan.{VarPlan}
use Rattle.eds_plan.specs.declared.machine.Machine.{Machine}
use Rattle.eds_plan.specs.declared.machine.Transition.{Transition}
use Rattle.eds_plan.specs.declared.run.CompState.{CompState}
use Rattle.eds_plan.specs.declared.run.MachineState.{MachineState}
use Rattle.eds_plan.specs.declared.run.Primitive.{Primitive}
use Rattle.eds_plan.specs.Plans.{variable_types}
use Rattle.eds_act.specs.Does.{Conforms, AllConform}
use Rattle.eds_act.specs.Running.{Fits}
use Rattle.eds_machine.specs.declared.event.Event.{Event}
use Rattle.eds_machine.specs.declared.event.Event.TheVariants as event
use Rattle.eds_machine.specs.Moments.{HasTimers}

-- a machine begins in one of its states, and each transition leads to one
pub record HasStates (machine : Machine) : Type 0 where
  pub entry : machine.entry < length machine.states
  pub to : AllByRecursion (λ (x : Transition). x.to < length machine.states) machine.transitions

-- the machines and the parameter map of a component fit it, beside its activities
pub record MachinesFit (t : Table) (c : ComponentPlan) : Type 0 where
  pub activities : Fits t c
  pub initial : AllByRecursion (λ (x : VarPlan). Conforms t x.id.0 (plain x.initial)) c.variables
  pub maps : AllByRecursion (MapFits c) c.maps
  pub few : length c.machines ≤ 65535
  pub states : AllByRecursion HasStates c.machines
  pub timers : AllByRecursion HasTimers c.machines

-- a machine is in one of its states, entered it before its last moment passed, and that isn't to come
pub record IsTimely (now : ℕ) (machine : Machine) (m : MachineState) : Type 0 where
  pub at : m.at < length machine.states
  pub entered : m.entered ≤ m.passed
  pub passed : m.passed ≤ now

-- so is each machine
abbrev pub AreTimely : ℕ → List Machine → List MachineState → Type 0
AreTimely now [] [] = Unit {0}
AreTimely now (machine ∷ ms) (m ∷ rs) = IsTimely now machine m × AreTimely now ms rs
AreTimely now _ _ = ⊥

-- a state of the component at the time: each variable has a value that packs as its type, and each machine stands so
pub record IsStateAt (t : Table) (c : ComponentPlan) (now : ℕ) (s : CompState) : Type 0 where
  pub variables : AllConform t (variable_types c) (map plain s.variables)
  pub machines : AreTimely now c.machines s.machines

-- a primitive that arrives at an end of the component, with the values that its member carries there
pub record Arrives (t : Table) (comp : ℕ) (c : ComponentPlan) (p : Primitive) : Type 0 where
  pub end : EndPlan
  pub here : p.end.comp.0 ≡ comp
  pub end_is : slice_get c.ends p.end.face ≡ Some end
  pub way : p.way ≡ arriving end.required
  pub arguments : AllConform t (carried p.op p.way (slice_get end.instance.members p.member)) (map plain p.arguments)

-- an event that may come to the component
abbrev pub MayOccur : Table → ℕ → ComponentPlan → Event → Type 0
MayOccur t comp c (event.Prim p) = Arrives t comp c p
MayOccur t comp c (event.Timer i) = i < length c.machines
