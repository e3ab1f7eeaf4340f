-- Which machine of a plan's components fires next, and what a firing reaches.
use Rattle.std.specs.Prelude.{◌≡◌, ◌≢◌, ◌≤◌, ◌-◌, ℕ, List, [], Option, Some, None, slice_get, slice_set}
use Rattle.eds_types.specs.Rows.{Table}
use Rattle.eds_plan.specs.Plans.{component_at}
use Rattle.eds_plan.specs.States.{StateNow}
use Rattle.eds_plan.specs.declared.component.ComponentPlan.{ComponentPlan}
use Rattle.eds_plan.specs.declared.machine.Machine.{Machine}
use Rattle.eds_plan.specs.declared.machine.Trigger.TheVariants as trigger
use Rattle.eds_plan.specs.declared.run.End.{End}
use Rattle.eds_machine.specs.Moments.{HasMoment}
use Rattle.eds_machine.specs.Reactions.{standing, taken}
use Rattle.eds_host.specs.declared.due.Due.{Due}
use Rattle.eds_host.specs.Machines.{reacted}
use Rattle.eds_host.specs.Plans.{system}
use Rattle.eds_host.specs.Systems.{System, World, Happening, Coming, arrives, moment, next}

-- ---- the first of equal moments

-- a machine of a component has the moment to come
abbrev pub HasToCome : List ComponentPlan → List StateNow → (component machine : ℕ) → (at : ℕ) → Type 0
HasToCome plan states comp machine at = (s : StateNow) × (slice_get states comp ≡ Some s) × HasMoment (component_at plan comp).machines s.machines machine at

-- the least moment to come; of the components that have it the first, and of its machines that have it the first
pub record IsNextToFire (plan : List ComponentPlan) (states : List StateNow) (d : Due) : Type 0 where
  pub comes : HasToCome plan states d.comp d.machine d.moment
  pub least : (comp machine at : ℕ) → HasToCome plan states comp machine at → d.moment ≤ at
  pub first_component : (comp machine : ℕ) → HasToCome plan states comp machine d.moment → d.comp ≤ comp
  pub first_machine : (machine : ℕ) → HasToCome plan states d.comp machine d.moment → d.machine ≤ machine

-- where nothing is to be delivered, it is that machine which fires next, at its moment
abbrev pub FirstFires : Type 0
FirstFires = (t : Table) (plan : List ComponentPlan) (tied : End → Option End) (until : Option ℕ) (w : World) (h : Happening) → w.queue ≡ [] → next (system t plan tied) until w ≡ Some h →
    (d : Due) × IsNextToFire plan w.states d × (h ≡ arrives (system t plan tied) d.comp (moment d.machine) (record w { now = d.moment }))

-- ---- what a firing reaches

-- a timer reaches its machine alone: each other one of the component is in the state, entered and passed when it was
abbrev pub TimersReachOne : Type 0
TimersReachOne = (t : Table) (plan : List ComponentPlan) (comp machine now : ℕ) (s : StateNow) (other : ℕ) → other ≢ machine →
    slice_get (reacted t plan comp (moment machine) now s).state.machines other ≡ slice_get s.machines other

-- the state in which a moment has passed for a machine, and nothing else is changed
abbrev pub passed_by : (machine now : ℕ) → StateNow → StateNow
passed_by i now s = record { variables = s.variables; machines = slice_set s.machines i (record { at = (standing s.machines i).at; entered = (standing s.machines i).entered; passed = now }); outstanding = s.outstanding }

-- where its machine takes no transition, nothing is sent, and all that a timer changes is what has passed for that machine
abbrev pub UntakenTimersPass : Type 0
UntakenTimersPass = (t : Table) (plan : List ComponentPlan) (comp i now : ℕ) (s : StateNow) (machine : Machine) → slice_get (component_at plan comp).machines i ≡ Some machine →
    taken t (component_at plan comp) machine (standing s.machines i).at (trigger.Timer (now - (standing s.machines i).entered)) [] s.variables s.outstanding ≡ None →
    reacted t plan comp (moment i) now s ≡ record { state = passed_by i now s; sends = [] }

-- what comes to a component leaves the others as they are
abbrev pub OthersStay : Type 0
OthersStay = (sys : System) (comp : ℕ) (e : Coming) (w : World) (other : ℕ) → other ≢ comp → slice_get (arrives sys comp e w).world.states other ≡ slice_get w.states other
