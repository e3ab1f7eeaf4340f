-- Laws of machines.
use Rattle.std.specs.Prelude.{◌≡◌, ◌≤◌, ◌<◌, ◌+◌, ℕ, List, [], ◌++◌, length, Bool, Some, None, slice_get}
use Rattle.eds_types.specs.Plain.{Plain}
use Rattle.eds_types.specs.Rows.{Table}
use Rattle.eds_plan.specs.declared.component.ComponentPlan.{ComponentPlan}
use Rattle.eds_plan.specs.declared.machine.Machine.{Machine}
use Rattle.eds_plan.specs.declared.machine.Transition.{Transition}
use Rattle.eds_plan.specs.declared.machine.Trigger.{Trigger}
use Rattle.eds_plan.specs.declared.machine.Trigger.TheVariants as trigger
use Rattle.eds_plan.specs.declared.run.MachineState.{MachineState}
use Rattle.eds_plan.specs.Alike.{IsAlike}
use Rattle.eds_plan.specs.Fitting.{ComponentFits}
use Rattle.eds_plan.specs.Plans.{variable_types}
use Rattle.eds_plan.specs.Sends.{Sent}
use Rattle.eds_act.specs.Does.{Tells, Conforms, AllConform}
use Rattle.eds_act.specs.Leaves.{MayAllLeave}
use Rattle.eds_machine.specs.declared.event.Event.{Event}
use Rattle.eds_machine.specs.declared.event.Event.TheVariants as event
use Rattle.eds_machine.specs.Moments.{HasMoment, due_from, next_moment}
use Rattle.eds_machine.specs.Reactions.{Reacting, standing, taken, machine_reacts, reacts, starts}

-- where a machine takes no transition, nothing changes, but for a timer's moment
abbrev pub UntakenChangesNothing : Type 0
UntakenChangesNothing = (packs : ℕ → Plain → Bool) (t : Table) (c : ComponentPlan) (now : ℕ) (e : Trigger) (args : List Plain) (i : ℕ) (machine : Machine) (r : Reacting) →
    taken t c machine (standing r.machines i).at e args r.world.variables r.world.waiting ≡ None → ((n : ℕ) → e ≡ trigger.Timer n → ⊥) → machine_reacts packs t c now e args i machine r ≡ r

-- the next moment of a machine comes after what has passed
abbrev pub MomentsAreLater : Type 0
MomentsAreLater = (m : MachineState) (xs : List Transition) (n : ℕ) → next_moment m xs ≡ Some n → m.passed < n

-- when a moment of a machine came, it has passed there: with the law before, it doesn't come again until the machine enters
-- a state anew
abbrev pub MomentsPass : Type 0
MomentsPass = (packs : ℕ → Plain → Bool) (t : Table) (c : ComponentPlan) (now i : ℕ) (machine : Machine) (r : Reacting) →
    slice_get c.machines i ≡ Some machine → i < length r.machines → (standing (reacts packs t c now (event.Timer i) r).machines i).passed ≡ now

-- the same component, where so much was sent before
abbrev pub behind : List Sent → Reacting → Reacting
behind out r = record r { world = record r.world { sent = out ++ r.world.sent } }

-- what a component makes of an event doesn't rest on what was sent before, and stands behind it
abbrev pub SendsStandBehind : Type 0
SendsStandBehind = (packs : ℕ → Plain → Bool) (t : Table) (c : ComponentPlan) (now : ℕ) (e : Event) (out : List Sent) (r : Reacting) → reacts packs t c now e (behind out r) ≡ behind out (reacts packs t c now e r)

-- the same of its start
abbrev pub StartSendsStandBehind : Type 0
StartSendsStandBehind = (packs : ℕ → Plain → Bool) (t : Table) (c : ComponentPlan) (comp : ℕ) (out : List Sent) → starts packs t c comp out ≡ behind out (starts packs t c comp [])

-- what a component that fits sends for an event may leave it
abbrev pub ReactionsSendWell : Type 0
ReactionsSendWell = (packs : ℕ → Plain → Bool) (t : Table) (c : ComponentPlan) (comp now : ℕ) (e : Event) (r : Reacting) →
    Tells t packs → ComponentFits t (Conforms t) c → AllConform t (variable_types c) r.world.variables → MayAllLeave t c comp r.world → MayAllLeave t c comp (reacts packs t c now e r).world

-- the same of its start
abbrev pub StartsSendWell : Type 0
StartsSendWell = (packs : ℕ → Plain → Bool) (t : Table) (c : ComponentPlan) (comp : ℕ) → Tells t packs → ComponentFits t (Conforms t) c → MayAllLeave t c comp (starts packs t c comp []).world

-- no moment of these machines is to come before a time
abbrev pub NoneBefore : ℕ → List Machine → List MachineState → Type 0
NoneBefore b ms rs = (i at : ℕ) → HasMoment ms rs i at → b ≤ at

-- after an event the moments to come are later ones, or those that were to come before it
abbrev pub ReactionsArePunctual : Type 0
ReactionsArePunctual = (packs : ℕ → Plain → Bool) (t : Table) (c : ComponentPlan) (now b : ℕ) (e : Event) (r : Reacting) → b ≤ now + 1 → NoneBefore b c.machines r.machines → NoneBefore b c.machines (reacts packs t c now e r).machines

-- after its start no moment at 0 is to come
abbrev pub StartsArePunctual : Type 0
StartsArePunctual = (packs : ℕ → Plain → Bool) (t : Table) (c : ComponentPlan) (comp : ℕ) → NoneBefore 1 c.machines (starts packs t c comp []).machines

-- ---- components that are seen alike

-- an event comes to the same in them
abbrev pub AlikeReactions : Type 0
AlikeReactions = (packs : ℕ → Plain → Bool) (t : Table) (c d : ComponentPlan) → IsAlike c d → (now : ℕ) (e : Event) (r : Reacting) → reacts packs t c now e r ≡ reacts packs t d now e r

-- they start alike
abbrev pub AlikeStarts : Type 0
AlikeStarts = (packs : ℕ → Plain → Bool) (t : Table) (c d : ComponentPlan) → IsAlike c d → (comp : ℕ) (out : List Sent) → starts packs t c comp out ≡ starts packs t d comp out

-- and wait for the same moments, where their machines stand so
abbrev pub AlikeMoments : Type 0
AlikeMoments = (c d : ComponentPlan) → IsAlike c d → (ms : List MachineState) → due_from 0 c.machines ms ≡ due_from 0 d.machines ms
