-- What the host's functions are handed, and what holds of it.
use Rattle.std.specs.Prelude.{◌≤◌, ◌+◌, ℕ, List, length, Option, Some, None, slice_get, unwrap_or}
use Rattle.eds_plan.specs.Outs.{Signal, Report}
use Rattle.eds_plan.specs.declared.component.ComponentPlan.{ComponentPlan}
use Rattle.eds_host.specs.declared.setting.Setting.{Setting}
use Rattle.eds_plan.specs.Fitting.{PlanFits}
use Rattle.eds_plan.specs.States.{StateNow}
use Rattle.eds_act.specs.Does.{Conforms}
use Rattle.eds_host.specs.Wires.{other_end}
use Rattle.eds_host.specs.Machines.{waits_of}
use Rattle.eds_host.specs.declared.handled.Handled.{Handled}
use Rattle.eds_host.specs.declared.handled.Handled.TheVariants.{Done, Storm}
use Rattle.eds_host.specs.declared.step.Step.{Step}
use Rattle.eds_host.specs.declared.step.Step.TheVariants as step
use Rattle.eds_host.specs.Plans.{system, WiresFit, NoneBefore, MayAllGoOut}
use Rattle.eds_host.specs.Systems.{System, World, Coming, Reaction, no_state}

-- the components that run
abbrev pub running : Setting → System
running s = system s.table.now s.plan.now (other_end s.links.now)

-- the plan fits, and wires tie what fits
pub record IsSetting (s : Setting) : Type 0 where
  pub few : length s.plan.now ≤ 64
  pub plan : PlanFits s.table.now (Conforms s.table.now) s.plan.now
  pub wires : WiresFit s.plan.now (other_end s.links.now)

-- a world of a time, states and what is to be delivered
abbrev pub world : ℕ → List StateNow → List Signal → World
world now states queue = record { now = now; states = states; queue = queue }

-- the state of a component
abbrev pub state_in : List StateNow → ℕ → StateNow
state_in states comp = unwrap_or (slice_get states comp) no_state

-- what a component makes of an event
abbrev pub reaction_in : Setting → (component : ℕ) → Coming → (now : ℕ) → List StateNow → Reaction
reaction_in s comp e now states = (running s).reacts comp e now (state_in states comp)

-- where all that had left the run fits the plan, all that has left it since does
abbrev pub StillFit : Setting → (before after : List Report) → Type 0
StillFit s before after = MayAllGoOut s.table.now s.plan.now before → MayAllGoOut s.table.now s.plan.now after

-- ---- within a line

-- components wait for no moment before this one: at rest for later ones than now, and while time passes not for earlier ones
abbrev pub bound : Option ℕ → ℕ → ℕ
bound None now = now + 1
bound (Some until) now = now

-- the same of a step after which nothing is next
abbrev pub RestsBy : Step → Option ℕ → ℕ → List ComponentPlan → List StateNow → Type 0
RestsBy step.Rests (Some until) now plan states = NoneBefore plan (until + 1) states
RestsBy s until now plan states = Unit {0}

-- after a line that was done, components wait for later moments than the time up to which it went
abbrev pub AtRest : Handled → (now : ℕ) → List ComponentPlan → List StateNow → Type 0
AtRest Done now plan states = NoneBefore plan (now + 1) states
AtRest Storm now plan states = Unit {0}

-- the time up to which a line goes
abbrev pub reaches : Option ℕ → ℕ → ℕ
reaches None now = now
reaches (Some until) now = until

-- the moment for which a component waits
abbrev pub waits_here : List ComponentPlan → (component : ℕ) → List StateNow → Option (ℕ × ℕ)
waits_here plan comp states = waits_of plan comp (state_in states comp)
