-- How the components of a plan start and react, and for which moments they wait.
use Rattle.std.specs.Prelude.{◌<◌, ◌^◌, ℕ, List, [], map, Option, slice_get}
use Rattle.eds_types.specs.PackedSizes.{packs}
use Rattle.eds_types.specs.Rows.{Table}
use Rattle.eds_plan.specs.Plans.{component_at, variable_types}
use Rattle.eds_plan.specs.States.{StateNow}
use Rattle.eds_plan.specs.declared.component.ComponentPlan.{ComponentPlan}
use Rattle.eds_act.specs.Does.{AllConform, budget}
use Rattle.eds_machine.specs.Conditions.{AreTimely}
use Rattle.eds_machine.specs.Moments.{due_from}
use Rattle.eds_machine.specs.Reactions.{Reacting, begins, fires, first_values, receives, starts}
use Rattle.eds_host.specs.Systems.{Coming, arrival, moment, Reaction}

-- the state of a component before it starts: first values, entry states since time 0, no transaction under way
abbrev pub unstarted : List ComponentPlan → (component : ℕ) → StateNow
unstarted plan comp = record { variables = first_values (component_at plan comp); machines = map begins (component_at plan comp).machines; outstanding = [] }

-- a component as an event finds it, of which this is the state
abbrev pub at_event : (component : ℕ) → StateNow → Reacting
at_event comp s = record { world = record { component = comp; variables = s.variables; waiting = s.outstanding; sent = [] }; machines = s.machines; left = budget }

-- its state after the event, and what it sent
abbrev pub outcome : Reacting → Reaction
outcome r = record { state = record { variables = r.world.variables; machines = r.machines; outstanding = r.world.waiting }; sends = r.world.sent }

-- a component takes what comes to it
abbrev pub takes : Table → ComponentPlan → Coming → (now : ℕ) → Reacting → Reacting
takes t c (arrival s) now r = receives (packs t) t c now s.end.face s.member s.op s.arguments r
takes t c (moment machine) now r = fires (packs t) t c now machine (slice_get c.machines machine) r

-- how a component starts
unfoldable pub started : Table → List ComponentPlan → (component : ℕ) → Reaction
started t plan comp = outcome (starts (packs t) t (component_at plan comp) comp [])

-- what a component makes of what comes to it
unfoldable pub reacted : Table → List ComponentPlan → (component : ℕ) → Coming → (now : ℕ) → StateNow → Reaction
reacted t plan comp e now s = outcome (takes t (component_at plan comp) e now (at_event comp s))

-- the least moment for which a component waits, with the first machine that does
unfoldable pub waits_of : List ComponentPlan → (component : ℕ) → StateNow → Option (ℕ × ℕ)
waits_of plan comp s = due_from 0 (component_at plan comp).machines s.machines

-- a state of a component at a time: its variables have values that pack, and its machines stand so; it is below 2^63
unfoldable pub IsStateOf : Table → List ComponentPlan → (component now : ℕ) → StateNow → Type 0
IsStateOf t plan comp now s = AllConform t (variable_types (component_at plan comp)) s.variables × AreTimely now (component_at plan comp).machines s.machines × (now < 2 ^ 63)
