-- The components of a plan are punctual.
use Rattle.std.proofs.Common.{◌≤◌, ◌+◌, ℕ, List, slice_get}
use Rattle.eds_types.specs.PackedSizes.{packs}
use Rattle.eds_types.specs.Rows.{Table}
use Rattle.eds_plan.specs.Plans.{component_at}
use Rattle.eds_plan.specs.States.{StateNow}
use Rattle.eds_plan.specs.declared.component.ComponentPlan.{ComponentPlan}
use Rattle.eds_machine.specs.Laws as machines
use Rattle.eds_machine.specs.Reactions.{Reacting}
use Rattle.eds_machine.proofs.Punctual.{fires_late, receives_late}
use Rattle.eds_host.specs.Hosts.{ComponentsArePunctual}
use Rattle.eds_host.specs.Laws.{NotBefore}
use Rattle.eds_host.specs.Machines.{at_event, outcome, reacted, takes, waits_of}
use Rattle.eds_host.specs.Systems.{Coming, arrival, moment}
use Rattle.eds_host.proofs.Adapted.{none_waits, waits_after}

takes_late : (t : Table) (c : ComponentPlan) (e : Coming) (now b : ℕ) (r : Reacting) → b ≤ now + 1 → machines.NoneBefore b c.machines r.machines → machines.NoneBefore b c.machines (takes t c e now r).machines
takes_late t c (arrival s) now b r le h = receives_late (packs t) t c now b s.end.face s.member s.op s.arguments r le h
takes_late t c (moment i) now b r le h = fires_late (packs t) t c now b i (slice_get c.machines i) r le h

reacted_late : (t : Table) (plan : List ComponentPlan) (comp now b : ℕ) (e : Coming) (s : StateNow) → b ≤ now + 1 → NotBefore b (waits_of plan comp s) → NotBefore b (waits_of plan comp (reacted t plan comp e now s).state)
unfolding reacted
reacted_late t plan comp now b e s le h =
    waits_after b plan comp (outcome (takes t (component_at plan comp) e now (at_event comp s))).state
    (takes_late t (component_at plan comp) e now b (at_event comp s) le (none_waits b plan comp s h))

pub components_are_punctual : ComponentsArePunctual
components_are_punctual t plan tied comp now b e s le h = reacted_late t plan comp now b e s le h
