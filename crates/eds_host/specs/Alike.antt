-- Runs of plans that are seen alike: what a run does depends on nothing of a plan but what is seen of it.
use Rattle.std.specs.Prelude.{◌≡◌, ℕ, List, map, Option, Result}
use Rattle.eds_base.specs.declared.fault.Fault.{Fault}
use Rattle.eds_plan.specs.Alike.{AreAlike}
use Rattle.eds_plan.specs.Lines.{Told}
use Rattle.eds_plan.specs.Outs.{Report}
use Rattle.eds_plan.specs.declared.component.ComponentPlan.{ComponentPlan}
use Rattle.eds_plan.specs.declared.run.End.{End}
use Rattle.eds_plan.specs.declared.run.Wire.{Wire}
use Rattle.eds_types.specs.Plain.{Plain}
use Rattle.eds_types.specs.Rows.{Table}
use Rattle.eds_host.specs.Hosts.{asked_by, reading}
use Rattle.eds_host.specs.Plans.{system}
use Rattle.eds_host.specs.Runs.{RunGoes}
use Rattle.eds_host.specs.Systems.{World}
use Rattle.eds_host.specs.Wires.{ties_of}

-- their components are one system
abbrev pub AlikeSystems : Type 0
AlikeSystems = (t : Table) (p q : List ComponentPlan) → AreAlike p q → (tied : End → Option End) → system t p tied ≡ system t q tied

-- wires tie the same in them, or the first that ties nothing is the same, for the same reason
abbrev pub AlikeWires : Type 0
AlikeWires = (p q : List ComponentPlan) → AreAlike p q → (wires : List Wire) → ties_of p (map (asked_by p) wires) ≡ ties_of q (map (asked_by q) wires)

-- frames that arrive come the same way and to the same
abbrev pub AlikeReadings : Type 0
AlikeReadings = (t : Table) (p q : List ComponentPlan) → AreAlike p q → (comp face member : ℕ) (octets : List ℕ) (r : Result Plain Fault) →
    ((reading t p).way comp face ≡ (reading t q).way comp face) × ((reading t p).reads comp face member octets r → (reading t q).reads comp face member octets r)

-- lines one after another make the same of a world
abbrev pub AlikeRuns : Type 0
AlikeRuns = (t : Table) (p q : List ComponentPlan) → AreAlike p q → (tied : End → Option End) (ls : List Told) (w : World) (outs : List (List Report)) (end : Option World) →
    RunGoes (system t p tied) (reading t p) ls w outs end → RunGoes (system t q tied) (reading t q) ls w outs end
