-- Laws of activities.
use Rattle.std.specs.Prelude.{◌≡◌, ◌≤◌, ◌↔◌, ℕ, true, ◌-◌, List, ◌++◌, Bool}
use Rattle.eds_plan.specs.Alike.{IsAlike}
use Rattle.eds_plan.specs.declared.activity.Action.{Action}
use Rattle.eds_types.specs.Rows.{Table}
use Rattle.eds_types.specs.Plain.{Plain}
use Rattle.eds_types.specs.Reading.{same}
use Rattle.eds_plan.specs.declared.component.ComponentPlan.{ComponentPlan}
use Rattle.eds_plan.specs.declared.run.Outstanding.{Outstanding}
use Rattle.eds_plan.specs.Sends.{Sent}
use Rattle.eds_plan.specs.Statements.{Stmt}
use Rattle.eds_act.specs.declared.ending.ActEnd.{ActEnd}
use Rattle.eds_act.specs.declared.ending.ActEnd.TheVariants.{Done, Halted}
use Rattle.eds_act.specs.Acting.{acting}
use Rattle.eds_act.specs.Does.{Does, budget, Ended, Item, World, exec, items_of}

-- a body does one thing
abbrev pub OneOutcome : Type 0
OneOutcome = (t : Table) (number : ℕ) (c : ComponentPlan) (body : List Stmt) (args vars : List Plain) (waiting : List Outstanding) (n : ℕ)
    (one two : List Plain) (here there : List Outstanding) (out sent : List Sent) (m k : ℕ) (end stop : ActEnd)
    → Does t number c body args vars waiting n one here out m end → Does t number c body args vars waiting n two there sent k stop
    → (one ≡ two) × (here ≡ there) × (out ≡ sent) × (budget - m ≡ budget - k) × (end ≡ stop)

-- where it was done to the end, further items go on from there; a halt ends these too
abbrev pub going_on : ActEnd → Ended → Ended → Ended
going_on Done done next = next
going_on (Halted h) done next = done

-- a body in two parts is the first and then, unless that halted, the second
abbrev pub BodyInParts : Type 0
BodyInParts = (packs : ℕ → Plain → Bool) (t : Table) (c : ComponentPlan) (left : ℕ) (args : List Plain) (one two : List Stmt) (w : World) →
    let r : Ended = exec packs t c left (items_of args one) w in
    exec packs t c left (items_of args (one ++ two)) w ≡ going_on r.end r (exec packs t c r.left (items_of args two) r.world)

-- no more statements and turns may start than before: the count of those that started never falls, nor passes its bound
abbrev pub CountNeverFalls : Type 0
CountNeverFalls = (packs : ℕ → Plain → Bool) (t : Table) (c : ComponentPlan) (left : ℕ) (items : List Item) (w : World) → (exec packs t c left items w).left ≤ left

-- what was sent stays, however it ends
abbrev pub SendsAreKept : Type 0
SendsAreKept = (packs : ℕ → Plain → Bool) (t : Table) (c : ComponentPlan) (left : ℕ) (items : List Item) (w : World) → (out : List Sent) × ((exec packs t c left items w).world.sent ≡ w.sent ++ out)

-- two values are the same exactly where they are equal, the containers that they name included
abbrev pub SameIsEqual : Type 0
SameIsEqual = (v w : Plain) → (same v w ≡ true) ↔ (v ≡ w)

-- ---- components that are seen alike

-- what is started does the same over them
abbrev pub AlikeRuns : Type 0
AlikeRuns = (packs : ℕ → Plain → Bool) (t : Table) (c d : ComponentPlan) → IsAlike c d → (left : ℕ) (items : List Item) (w : World) → exec packs t c left items w ≡ exec packs t d left items w

-- so does a body
abbrev pub AlikeBodies : Type 0
AlikeBodies = (t : Table) (number : ℕ) (c d : ComponentPlan) → IsAlike c d → (body : List Stmt) (args vars : List Plain) (waiting : List Outstanding) (n : ℕ) (vars' : List Plain) (waiting' : List Outstanding) (out : List Sent) (m : ℕ) (end : ActEnd) →
    Does t number c body args vars waiting n vars' waiting' out m end → Does t number d body args vars waiting n vars' waiting' out m end

-- and an action of one of their machines
abbrev pub AlikeActions : Type 0
AlikeActions = (packs : ℕ → Plain → Bool) (t : Table) (c d : ComponentPlan) → IsAlike c d → (machine : ℕ) (action : Action) (args : List Plain) (left : ℕ) (w : World) → acting packs t c machine action args left w ≡ acting packs t d machine action args left w
