-- Going on from a time and states: from where a run ended, or from what a text told of such an end.
use Rattle.std.specs.Prelude.{◌≡◌, ◌<◌, ◌+◌, ◌^◌, ℕ, List, [], ◌∷◌, ◌++◌, Option, Some, None, Ok}
use Rattle.eds_types.specs.Rows.{Table}
use Rattle.eds_plan.specs.Lines.{Told, starts}
use Rattle.eds_plan.specs.Outs.{Report}
use Rattle.eds_plan.specs.Plans.{component_at}
use Rattle.eds_plan.specs.States.{StateNow}
use Rattle.eds_plan.specs.declared.component.ComponentPlan.{ComponentPlan}
use Rattle.eds_plan.specs.declared.machine.Machine.{Machine}
use Rattle.eds_plan.specs.declared.run.MachineState.{MachineState}
use Rattle.eds_machine.specs.Moments.{next_moment}
use Rattle.eds_plan.specs.declared.run.End.{End}
use Rattle.eds_host.specs.declared.wiring.Asked.{Asked}
use Rattle.eds_host.specs.declared.wiring.Tie.{Tie}
use Rattle.eds_host.specs.Hosts.{MayAllGoOn, reading}
use Rattle.eds_host.specs.Laws.{NotBefore}
use Rattle.eds_host.specs.Machines.{waits_of}
use Rattle.eds_host.specs.Plans.{AreStates, NoneBefore, system}
use Rattle.eds_host.specs.Runs.{Reading, RunGoes, time_after, unbegun}
use Rattle.eds_host.specs.Systems.{System, World}
use Rattle.eds_host.specs.Wires.{other_end, ties_of}
use Rattle.eds_host.specs.Worlds.{IsRunnable}

-- a world of a time and states, in which nothing is to be delivered
abbrev pub resumed : (now : ℕ) → List StateNow → World
resumed now states = record { now = now; states = states; queue = [] }

-- lines one after another from a time and states on, with no start
abbrev pub RunGoesFrom : System → Reading → (now : ℕ) → List StateNow → List Told → List (List Report) → Option World → Type 0
RunGoesFrom sys reading now states ls outs end = RunGoes sys reading ls (resumed now states) outs end

-- a time and states from which lines may go on: one state for each component, of that time, and no moment that is to come by then
pub record MayResume (t : Table) (plan : List ComponentPlan) (now : ℕ) (states : List StateNow) : Type 0 where
  pub early : now < 2 ^ 63
  pub fit : AreStates t plan now states
  pub later : NoneBefore plan (now + 1) states

-- where a run has ended without a storm, nothing is to be delivered, and lines may go on from its time and states
abbrev pub EndsMayResume : Type 0
EndsMayResume = (t : Table) (plan : List ComponentPlan) (ties : List Tie) (ls : List Told) (outs : List (List Report)) (v : World) →
    IsRunnable t plan (other_end ties) → MayAllGoOn t plan ties 0 ls →
    let sys = system t plan (other_end ties) in
    RunGoes sys (reading t plan) (starts ∷ ls) (unbegun sys) outs (Some v) → (v ≡ resumed v.now v.states) × MayResume t plan v.now v.states

-- the same of a run that went on
abbrev pub ResumedEndsMayResume : Type 0
ResumedEndsMayResume = (t : Table) (plan : List ComponentPlan) (ties : List Tie) (now : ℕ) (states : List StateNow) (ls : List Told) (outs : List (List Report)) (v : World) →
    IsRunnable t plan (other_end ties) → MayResume t plan now states → MayAllGoOn t plan ties now ls →
    RunGoesFrom (system t plan (other_end ties)) (reading t plan) now states ls outs (Some v) → (v ≡ resumed v.now v.states) × MayResume t plan v.now v.states

-- A run of lines joined is the run of the first ones, and then that of the second ones from the time and states at its end on:
-- what left the run in the one is what left it in the two, and where the one ends the other does, or neither does.
abbrev pub JoinedRunsResume : Type 0
JoinedRunsResume = (t : Table) (plan : List ComponentPlan) (ties : List Tie) (one two : List Told) (outs : List (List Report)) (v : World) →
    IsRunnable t plan (other_end ties) → MayAllGoOn t plan ties 0 one →
    let sys = system t plan (other_end ties) in let read = reading t plan in
    RunGoes sys read (starts ∷ one) (unbegun sys) outs (Some v) →
    ((more : List (List Report)) (end : Option World) → RunGoesFrom sys read v.now v.states two more end → RunGoes sys read ((starts ∷ one) ++ two) (unbegun sys) (outs ++ more) end)
    × ((all : List (List Report)) (end : Option World) → RunGoes sys read ((starts ∷ one) ++ two) (unbegun sys) all end → (more : List (List Report)) × RunGoesFrom sys read v.now v.states two more end × (all ≡ outs ++ more))

-- a moment later than this one
abbrev pub IsLater : (now : ℕ) → Option ℕ → Type 0
IsLater now None = Unit {0}
IsLater now (Some at) = now < at

-- each of these machines waits for later moments than this one
abbrev pub AllLater : (now : ℕ) → List Machine → List MachineState → Type 0
AllLater now (m ∷ ms) (s ∷ ss) = IsLater now (next_moment s m.transitions) × AllLater now ms ss
AllLater now _ _ = Unit {0}

-- a component whose machines wait for later moments waits for a later one
abbrev pub LaterMachinesWait : Type 0
LaterMachinesWait = (plan : List ComponentPlan) (comp now : ℕ) (s : StateNow) → AllLater now (component_at plan comp).machines s.machines → NotBefore (now + 1) (waits_of plan comp s)

-- wires that name the same ends, in lines that may differ
abbrev pub NameSameEnds : List Asked → List Asked → Type 0
NameSameEnds [] [] = Unit {0}
NameSameEnds (a ∷ as') (b ∷ bs) = (a.lower ≡ b.lower) × (a.upper ≡ b.upper) × NameSameEnds as' bs
NameSameEnds _ _ = ⊥

-- wires tie the same in whatever lines they stand
abbrev pub WiresTieAlike : Type 0
WiresTieAlike = (plan : List ComponentPlan) (one two : List Asked) (ts : List Tie) → NameSameEnds one two → ties_of plan one ≡ Ok ts → ties_of plan two ≡ Ok ts

-- the time to which lines lead, one after another
abbrev pub time_of_lines : (now : ℕ) → List Told → ℕ
time_of_lines now [] = now
time_of_lines now (l ∷ ls) = time_of_lines (time_after l now) ls

-- the time at the end of a run that comes to no storm
abbrev pub RunsTakeTheirTime : Type 0
RunsTakeTheirTime = (t : Table) (plan : List ComponentPlan) (tied : End → Option End) (ls : List Told) (w v : World) (outs : List (List Report)) →
    RunGoes (system t plan tied) (reading t plan) ls w outs (Some v) → v.now ≡ time_of_lines w.now ls
