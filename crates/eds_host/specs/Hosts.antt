-- Hosts: what one is, what may be handed to it, and what it makes of a line.
use Rattle.std.specs.Prelude.{◌≡◌, ◌≢◌, ◌≤◌, ◌<◌, ◌+◌, ◌^◌, ℕ, List, [], ◌∷◌, ◌++◌, length, Option, Some, None, Result, Ok, map, slice_get}
use Rattle.std.specs.List.{AllByRecursion}
use Rattle.eds_base.specs.declared.fault.Fault.{Fault}
use Rattle.eds_bits.specs.Bits.{Bits, bits_of}
use Rattle.eds_types.specs.Overlap.{IsClear}
use Rattle.eds_types.specs.Plain.{Plain}
use Rattle.eds_types.specs.Rows.{Table}
use Rattle.eds_types.specs.Rules.{KeepsRules}
use Rattle.eds_overlap.specs.Laws.{IsReadable}
use Rattle.eds_plan.specs.Arguments.{OnAllArguments}
use Rattle.eds_plan.specs.Carried.{arriving, carried}
use Rattle.eds_plan.specs.Ends.{end_at, end_named}
use Rattle.eds_plan.specs.Fitting.{PlanFits}
use Rattle.eds_plan.specs.Lines.{Told, starts, passes, framed}
use Rattle.eds_plan.specs.Lines as lines
use Rattle.eds_plan.specs.Outs.{Report}
use Rattle.eds_plan.specs.Plans.{component_at}
use Rattle.eds_plan.specs.States.{StateNow}
use Rattle.eds_plan.specs.declared.activity.Op.TheVariants as op
use Rattle.eds_plan.specs.declared.component.ComponentPlan.{ComponentPlan}
use Rattle.eds_plan.specs.declared.component.EndPlan.{EndPlan}
use Rattle.eds_plan.specs.declared.instance.Argument.{Argument}
use Rattle.eds_plan.specs.declared.instance.Member.TheVariants as members
use Rattle.eds_plan.specs.declared.run.End.{End}
use Rattle.eds_plan.specs.declared.run.Way.{Way}
use Rattle.eds_plan.specs.declared.run.Way.TheVariants.{Down}
use Rattle.eds_plan.specs.declared.run.Wire.{Wire}
use Rattle.eds_act.specs.Does.{Conforms}
use Rattle.eds_host.specs.declared.handled.Handled.{Handled}
use Rattle.eds_host.specs.declared.handled.Handled.TheVariants as handled
use Rattle.eds_host.specs.declared.host.Phase.{Phase}
use Rattle.eds_host.specs.declared.host.Phase.TheVariants.{Fresh, Rests, Storm, Spent}
use Rattle.eds_host.specs.declared.wiring.Asked.{Asked}
use Rattle.eds_host.specs.declared.wiring.Tie.{Tie}
use Rattle.eds_host.specs.Frames.{FrameIs}
use Rattle.eds_host.specs.Laws.{IsPunctual, ReadsOne}
use Rattle.eds_host.specs.Machines.{reacted}
use Rattle.eds_host.specs.Plans.{Arrives, system}
use Rattle.eds_machine.specs.Moments.{HasMoment}
use Rattle.eds_host.specs.Runs.{Course, LineGoes, Reading, RunGoes, time_after}
use Rattle.eds_host.specs.Steps.{IsLine}
use Rattle.eds_host.specs.Systems.{System, World, moment, sent_at}
use Rattle.eds_host.specs.Wires.{other_end, ties_of}

-- ---- what a host is

-- the types, the components, what the wires tie, the world, and how it stands
pub record HostNow : Type 0 where
  pub table : Table
  pub plan : List ComponentPlan
  pub wires : List Tie
  pub world : World
  pub phase : Phase

-- the components that it runs
abbrev pub components : HostNow → System
components h = system h.table h.plan (other_end h.wires)

-- ---- frames

-- the way in which something arrives at an end, if it is there
abbrev pub way_to : Option EndPlan → Way
way_to None = Down
way_to (Some e) = arriving e.required

-- the types of the values that a command carries where it arrives at an end
abbrev pub brought_to : Option EndPlan → (member : ℕ) → List ℕ
brought_to None member = []
brought_to (Some e) member = carried op.Command (arriving e.required) (slice_get e.instance.members member)

-- a frame for a member of an end is read as the type of the one argument that the command carries there
abbrev pub IsRead : Table → Option EndPlan → (member : ℕ) → List ℕ → Result Plain Fault → Type 0
IsRead t end member octets r = (id : ℕ) × (brought_to end member ≡ id ∷ []) × FrameIs t id (bits_of octets) r

-- how frames that arrive at the ends of a plan are read
abbrev pub reading : Table → List ComponentPlan → Reading
reading t plan = record {
  way = λ comp face. way_to (end_at plan (record { comp = record { 0 = comp }; face = face }));
  reads = λ comp face member octets r. IsRead t (end_at plan (record { comp = record { 0 = comp }; face = face })) member octets r;
}

-- no two containers overlap under the type of any argument of a command
abbrev pub ArgumentsAreClear : Table → List ComponentPlan → Type 0
ArgumentsAreClear t plan = OnAllArguments (IsClear t) plan

-- ---- what may be handed to a host

-- an end that no wire ties
abbrev pub IsOutside : List Tie → (comp face : ℕ) → Type 0
IsOutside ties comp face = other_end ties (record { comp = record { 0 = comp }; face = face }) ≡ None

-- an end that is there, and a command that carries exactly one argument where it arrives
pub record BringsOne (plan : List ComponentPlan) (comp face number : ℕ) : Type 0 where
  pub end : EndPlan
  pub end_is : end_at plan (record { comp = record { 0 = comp }; face = face }) ≡ Some end
  pub name : List ℕ
  pub arguments : List Argument
  pub command : slice_get end.instance.members number ≡ Some (members.Command name arguments)
  pub id : ℕ
  pub one : brought_to (Some end) number ≡ id ∷ []

-- a line after the start, at a time: time stays below 2^63, and what arrives does so at an end that isn't wired, as the end
-- asks
abbrev pub MayGoOn : Table → List ComponentPlan → List Tie → (now : ℕ) → Told → Type 0
MayGoOn t plan ties now starts = ⊥
MayGoOn t plan ties now (passes n) = now + n < 2 ^ 63
MayGoOn t plan ties now (lines.arrives comp face member way o vs) = IsOutside ties comp face × Arrives t plan (sent_at comp face member way o vs)
MayGoOn t plan ties now (framed comp face member octets) = IsOutside ties comp face × (length octets ≤ 65536) × BringsOne plan comp face member

-- a line that may be handed to a host that stands so: the start first and once; anything once it had a storm or is spent
abbrev pub MayBeHandled : Phase → HostNow → Told → Type 0
MayBeHandled Fresh h l = l ≡ starts
MayBeHandled Rests h l = MayGoOn h.table h.plan h.wires h.world.now l
MayBeHandled Storm h l = Unit {0}
MayBeHandled Spent h l = Unit {0}

-- lines after the start, one after another: each at the time that those before it lead to
abbrev pub MayAllGoOn : Table → List ComponentPlan → List Tie → (now : ℕ) → List Told → Type 0
MayAllGoOn t plan ties now [] = Unit {0}
MayAllGoOn t plan ties now (l ∷ ls) = MayGoOn t plan ties now l × MayAllGoOn t plan ties (time_after l now) ls

-- lines that may be handed, one after another, to a host that hasn't started: the start is the first of them
abbrev pub MayAllStart : HostNow → List Told → Type 0
MayAllStart h [] = Unit {0}
MayAllStart h (l ∷ ls) = (l ≡ starts) × MayAllGoOn h.table h.plan h.wires 0 ls

-- lines that may be handed, one after another, to a host that stands so
abbrev pub MayAllBeHandled : Phase → HostNow → List Told → Type 0
MayAllBeHandled Fresh h ls = MayAllStart h ls
MayAllBeHandled Rests h ls = MayAllGoOn h.table h.plan h.wires h.world.now ls
MayAllBeHandled Storm h ls = Unit {0}
MayAllBeHandled Spent h ls = Unit {0}

-- where lines may be handed one after another, the first of them may be
abbrev pub FirstMayBeHandled : Type 0
FirstMayBeHandled = (phase : Phase) (h : HostNow) (l : Told) (ls : List Told) → MayAllBeHandled phase h (l ∷ ls) → MayBeHandled phase h l

-- ---- what it makes of a line

-- a line made a host another one, and had this leave the run: as one of its courses has it
pub record Goes (l : Told) (h g : HostNow) (went : Handled) (before after : List Report) : Type 0 where
  pub course : Course
  pub goes : LineGoes (components h) (reading h.table h.plan) l h.world course
  pub is : IsLine went course g.world before after

-- the same of a host that stands so: after a storm each line is a storm in which nothing happens
abbrev pub Handles : Phase → Told → (h g : HostNow) → Handled → (before after : List Report) → Type 0
Handles Fresh l h g went before after = Goes l h g went before after
Handles Rests l h g went before after = Goes l h g went before after
Handles Storm l h g went before after = (went ≡ handled.Storm) × (after ≡ before)
Handles Spent l h g went before after = ⊥

-- how a host stands after a line
abbrev pub standing_after : Handled → Phase
standing_after handled.Done = Rests
standing_after handled.Storm = Storm

-- ---- a new host

-- the ends that a wire's texts name
abbrev pub asked_by : List ComponentPlan → Wire → Asked
asked_by plan w = record { line = w.line; lower = end_named plan w.lower; upper = end_named plan w.upper }

-- ---- laws of the components of a plan

-- a component that reacts waits for later moments, or for those for which it waited before: so time never goes back, and no
-- moment is passed over
abbrev pub ComponentsArePunctual : Type 0
ComponentsArePunctual = (t : Table) (plan : List ComponentPlan) (tied : End → Option End) → IsPunctual (system t plan tied)

-- after a machine has fired it waits for later moments alone: no timer fires twice
abbrev pub TimersFireOnce : Type 0
TimersFireOnce = (t : Table) (plan : List ComponentPlan) (comp machine now at : ℕ) (s : StateNow) → machine < length s.machines →
    HasMoment (component_at plan comp).machines (reacted t plan comp (moment machine) now s).state.machines machine at → now < at

-- a frame comes to one thing alone
abbrev pub FramesHaveOneOutcome : Type 0
FramesHaveOneOutcome = (t : Table) (id : ℕ) → IsReadable t id → (bits : Bits) (r s : Result Plain Fault) → FrameIs t id bits r → FrameIs t id bits s → r ≡ s

-- and so do the frames of a plan that fits, under whose arguments no two containers overlap
abbrev pub PlansReadOne : Type 0
PlansReadOne = (t : Table) (plan : List ComponentPlan) → KeepsRules t → PlanFits t (Conforms t) plan → ArgumentsAreClear t plan → ReadsOne (reading t plan)

-- ---- laws of the runs of a plan

-- lines joined are the first ones and then, unless one of these is a storm, the second ones
abbrev pub RunsJoin : Type 0
RunsJoin = (t : Table) (plan : List ComponentPlan) (tied : End → Option End) (one two : List Told) (w v : World) (outs more : List (List Report)) (end : Option World) →
    let sys = system t plan tied in let read = reading t plan in
    RunGoes sys read one w outs (Some v) → RunGoes sys read two v more end → RunGoes sys read (one ++ two) w (outs ++ more) end

-- one more line behind some of which none was a storm
abbrev pub RunsGoOn : Type 0
RunsGoOn = (t : Table) (plan : List ComponentPlan) (tied : End → Option End) (ls : List Told) (l : Told) (w v : World) (outs : List (List Report)) (c : Course) →
    let sys = system t plan tied in let read = reading t plan in
    RunGoes sys read ls w outs (Some v) → LineGoes sys read l v c → RunGoes sys read (ls ++ l ∷ []) w (outs ++ c.outs ∷ []) c.end

-- the time after a line that is no storm
abbrev pub LinesTakeTheirTime : Type 0
LinesTakeTheirTime = (t : Table) (plan : List ComponentPlan) (tied : End → Option End) (l : Told) (w v : World) (c : Course) → LineGoes (system t plan tied) (reading t plan) l w c → c.end ≡ Some v → v.now ≡ time_after l w.now

-- lines have one outcome, where the plan fits and no two containers overlap under its commands' arguments
abbrev pub RunsHaveOneOutcome : Type 0
RunsHaveOneOutcome = (t : Table) (plan : List ComponentPlan) (tied : End → Option End) (ls : List Told) (w : World) (outs more : List (List Report)) (end stop : Option World) →
    KeepsRules t → PlanFits t (Conforms t) plan → ArgumentsAreClear t plan →
    let sys = system t plan tied in let read = reading t plan in
    RunGoes sys read ls w outs end → RunGoes sys read ls w more stop → (outs ≡ more) × (end ≡ stop)

-- none of the wires has the text for an end
abbrev pub IsUnnamed : List ℕ → List Wire → Type 0
IsUnnamed text wires = AllByRecursion (λ (w : Wire). (w.lower ≢ text) × (w.upper ≢ text)) wires

-- where wires tie what they name, an end whose text none of them has is tied to none
abbrev pub UnnamedEndsAreOutside : Type 0
UnnamedEndsAreOutside = (plan : List ComponentPlan) (wires : List Wire) (ts : List Tie) (text : List ℕ) (e : End) →
    ties_of plan (map (asked_by plan) wires) ≡ Ok ts → end_named plan text ≡ Some e → IsUnnamed text wires → other_end ts e ≡ None
