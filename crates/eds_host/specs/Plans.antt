-- The system of components that a plan describes, and what is asked of what comes to them.
use Rattle.std.specs.Prelude.{◌≡◌, ℕ, List, length, Bool, Option, Some, slice_get}
use Rattle.std.specs.List.{AllByRecursion}
use Rattle.eds_types.specs.Rows.{Table}
use Rattle.eds_plan.specs.Carried.{OpFits, arriving, carried, leaving}
use Rattle.eds_plan.specs.Ends.{end_at}
use Rattle.eds_plan.specs.Outs.{Signal, Report, left, stopped, refused}
use Rattle.eds_plan.specs.Sends.{Sent, primitive, halted}
use Rattle.eds_plan.specs.States.{StateNow}
use Rattle.eds_plan.specs.declared.component.ComponentPlan.{ComponentPlan}
use Rattle.eds_plan.specs.declared.component.EndPlan.{EndPlan}
use Rattle.eds_plan.specs.declared.instance.Member.{Member}
use Rattle.eds_plan.specs.declared.run.End.{End}
use Rattle.eds_plan.specs.declared.run.Way.{Way}
use Rattle.eds_act.specs.Does.{AllConform}
use Rattle.eds_host.specs.Machines.{unstarted, started, reacted, waits_of, IsStateOf}
use Rattle.eds_host.specs.Laws.{NotBefore}
use Rattle.eds_host.specs.Systems.{System, Coming, arrival, moment, sent_at}

-- the components of a plan, whose ends are tied so
abbrev pub system : Table → List ComponentPlan → (End → Option End) → System
system t plan tied = record { count = length plan; fresh = unstarted plan; starts = started t plan; reacts = reacted t plan; waits = waits_of plan; tied = tied }

-- ---- primitives

-- a primitive stands at an end that is there, goes this way there, and has values that pack for all that its member carries so
pub record Stands (t : Table) (plan : List ComponentPlan) (goes : Bool → Way) (s : Signal) : Type 0 where
  pub end : EndPlan
  pub here : end_at plan s.end ≡ Some end
  pub member : Member
  pub there : slice_get end.instance.members s.member ≡ Some member
  pub way : s.way ≡ goes end.required
  pub op : OpFits s.op s.way member
  pub values : AllConform t (carried s.op s.way (Some member)) s.arguments

-- a primitive that may arrive at its end
abbrev pub Arrives : Table → List ComponentPlan → Signal → Type 0
Arrives t plan s = Stands t plan arriving s

-- a primitive that may be sent at its end
abbrev pub Leaves : Table → List ComponentPlan → Signal → Type 0
Leaves t plan s = Stands t plan leaving s

-- the same of what is sent; a halt is always fine
abbrev pub IsSent : Table → List ComponentPlan → Sent → Type 0
IsSent t plan (primitive c e m way o vs) = Leaves t plan (sent_at c e m way o vs)
IsSent t plan (halted machine h) = Unit {0}

-- what leaves a run fits the plan: a primitive may be sent at its end; a halt and a frame that is refused are always fine
abbrev pub MayGoOut : Table → List ComponentPlan → Report → Type 0
MayGoOut t plan (left time s) = Leaves t plan s
MayGoOut t plan (stopped time component machine h) = Unit {0}
MayGoOut t plan (refused time e member fault) = Unit {0}

-- the same of all that leaves it
abbrev pub MayAllGoOut : Table → List ComponentPlan → List Report → Type 0
MayAllGoOut t plan outs = AllByRecursion (MayGoOut t plan) outs

-- ---- wires

-- what leaves at one end arrives at the other
pub record AreTied (plan : List ComponentPlan) (a b : End) : Type 0 where
  pub one : EndPlan
  pub one_is : end_at plan a ≡ Some one
  pub other : EndPlan
  pub other_is : end_at plan b ≡ Some other
  pub turned : arriving other.required ≡ leaving one.required
  pub same : other.instance.members ≡ one.instance.members

-- wires tie ends that are there, and what leaves at one arrives at the other
abbrev pub WiresFit : List ComponentPlan → (End → Option End) → Type 0
WiresFit plan tied = (a b : End) → tied a ≡ Some b → AreTied plan a b

-- ---- states

-- one state for each component, at a time
pub record AreStates (t : Table) (plan : List ComponentPlan) (now : ℕ) (states : List StateNow) : Type 0 where
  pub all : length states ≡ length plan
  pub each : (i : ℕ) (s : StateNow) → slice_get states i ≡ Some s → IsStateOf t plan i now s

-- no component waits for a moment before a time
abbrev pub NoneBefore : List ComponentPlan → ℕ → List StateNow → Type 0
NoneBefore plan b states = (i : ℕ) (s : StateNow) → slice_get states i ≡ Some s → NotBefore b (waits_of plan i s)

-- what may come to a component in a state: a primitive for one of its ends, or a moment for which it waits, at that time
abbrev pub MayCome : Table → List ComponentPlan → (component now : ℕ) → StateNow → Coming → Type 0
MayCome t plan comp now s (arrival p) = Arrives t plan p × (p.end.comp.0 ≡ comp)
MayCome t plan comp now s (moment machine) = waits_of plan comp s ≡ Some (now, machine)

-- the components so far have started, and wait for later moments than the beginning
abbrev pub AreBegun : Table → List ComponentPlan → List StateNow → Type 0
AreBegun t plan states = (i : ℕ) (s : StateNow) → slice_get states i ≡ Some s → IsStateOf t plan i 0 s × NotBefore 1 (waits_of plan i s)
