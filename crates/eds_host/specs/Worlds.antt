-- Worlds of a plan's components in which all values pack, and what leaves a run of them.
use Rattle.std.specs.Prelude.{◌≡◌, ◌≤◌, ℕ, List, length, Option, Some, IfSome, slice_get}
use Rattle.std.specs.List.{AllByRecursion}
use Rattle.eds_types.specs.Rows.{Table}
use Rattle.eds_types.specs.Rules.{KeepsRules}
use Rattle.eds_plan.specs.Fitting.{PlanFits}
use Rattle.eds_plan.specs.Lines.{Told, starts, passes, framed}
use Rattle.eds_plan.specs.Lines as lines
use Rattle.eds_plan.specs.Plans.{component_at, variable_types}
use Rattle.eds_plan.specs.States.{StateNow}
use Rattle.eds_plan.specs.declared.component.ComponentPlan.{ComponentPlan}
use Rattle.eds_plan.specs.declared.run.End.{End}
use Rattle.eds_act.specs.Does.{AllConform, Conforms}
use Rattle.eds_host.specs.Hosts.{ArgumentsAreClear, BringsOne, reading}
use Rattle.eds_host.specs.Plans.{Arrives, MayAllGoOut, WiresFit, system}
use Rattle.eds_host.specs.Runs.{Course, LineGoes}
use Rattle.eds_host.specs.Systems.{World, sent_at}

-- each component has a state, whose variables have values that pack, and what is to be delivered may arrive
pub record IsSound (t : Table) (plan : List ComponentPlan) (w : World) : Type 0 where
  pub all : length w.states ≡ length plan
  pub values : (i : ℕ) (s : StateNow) → slice_get w.states i ≡ Some s → AllConform t (variable_types (component_at plan i)) s.variables
  pub queue : AllByRecursion (Arrives t plan) w.queue

-- what comes by a line: the start comes in any world, and what arrives by other lines may arrive
abbrev pub MayComeBy : Table → List ComponentPlan → Told → World → Type 0
MayComeBy t plan starts w = Unit {0}
MayComeBy t plan (passes n) w = IsSound t plan w
MayComeBy t plan (lines.arrives comp face member way o vs) w = IsSound t plan w × Arrives t plan (sent_at comp face member way o vs)
MayComeBy t plan (framed comp face member octets) w = IsSound t plan w × (length octets ≤ 65536) × BringsOne plan comp face member

-- a plan that fits, over wires that fit, under whose arguments no two containers overlap
pub record IsRunnable (t : Table) (plan : List ComponentPlan) (tied : End → Option End) : Type 0 where
  pub rules : KeepsRules t
  pub plan_fits : PlanFits t (Conforms t) plan
  pub clear : ArgumentsAreClear t plan
  pub wires : WiresFit plan tied

-- what left the run in a line fits the plan, and the world after it is sound
pub record IsSoundCourse (t : Table) (plan : List ComponentPlan) (c : Course) : Type 0 where
  pub outs : MayAllGoOut t plan c.outs
  pub world : IfSome c.end (IsSound t plan)

-- so it is with each line that may come
abbrev pub LinesKeepSound : Type 0
LinesKeepSound = (t : Table) (plan : List ComponentPlan) (tied : End → Option End) (l : Told) (w : World) (c : Course) →
    IsRunnable t plan tied → MayComeBy t plan l w → LineGoes (system t plan tied) (reading t plan) l w c → IsSoundCourse t plan c

-- each line that may come has a course
abbrev pub LinesHaveCourses : Type 0
LinesHaveCourses = (t : Table) (plan : List ComponentPlan) (tied : End → Option End) (l : Told) (w : World) →
    IsRunnable t plan tied → MayComeBy t plan l w → (c : Course) × LineGoes (system t plan tied) (reading t plan) l w c
