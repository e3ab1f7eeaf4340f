-- What a host keeps between lines.
use Rattle.std.specs.Prelude.{◌≡◌, ◌≤◌, ◌<◌, ◌+◌, ◌^◌, ℕ, List, [], length, Option}
use Rattle.std.specs.List.{AllByRecursion}
use Rattle.eds_types.specs.Rows.{Table}
use Rattle.eds_plan.specs.Fitting.{PlanFits}
use Rattle.eds_plan.specs.Lines.{Told, starts, passes, framed}
use Rattle.eds_plan.specs.Lines as lines
use Rattle.eds_plan.specs.Outs.{Report, Signal}
use Rattle.eds_plan.specs.States.{StateNow}
use Rattle.eds_plan.specs.declared.component.ComponentPlan.{ComponentPlan}
use Rattle.eds_act.specs.Does.{Conforms}
use Rattle.eds_host.specs.declared.host.Phase.{Phase}
use Rattle.eds_host.specs.declared.host.Phase.TheVariants.{Fresh, Rests, Storm, Spent}
use Rattle.eds_host.specs.declared.wiring.Tie.{Tie}
use Rattle.eds_host.specs.Hosts.{ArgumentsAreClear, BringsOne, reading}
use Rattle.eds_host.specs.Mirrors.{dues_of}
use Rattle.eds_host.specs.Plans.{AreStates, Arrives, NoneBefore, WiresFit, system}
use Rattle.eds_host.specs.Runs.{Course, LineGoes}
use Rattle.eds_host.specs.Settings.{running}
use Rattle.eds_host.specs.Steps.{IsLine}
use Rattle.eds_host.specs.Systems.{World, sent_at}
use Rattle.eds_host.specs.Wires.{other_end}
use Rattle.eds_host.specs.declared.handled.Handled.{Handled}
use Rattle.eds_host.specs.declared.setting.Setting.{Setting}

-- before the start it is time 0 and nothing is to be delivered; later, components are in states of the time and wait for later
-- moments, which are noted, and what is to be delivered may arrive
abbrev pub IsCalm : Phase → Table → List ComponentPlan → List Tie → (now : ℕ) → List StateNow → List Signal → List (Option (ℕ × ℕ)) → Type 0
IsCalm Fresh t plan ties now states queue dues = (now ≡ 0) × (queue ≡ [])
IsCalm Rests t plan ties now states queue dues =
    (now < 2 ^ 63) × AreStates t plan now states × NoneBefore plan (now + 1) states × (dues ≡ dues_of (system t plan (other_end ties)) 0 states) × AllByRecursion (Arrives t plan) queue
IsCalm Storm t plan ties now states queue dues = Unit {0}
IsCalm Spent t plan ties now states queue dues = Unit {0}

-- the plan fits, wires tie what fits, and there is a state for each component
pub record Stands (phase : Phase) (t : Table) (plan : List ComponentPlan) (ties : List Tie) (now : ℕ) (states : List StateNow) (queue : List Signal) (dues : List (Option (ℕ × ℕ))) : Type 0 where
  pub plan_fits : PlanFits t (Conforms t) plan
  pub clear : ArgumentsAreClear t plan
  pub wires : WiresFit plan (other_end ties)
  pub all : length states ≡ length plan
  pub calm : IsCalm phase t plan ties now states queue dues

-- ---- a line that is told

-- a line made a world another one, and had this leave the run: as one of its courses has it
pub record LineIs (s : Setting) (l : Told) (w : World) (done : Handled) (v : World) (before after : List Report) : Type 0 where
  pub course : Course
  pub goes : LineGoes (running s) (reading s.table.now s.plan.now) l w course
  pub is : IsLine done course v before after

-- between lines, after the start
pub record IsAtRest (s : Setting) (now : ℕ) (states : List StateNow) (queue : List Signal) (dues : List (Option (ℕ × ℕ))) : Type 0 where
  pub early : now < 2 ^ 63
  pub fit : AreStates s.table.now s.plan.now now states
  pub before : NoneBefore s.plan.now (now + 1) states
  pub tied : dues ≡ dues_of (running s) 0 states
  pub placed : AllByRecursion (Arrives s.table.now s.plan.now) queue

-- what holds where a line is told
abbrev pub MayBeTold : Setting → Told → (now : ℕ) → List StateNow → List Signal → List (Option (ℕ × ℕ)) → Type 0
MayBeTold s starts now states queue dues = now ≡ 0
MayBeTold s (passes n) now states queue dues = IsAtRest s now states queue dues × (now + n < 2 ^ 63)
MayBeTold s (lines.arrives comp face member way o vs) now states queue dues = IsAtRest s now states queue dues × Arrives s.table.now s.plan.now (sent_at comp face member way o vs)
MayBeTold s (framed comp face member octets) now states queue dues = IsAtRest s now states queue dues × (length octets ≤ 65536) × BringsOne s.plan.now comp face member
