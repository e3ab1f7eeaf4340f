-- A line that may be handed to a host may be told to its components.
use Rattle.std.proofs.Common.{◌≡◌, ◌<◌, ◌^◌, ℕ, List, Option, Some, slice_get, sym, subst}
use Rattle.std.specs.Prelude.{Result, Ok, Err, IfOk}
use Rattle.std.specs.List.{AllByRecursion}
use Rattle.eds_base.specs.declared.fail.Memory.{Memory}
use Rattle.eds_plan.specs.Lines.{Told, starts, passes, framed}
use Rattle.eds_plan.specs.Lines as lines
use Rattle.eds_plan.specs.Outs.{Report, Signal}
use Rattle.eds_plan.specs.States.{StateNow}
use Rattle.eds_host.specs.declared.handled.Handled.{Handled}
use Rattle.eds_host.specs.declared.handled.Handled.TheVariants.{Done, Storm}
use Rattle.eds_host.specs.declared.host.Phase.{Phase}
use Rattle.eds_host.specs.declared.host.Phase.TheVariants as phase
use Rattle.eds_host.specs.declared.wiring.Tie.{Tie}
use Rattle.eds_host.specs.Machines.{IsStateOf}
use Rattle.eds_plan.specs.declared.component.ComponentPlan.{ComponentPlan}
use Rattle.eds_types.specs.Rows.{Table}
use Rattle.eds_host.specs.declared.setting.Setting.{Setting}
use Rattle.eds_host.specs.Hosts.{MayGoOn, reading, standing_after}
use Rattle.eds_host.specs.Mirrors.{dues_of}
use Rattle.eds_host.specs.Plans.{AreStates, Arrives}
use Rattle.eds_host.specs.Resting.{IsAtRest, IsCalm, LineIs, MayBeTold}
use Rattle.eds_host.specs.Runs.{Course, LineGoes}
use Rattle.eds_host.specs.Steps.{IsLine}
use Rattle.eds_host.specs.Settings.{AtRest, running}
use Rattle.eds_host.specs.Systems.{World}

module _ (s : Setting) (now : ℕ) (states : List StateNow) (queue : List Signal) (dues : List (Option (ℕ × ℕ))) where
  pub fresh_told : (l : Told) → l ≡ starts → now ≡ 0 → MayBeTold s l now states queue dues
  fresh_told l e z = subst (λ k. MayBeTold s k now states queue dues) (sym e) z

  at_rest : IsCalm phase.Rests s.table.now s.plan.now s.links.now now states queue dues → IsAtRest s now states queue dues
  at_rest h = record { early = h.0; fit = h.1; before = h.2; tied = h.3; placed = h.4 }

  pub rests_told : (l : Told) → IsCalm phase.Rests s.table.now s.plan.now s.links.now now states queue dues
      → MayGoOn s.table.now s.plan.now s.links.now now l → MayBeTold s l now states queue dues
  rests_told starts h g = absurd g
  rests_told (passes n) h g = (at_rest h, g)
  rests_told (lines.arrives comp face member way o vs) h g = (at_rest h, g.1)
  rests_told (framed comp face member octets) h g = (at_rest h, g.1, g.2)

  -- after a line that was done
  pub calm_after : (done : Handled) → now < 2 ^ 63 → AreStates s.table.now s.plan.now now states → dues ≡ dues_of (running s) 0 states → AllByRecursion (Arrives s.table.now s.plan.now) queue → AtRest done now s.plan.now states → IsCalm (standing_after done) s.table.now s.plan.now s.links.now now states queue dues
  calm_after Done lt all tied placed rest = (lt, all, rest, tied, placed)
  calm_after Storm lt all tied placed rest = tt

-- at rest the states of components fit
pub calm_state : (t : Table) (plan : List ComponentPlan) (comp now : ℕ) (s : StateNow) (p : Phase) (ties : List Tie) (states : List StateNow) (queue : List Signal) (dues : List (Option (ℕ × ℕ)))
    → IsCalm p t plan ties now states queue dues → p ≡ phase.Rests → slice_get states comp ≡ Some s → IsStateOf t plan comp now s
calm_state t plan comp now s phase.Rests ties states queue dues h e is = h.1.each comp s is
calm_state t plan comp now s phase.Fresh ties states queue dues h e is = absurd cc
calm_state t plan comp now s phase.Storm ties states queue dues h e is = absurd cc
calm_state t plan comp now s phase.Spent ties states queue dues h e is = absurd cc

-- a call that had a course happen handled the line of which it is a course
pub line_is : (s : Setting) (l : Told) (w v : World) (o q : List Report) (course : Course) (res : Result Handled Memory) → LineGoes (running s) (reading s.table.now s.plan.now) l w course → IfOk res (λ h. IsLine h course v o q) → IfOk res (λ h. LineIs s l w h v o q)
line_is s l w v o q course (Ok h) goes is = record { course = course; goes = goes; is = is }
line_is s l w v o q course (Err e) goes is = tt
