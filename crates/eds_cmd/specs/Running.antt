-- Running a script line after line: what holds between lines.
use Rattle.std.specs.Prelude.{◌≡◌, ◌<◌, ℕ, List, [], ◌++◌, length, map, Some}
use Rattle.eds_host.specs.Hosts.{Handles, HostNow, MayAllBeHandled, components}
use Rattle.eds_host.specs.Runs.{unbegun}
use Rattle.eds_host.specs.Systems.{World}
use Rattle.eds_host.specs.declared.handled.Handled.{Handled}
use Rattle.eds_host.specs.declared.host.Phase.TheVariants.{Fresh}
use Rattle.eds_host.specs.declared.wiring.Tie.{Tie}
use Rattle.eds_plan.specs.Lines.{Told}
use Rattle.eds_plan.specs.Outs.{Report}
use Rattle.eds_plan.specs.declared.component.ComponentPlan.{ComponentPlan}
use Rattle.eds_types.specs.Rows.{Table}
use Rattle.eds_cmd.specs.declared.tally.Tally.{Tally}
use Rattle.eds_cmd.specs.Run.{AreEventLines, Runs, all_events}
use Rattle.eds_cmd.specs.Tally.{Counts, CountsMore}

-- what lines have happen, without their numbers
abbrev pub happenings : List (ℕ × Told) → List Told
happenings lines = map (λ (l : ℕ × Told). l.1) lines

-- ---- a host

-- a host of a table and a plan, over what wires tie
pub record IsOver (t : Table) (plan : List ComponentPlan) (ties : List Tie) (h : HostNow) : Type 0 where
  pub table : h.table ≡ t
  pub plan_is : h.plan ≡ plan
  pub wires : h.wires ≡ ties

-- a new host, to which all of some lines may be handed, of which there is one at least
pub record IsReady (t : Table) (plan : List ComponentPlan) (lines : List (ℕ × Told)) (h : HostNow) : Type 0 where
  pub over : IsOver t plan h.wires h
  pub fresh : h.phase ≡ Fresh
  pub world : h.world ≡ unbegun (components h)
  pub some : 0 < length lines
  pub may : MayAllBeHandled Fresh h (happenings lines)

-- ---- one line

-- a host handled a line, and what left the run in it is told behind what was told before, and counted beside what was counted
pub record Tells (t : Table) (plan : List ComponentPlan) (l : Told) (h g : HostNow) (went : Handled) (before after : List ℕ) (old new : Tally) : Type 0 where
  pub outs : List Report
  pub handles : Handles h.phase l h g went [] outs
  pub events : List ℕ
  pub lines : AreEventLines t plan outs events
  pub told : after ≡ before ++ events
  pub counted : CountsMore outs old new

-- ---- all lines

-- all lines are done: this is told of what left the run, so much is counted, and this is the world
pub record HasRun (t : Table) (plan : List ComponentPlan) (ties : List Tie) (lines : List (ℕ × Told)) (w : World) (report : List ℕ) (tally : Tally) : Type 0 where
  pub outs : List (List Report)
  pub runs : Runs t plan ties lines outs (Some w)
  pub told : AreEventLines t plan (all_events outs) report
  pub counted : Counts (all_events outs) tally
