-- Replaying a session line after line: what holds between lines.
use Rattle.std.specs.Prelude.{ℕ, List, [], ◌∷◌, Option, Some, ◌⊎◌}
use Rattle.eds_host.specs.Hosts.{Handles, HostNow}
use Rattle.eds_host.specs.declared.handled.Handled.TheVariants.{Done, Storm}
use Rattle.eds_plan.specs.Lines.{Told}
use Rattle.eds_plan.specs.Outs.{Report}
use Rattle.eds_plan.specs.declared.component.ComponentPlan.{ComponentPlan}
use Rattle.eds_replay.specs.Differences.{IsFirstDifference}
use Rattle.eds_replay.specs.Judges.{Agreed, IsLater, JudgeNow}
use Rattle.eds_replay.specs.Sessions.{recorded_for}
use Rattle.eds_replay.specs.declared.differs.Differs.{Differs}
use Rattle.eds_types.specs.Rows.{Table}
use Rattle.eds_cmd.specs.declared.status.Status.{Status}
use Rattle.eds_cmd.specs.Stops.{IsStop, differing, storm}

-- lines come later than a last one, and each of them later than the one before it
abbrev pub AreLater : Option ℕ → List (ℕ × Told) → Type 0
AreLater last [] = Unit {0}
AreLater last (l ∷ ls) = IsLater last l.0 × AreLater (Some l.0) ls

-- ---- one line

-- a host handled a line, and its recordings agree with what left the run in it
pub record Passes (t : Table) (plan : List ComponentPlan) (l : ℕ × Told) (h g : HostNow) (j k : JudgeNow) : Type 0 where
  pub outs : List Report
  pub handles : Handles h.phase l.1 h g Done [] outs
  pub agreed : Agreed t plan l.0 outs j k

-- a host handled a line, and its recordings don't agree with what left the run in it
pub record DiffersAt (t : Table) (plan : List ComponentPlan) (l : ℕ × Told) (h g : HostNow) (j : JudgeNow) (status : Status) (report : List ℕ) : Type 0 where
  pub outs : List Report
  pub handles : Handles h.phase l.1 h g Done [] outs
  pub difference : Differs
  pub first : IsFirstDifference t plan l.0 (recorded_for l.0 j.recorded) outs difference
  pub stop : IsStop (differing difference) status report

-- a line is a storm
pub record StormsAt (l : ℕ × Told) (h g : HostNow) (status : Status) (report : List ℕ) : Type 0 where
  pub outs : List Report
  pub handles : Handles h.phase l.1 h g Storm [] outs
  pub stop : IsStop (storm [] l.0) status report

-- a line ends the replay
abbrev pub EndsAt : Table → List ComponentPlan → ℕ × Told → (h g : HostNow) → JudgeNow → Status → List ℕ → Type 0
EndsAt t plan l h g j status report = DiffersAt t plan l h g j status report ⊎ StormsAt l h g status report
