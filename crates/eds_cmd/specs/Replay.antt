-- What comparing the recordings of a session with the run of its script comes to.
use Rattle.std.specs.Prelude.{◌≡◌, ℕ, ◌+◌, ◌-◌, List, [], ◌∷◌, length, take, Option, Some, None, Result, Ok, Err, ◌⊎◌}
use Rattle.eds_host.specs.Systems.{World}
use Rattle.eds_host.specs.declared.wiring.HostFail.{HostFail}
use Rattle.eds_host.specs.declared.wiring.Tie.{Tie}
use Rattle.eds_plan.specs.Lines.{Told}
use Rattle.eds_plan.specs.Outs.{Report}
use Rattle.eds_plan.specs.declared.component.ComponentPlan.{ComponentPlan}
use Rattle.eds_read_comp.specs.Plans.{seen_plan}
use Rattle.eds_replay.specs.Differences.{AllAgree, IsFirstDifference}
use Rattle.eds_replay.specs.Sessions.{recorded_for, recordings, script_in}
use Rattle.eds_replay.specs.declared.differs.Differs.{Differs}
use Rattle.eds_replay.specs.declared.session.Recorded.{Recorded}
use Rattle.eds_script.specs.Scripts.{Plot, script_of}
use Rattle.eds_script.specs.declared.why.BadLine.{BadLine}
use Rattle.eds_sheet.specs.Compiled.{SeenSheet}
use Rattle.eds_types.specs.Rows.{Table}
use Rattle.eds_cmd.specs.declared.status.Status.{Status}
use Rattle.eds_cmd.specs.declared.status.Status.TheVariants as statuses
use Rattle.eds_cmd.specs.Reports.{agrees_line}
use Rattle.eds_cmd.specs.Run.{IsPlanOf, IsValidScript, Runs, all_events, last_of, wired}
use Rattle.eds_cmd.specs.Stops.{IsStop, bad_line, bad_wire, differing, storm}

-- ---- line after line

-- what left the run in each line that is done: all but the last one, where that was a storm
abbrev pub outs_done : List (List Report) → (end : Option World) → List (List Report)
outs_done outs (Some w) = outs
outs_done outs None = take (length outs - 1) outs

-- The recordings of each of the first lines agree with what left the run in it, one by one and in number, and so many are spelled
-- otherwise.
abbrev pub LinesAgree : Table → List ComponentPlan → List Recorded → List (ℕ × Told) → List (List Report) → (otherwise : ℕ) → Type 0
LinesAgree t plan recorded [] [] n = n ≡ 0
LinesAgree t plan recorded [] (os ∷ outs) n = ⊥
LinesAgree t plan recorded (l ∷ ls) [] n = n ≡ 0
LinesAgree t plan recorded (l ∷ ls) (os ∷ outs) n =
    (m : ℕ) × (k : ℕ) × AllAgree t plan (recorded_for l.0 recorded) os m × LinesAgree t plan recorded ls outs k × (n ≡ m + k)

-- The recordings of one of the first lines and what left the run in it don't agree, and in the lines before it they do: this is the
-- first difference.
abbrev pub LinesDiffer : Table → List ComponentPlan → List Recorded → List (ℕ × Told) → List (List Report) → Differs → Type 0
LinesDiffer t plan recorded [] outs d = ⊥
LinesDiffer t plan recorded (l ∷ ls) [] d = ⊥
LinesDiffer t plan recorded (l ∷ ls) (os ∷ outs) d =
    IsFirstDifference t plan l.0 (recorded_for l.0 recorded) os d ⊎ ((m : ℕ) × AllAgree t plan (recorded_for l.0 recorded) os m × LinesDiffer t plan recorded ls outs d)

-- ---- a replay

-- every line is done, and its recordings agree with what left the run in it
pub record IsReplayed (t : Table) (plan : List ComponentPlan) (recorded : List Recorded) (lines : List (ℕ × Told)) (outs : List (List Report)) (end : Option World) (status : Status) (report : List ℕ) : Type 0 where
  pub world : World
  pub calm : end ≡ Some world
  pub otherwise : ℕ
  pub agree : LinesAgree t plan recorded lines outs otherwise
  pub status_is : status ≡ statuses.Done
  pub report_is : report ≡ agrees_line (length (all_events outs)) otherwise

-- in a line that is done there is the first difference, whatever comes of later lines
pub record IsOtherwise (t : Table) (plan : List ComponentPlan) (recorded : List Recorded) (lines : List (ℕ × Told)) (outs : List (List Report)) (end : Option World) (status : Status) (report : List ℕ) : Type 0 where
  pub difference : Differs
  pub first : LinesDiffer t plan recorded lines (outs_done outs end) difference
  pub stop : IsStop (differing difference) status report

-- a line is a storm, whose events are neither compared nor told, and in the lines before it the recordings agree
pub record IsStormyReplay (t : Table) (plan : List ComponentPlan) (recorded : List Recorded) (lines : List (ℕ × Told)) (outs : List (List Report)) (end : Option World) (status : Status) (report : List ℕ) : Type 0 where
  pub stormy : end ≡ None
  pub otherwise : ℕ
  pub agree : LinesAgree t plan recorded lines (outs_done outs end) otherwise
  pub stop : IsStop (storm [] (last_of lines (length outs))) status report

-- recordings beside what left the run in each line, and the world after the last, none after a storm, come to this status and report
abbrev pub Compares : Table → List ComponentPlan → List Recorded → List (ℕ × Told) → List (List Report) → (end : Option World) → Status → List ℕ → Type 0
Compares t plan recorded lines outs end status report =
    IsReplayed t plan recorded lines outs end status report ⊎ (IsOtherwise t plan recorded lines outs end status report ⊎ IsStormyReplay t plan recorded lines outs end status report)

-- the run of lines, over wires that tie so, beside recordings, comes to this status and report
pub record ReplaysLines (t : Table) (plan : List ComponentPlan) (ties : List Tie) (lines : List (ℕ × Told)) (recorded : List Recorded) (status : Status) (report : List ℕ) : Type 0 where
  pub outs : List (List Report)
  pub end : Option World
  pub runs : Runs t plan ties lines outs end
  pub compares : Compares t plan recorded lines outs end status report

-- the lines of a script, over wires that tie so or of which one ties nothing, beside recordings, come to this status and report
abbrev pub ReplaysOver : Table → List ComponentPlan → Result (List Tie) HostFail → List (ℕ × Told) → List Recorded → Status → List ℕ → Type 0
ReplaysOver t plan (Ok ties) lines recorded status report = ReplaysLines t plan ties lines recorded status report
ReplaysOver t plan (Err fail) lines recorded status report = IsStop (bad_wire fail) status report

-- a script, or its first bad line, beside recordings, comes to this status and report
abbrev pub ReplaysPlot : Table → List ComponentPlan → Result Plot BadLine → List Recorded → Status → List ℕ → Type 0
ReplaysPlot t plan (Ok p) recorded status report = ReplaysOver t plan (wired plan p) p.lines recorded status report
ReplaysPlot t plan (Err bad) recorded status report = IsStop (bad_line bad) status report

-- replaying the text of a session comes to this status and report
abbrev pub Replays : Table → List ComponentPlan → List ℕ → Status → List ℕ → Type 0
Replays t plan session status report = ReplaysPlot t plan (script_of t plan (script_in session)) (recordings session) status report

-- the script is valid for a run, and in each of its lines the recordings agree with what left the run
pub record IsValidSession (t : Table) (plan : List ComponentPlan) (session : List ℕ) : Type 0 where
  pub script : IsValidScript t plan (script_in session)
  pub otherwise : ℕ
  pub agree : LinesAgree t plan (recordings session) script.plot.lines script.outs otherwise

-- ---- over the components of a sheet

-- replaying the text of a session over the components of a sheet comes to this status and report
pub record ReplaysSheet (sheet : SeenSheet) (session : List ℕ) (status : Status) (report : List ℕ) : Type 0 where
  pub plan : List ComponentPlan
  pub is : IsPlanOf sheet plan
  pub replays : Replays sheet.table plan session status report

-- a session is valid over the components of a sheet
pub record IsValidReplay (sheet : SeenSheet) (session : List ℕ) : Type 0 where
  pub plan : List ComponentPlan
  pub seen : seen_plan plan ≡ sheet.plan
  pub valid : IsValidSession sheet.table plan session
