-- A text that is no script, and wires that tie nothing, are told by what runs a script and by what replays a session.
use Rattle.std.proofs.Common.{◌≡◌, ℕ, List, Result, Ok, Err, sym, subst}
use Rattle.std.specs.Prelude.{IfErr, IsErrAnd}
use Rattle.eds_base.specs.declared.fail.Fail.{Fail}
use Rattle.eds_base.specs.declared.fail.Fail.TheVariants as fails
use Rattle.eds_host.specs.declared.wiring.HostFail.{HostFail}
use Rattle.eds_host.specs.declared.wiring.Tie.{Tie}
use Rattle.eds_plan.specs.Lines.{Told}
use Rattle.eds_plan.specs.declared.component.ComponentPlan.{ComponentPlan}
use Rattle.eds_replay.specs.Sessions.{recordings, script_in}
use Rattle.eds_replay.specs.declared.session.Recorded.{Recorded}
use Rattle.eds_script.specs.Scripts.{Plot}
use Rattle.eds_script.specs.declared.why.BadLine.{BadLine}
use Rattle.eds_types.specs.Rows.{Table}
use Rattle.eds_cmd.specs.Endings.{EndsAs, StopSays}
use Rattle.eds_cmd.specs.Replay.{Replays, ReplaysOver, ReplaysPlot}
use Rattle.eds_cmd.specs.Run.{IsBadScript, IsBadlyWired, RunsOver, RunsPlot, RunsScript, wired}
use Rattle.eds_cmd.specs.Stops.{status_of}
use Rattle.eds_cmd.specs.declared.status.Status.{Status}
use Rattle.eds_cmd.specs.declared.stop.Stop.{Stop}

-- a stop that is handed on
pub handed_err : {X : Type 0} (Says : Status → List ℕ → Type 0) (r : Result X (Fail Stop)) (fail : Fail Stop) → IsErrAnd r (λ e. e ≡ fail) → StopSays Says fail → IfErr r (StopSays Says)
handed_err Says (Ok x) fail h says = tt
handed_err Says (Err e) fail h says = subst (StopSays Says) (sym h) says

pub handed_stop : {X : Type 0} (view : X → List ℕ) (Says : Status → List ℕ → Type 0) (r : Result X (Fail Stop)) (fail : Fail Stop) → IsErrAnd r (λ e. e ≡ fail) → StopSays Says fail → EndsAs view Says r
handed_stop view Says (Ok x) fail h says = absurd h
handed_stop view Says (Err e) fail h says = subst (StopSays Says) (sym h) says

module _ (t : Table) (plan : List ComponentPlan) where
  pub bad_script_runs : (text : List ℕ) (fail : Fail Stop) → StopSays (IsBadScript t plan text) fail → StopSays (RunsScript t plan text) fail
  bad_script_runs text (fails.Named stop) b = subst (λ (p : Result Plot BadLine). RunsPlot t plan p (status_of stop.cause) stop.report) (sym b.is) b.stop
  bad_script_runs text fails.Memory b = tt

  pub bad_wire_runs : (p : Plot) (lines : List (ℕ × Told)) (fail : Fail Stop) → StopSays (IsBadlyWired plan p) fail → StopSays (RunsOver t plan (wired plan p) lines) fail
  bad_wire_runs p lines (fails.Named stop) b = subst (λ (r : Result (List Tie) HostFail). RunsOver t plan r lines (status_of stop.cause) stop.report) (sym b.is) b.stop
  bad_wire_runs p lines fails.Memory b = tt

  pub bad_script_replays : (session script : List ℕ) (fail : Fail Stop) → script ≡ script_in session → StopSays (IsBadScript t plan script) fail → StopSays (Replays t plan session) fail
  bad_script_replays session script (fails.Named stop) e b =
      let k : IsBadScript t plan (script_in session) (status_of stop.cause) stop.report = subst (λ x. IsBadScript t plan x (status_of stop.cause) stop.report) e b in
      subst (λ (p : Result Plot BadLine). ReplaysPlot t plan p (recordings session) (status_of stop.cause) stop.report) (sym k.is) k.stop
  bad_script_replays session script fails.Memory e b = tt

  pub bad_wire_replays : (p : Plot) (lines : List (ℕ × Told)) (recorded : List Recorded) (fail : Fail Stop) → StopSays (IsBadlyWired plan p) fail → StopSays (ReplaysOver t plan (wired plan p) lines recorded) fail
  bad_wire_replays p lines recorded (fails.Named stop) b = subst (λ (r : Result (List Tie) HostFail). ReplaysOver t plan r lines recorded (status_of stop.cause) stop.report) (sym b.is) b.stop
  bad_wire_replays p lines recorded fails.Memory b = tt
