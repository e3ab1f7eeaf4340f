-- Replaying a session comes to the same over plans that are seen alike.
use Rattle.std.proofs.Common.{ℕ, List, [], ◌∷◌, Option, Result, Ok, Err, inl, inr, subst}
use Rattle.eds_host.specs.Systems.{World}
use Rattle.eds_host.specs.declared.wiring.HostFail.{HostFail}
use Rattle.eds_host.specs.declared.wiring.Tie.{Tie}
use Rattle.eds_plan.specs.Alike.{AreAlike}
use Rattle.eds_plan.specs.Lines.{Told}
use Rattle.eds_plan.specs.Outs.{Report}
use Rattle.eds_plan.specs.declared.component.ComponentPlan.{ComponentPlan}
use Rattle.eds_replay.specs.Alike.{AlikeAgreement, AlikeDifferences}
use Rattle.eds_replay.specs.Sessions.{recorded_for, recordings, script_in}
use Rattle.eds_replay.specs.declared.differs.Differs.{Differs}
use Rattle.eds_replay.specs.declared.session.Recorded.{Recorded}
use Rattle.eds_script.specs.Scripts.{Plot, script_of}
use Rattle.eds_script.specs.declared.why.BadLine.{BadLine}
use Rattle.eds_types.specs.Rows.{Table}
use Rattle.eds_cmd.specs.Replay.{Compares, IsValidSession, LinesAgree, LinesDiffer, ReplaysOver, ReplaysPlot, Replays, outs_done}
use Rattle.eds_cmd.specs.Run.{wired}
use Rattle.eds_cmd.specs.declared.status.Status.{Status}
use Rattle.eds_cmd.proofs.AlikeRuns.{AlikeLaws, runs_alike, valid_alike}

module _ (laws : AlikeLaws) (agree : AlikeAgreement) (differ : AlikeDifferences) (t : Table) (p q : List ComponentPlan) (alike : AreAlike p q) where
  agree_alike : (recorded : List Recorded) (lines : List (ℕ × Told)) (outs : List (List Report)) (n : ℕ) → LinesAgree t p recorded lines outs n → LinesAgree t q recorded lines outs n
  agree_alike recorded [] [] n h = h
  agree_alike recorded [] (rs ∷ outs) n h = h
  agree_alike recorded (l ∷ ls) [] n h = h
  agree_alike recorded (l ∷ ls) (rs ∷ outs) n h = (h.0, h.1, agree t p q alike (recorded_for l.0 recorded) rs h.0 h.2, agree_alike recorded ls outs h.1 h.3, h.4)

  differ_alike : (recorded : List Recorded) (lines : List (ℕ × Told)) (outs : List (List Report)) (d : Differs) → LinesDiffer t p recorded lines outs d → LinesDiffer t q recorded lines outs d
  differ_alike recorded [] outs d h = h
  differ_alike recorded (l ∷ ls) [] d h = h
  differ_alike recorded (l ∷ ls) (rs ∷ outs) d (inl h) = inl (differ t p q alike l.0 (recorded_for l.0 recorded) rs d h)
  differ_alike recorded (l ∷ ls) (rs ∷ outs) d (inr h) = inr (h.0, agree t p q alike (recorded_for l.0 recorded) rs h.0 h.1, differ_alike recorded ls outs d h.2)

  compared_alike : (recorded : List Recorded) (lines : List (ℕ × Told)) (outs : List (List Report)) (end : Option World) (status : Status) (report : List ℕ) → Compares t p recorded lines outs end status report → Compares t q recorded lines outs end status report
  compared_alike recorded lines outs end status report (inl k) =
      inl (record { world = k.world; calm = k.calm; otherwise = k.otherwise; agree = agree_alike recorded lines outs k.otherwise k.agree; status_is = k.status_is; report_is = k.report_is })
  compared_alike recorded lines outs end status report (inr (inl k)) =
      inr (inl (record { difference = k.difference; first = differ_alike recorded lines (outs_done outs end) k.difference k.first; stop = k.stop }))
  compared_alike recorded lines outs end status report (inr (inr k)) =
      inr (inr (record { stormy = k.stormy; otherwise = k.otherwise; agree = agree_alike recorded lines (outs_done outs end) k.otherwise k.agree; stop = k.stop }))

  over_alike : (ties : Result (List Tie) HostFail) (lines : List (ℕ × Told)) (recorded : List Recorded) (status : Status) (report : List ℕ) → ReplaysOver t p ties lines recorded status report → ReplaysOver t q ties lines recorded status report
  over_alike (Ok ties) lines recorded status report r = record {
    outs = r.outs;
    end = r.end;
    runs = runs_alike laws t p q alike ties lines r.outs r.end r.runs;
    compares = compared_alike recorded lines r.outs r.end status report r.compares;
  }
  over_alike (Err fail) lines recorded status report s = s

  plot_alike : (plot : Result Plot BadLine) (recorded : List Recorded) (status : Status) (report : List ℕ) → ReplaysPlot t p plot recorded status report → ReplaysPlot t q plot recorded status report
  plot_alike (Ok plot) recorded status report r =
      subst (λ ties. ReplaysOver t q ties plot.lines recorded status report) (laws.wires p q alike plot.wires) (over_alike (wired p plot) plot.lines recorded status report r)
  plot_alike (Err bad) recorded status report s = s

  pub sessions_alike : (session : List ℕ) (status : Status) (report : List ℕ) → Replays t p session status report → Replays t q session status report
  sessions_alike session status report r =
      subst (λ plot. ReplaysPlot t q plot (recordings session) status report) (laws.scripts t p q alike (script_in session)) (plot_alike (script_of t p (script_in session)) (recordings session) status report r)

  pub valid_sessions_alike : (session : List ℕ) → IsValidSession t p session → IsValidSession t q session
  unfolding valid_alike
  valid_sessions_alike session v = record {
    script = valid_alike laws t p q alike (script_in session) v.script;
    otherwise = v.otherwise;
    agree = agree_alike (recordings session) v.script.plot.lines v.script.outs v.otherwise v.agree;
  }
