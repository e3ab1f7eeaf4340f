-- A session is replayed to its end exactly where it is valid.
use Rattle.std.proofs.Common.{◌≡◌, ℕ, List, length, Some, Result, Ok, Err, inl, inr, refl, sym, subst}
use Rattle.eds_host.specs.declared.wiring.HostFail.{HostFail}
use Rattle.eds_host.specs.declared.wiring.Tie.{Tie}
use Rattle.eds_plan.specs.declared.component.ComponentPlan.{ComponentPlan}
use Rattle.eds_replay.specs.Sessions.{recordings, script_in}
use Rattle.eds_script.specs.Scripts.{Plot, script_of}
use Rattle.eds_script.specs.declared.why.BadLine.{BadLine}
use Rattle.eds_types.specs.Rows.{Table}
use Rattle.eds_cmd.specs.Replay.{Compares, IsValidSession, ReplaysLines, ReplaysOver, ReplaysPlot, Replays}
use Rattle.eds_cmd.specs.Reports.{agrees_line}
use Rattle.eds_cmd.specs.Run.{IsValidScript, Runs, all_events, wired}
use Rattle.eds_cmd.specs.Stops.{IsStop}
use Rattle.eds_cmd.specs.declared.status.Status.TheVariants as statuses
use Rattle.eds_cmd.specs.declared.stop.Stop.{Stop}
use Rattle.eds_cmd.proofs.Reporting.{not_done}

module _ (t : Table) (plan : List ComponentPlan) (session : List ℕ) where
  abbrev Done : List ℕ → Type 0
  Done report = Replays t plan session statuses.Done report

  -- a valid session is replayed to its end
  pub valid_replays : IsValidSession t plan session → (report : List ℕ) × Done report
  valid_replays v =
      let s : IsValidScript t plan (script_in session) = v.script in
      let report : List ℕ = agrees_line (length (all_events s.outs)) v.otherwise in
      let lines : ReplaysLines t plan s.ties s.plot.lines (recordings session) statuses.Done report =
      record { outs = s.outs; end = Some s.world; runs = s.calm; compares = inl (record { world = s.world; calm = refl; otherwise = v.otherwise; agree = v.agree; status_is = refl; report_is = refl }) } in
      let over : ReplaysOver t plan (wired plan s.plot) s.plot.lines (recordings session) statuses.Done report =
      subst (λ x. ReplaysOver t plan x s.plot.lines (recordings session) statuses.Done report) (sym s.tied) lines in
      (report, subst (λ x. ReplaysPlot t plan x (recordings session) statuses.Done report) (sym s.good) over)

  -- a stop is no end of a replay that is done
  no_stop : (stop : Stop) (report : List ℕ) → IsStop stop statuses.Done report → ⊥
  no_stop stop report s = not_done stop.cause (sym s.status_is)

  -- and one that is replayed to its end is valid
  pub only_valid : (report : List ℕ) → Done report → IsValidSession t plan session
  only_valid report d = by_plot (script_of t plan (script_in session)) refl d
    where
      by_lines : (p : Plot) → script_of t plan (script_in session) ≡ Ok p → (ties : List Tie) → wired plan p ≡ Ok ties → ReplaysLines t plan ties p.lines (recordings session) statuses.Done report → IsValidSession t plan session
      by_lines p good ties tied r = compared r.compares
        where
          compared : Compares t plan (recordings session) p.lines r.outs r.end statuses.Done report → IsValidSession t plan session
          compared (inl k) = record {
            script = record { plot = p; good = good; ties = ties; tied = tied; outs = r.outs; world = k.world; calm = subst (Runs t plan ties p.lines r.outs) k.calm r.runs };
            otherwise = k.otherwise;
            agree = k.agree;
          }
          compared (inr (inl k)) = absurd (no_stop _ report k.stop)
          compared (inr (inr k)) = absurd (no_stop _ report k.stop)

      by_ties : (p : Plot) → script_of t plan (script_in session) ≡ Ok p → (ties : Result (List Tie) HostFail) → wired plan p ≡ ties → ReplaysOver t plan ties p.lines (recordings session) statuses.Done report → IsValidSession t plan session
      by_ties p good (Ok ties) tied k = by_lines p good ties tied k
      by_ties p good (Err fail) tied k = absurd (no_stop _ report k)

      by_plot : (p : Result Plot BadLine) → script_of t plan (script_in session) ≡ p → ReplaysPlot t plan p (recordings session) statuses.Done report → IsValidSession t plan session
      by_plot (Ok p) good k = by_ties p good (wired plan p) refl k
      by_plot (Err bad) good k = absurd (no_stop _ report k)
