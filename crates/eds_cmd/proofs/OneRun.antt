-- Running a script comes to one thing alone.
use Rattle.std.proofs.Common.{◌≡◌, ℕ, List, [], ◌∷◌, ◌++◌, length, Some, None, Result, Ok, Err, inl, inr, sym, ap, subst, ◌∙◌}
use Rattle.eds_host.specs.Hosts.{RunsHaveOneOutcome}
use Rattle.eds_host.specs.Plans.{system}
use Rattle.eds_host.specs.Runs.{unbegun}
use Rattle.eds_host.specs.Wires.{other_end}
use Rattle.eds_host.specs.declared.wiring.HostFail.{HostFail}
use Rattle.eds_host.specs.declared.wiring.Tie.{Tie}
use Rattle.eds_plan.specs.Lines.{Told}
use Rattle.eds_plan.specs.Outs.{Report}
use Rattle.eds_plan.specs.declared.component.ComponentPlan.{ComponentPlan}
use Rattle.eds_script.specs.Laws.{OneLine}
use Rattle.eds_script.specs.Scripts.{Plot, script_of}
use Rattle.eds_script.specs.declared.why.BadLine.{BadLine}
use Rattle.eds_types.specs.Rows.{Table}
use Rattle.eds_types.specs.Rules.{KeepsRules}
use Rattle.eds_cmd.specs.declared.status.Status.{Status}
use Rattle.eds_cmd.specs.declared.stop.Stop.{Stop}
use Rattle.eds_cmd.specs.Run.{AreEventLines, IsRun, IsRunnable, IsStormy, RunsOver, RunsPlot, RunsScript, all_events, end_text, last_of, wired}
use Rattle.eds_cmd.specs.Running.{happenings}
use Rattle.eds_cmd.specs.Stops.{status_of, storm}
use Rattle.eds_cmd.proofs.Printing.{plans_know_types}

module _ (one_outcome : RunsHaveOneOutcome) (one_line : OneLine) (t : Table) (plan : List ComponentPlan) (rules : KeepsRules t) (run : IsRunnable t plan) where
  one_text : (rs : List Report) (a b : List ℕ) → AreEventLines t plan rs a → AreEventLines t plan rs b → a ≡ b
  one_text [] a b h k = h ∙ sym k
  one_text (r ∷ rs) a b h k =
      let line : h.0 ≡ k.0 = one_line t plan r h.0 k.0 rules (plans_know_types t plan run.fits) h.2 k.2 in
      let rest : h.1 ≡ k.1 = one_text rs h.1 k.1 h.3 k.3 in
      h.4 ∙ ap (λ x. x ++ h.1) line ∙ ap (λ x. k.0 ++ x) rest ∙ sym k.4

  -- ---- one

  one_run : (ties : List Tie) (lines : List (ℕ × Told)) (s o : Status) (r l : List ℕ) → IsRun t plan ties lines s r → IsRun t plan ties lines o l → (s ≡ o) × (r ≡ l)
  one_run ties lines s o r l a b =
      let same = one_outcome t plan (other_end ties) (happenings lines) (unbegun (system t plan (other_end ties))) a.outs b.outs (Some a.world) (Some b.world) rules run.fits run.clear a.runs b.runs in
      let world : a.world ≡ b.world = let e = same.1 in cc in
      let events : a.events ≡ b.events = one_text (all_events b.outs) a.events b.events (subst (λ x. AreEventLines t plan (all_events x) a.events) same.0 a.told) b.told in
      (a.status_is ∙ sym b.status_is, a.report_is ∙ ap (λ x. x ++ end_text t plan a.world) events ∙ ap (λ w. b.events ++ end_text t plan w) world ∙ sym b.report_is)

  not_both : (ties : List Tie) (lines : List (ℕ × Told)) (s o : Status) (r l : List ℕ) → IsRun t plan ties lines s r → IsStormy t plan ties lines o l → ⊥
  not_both ties lines s o r l a b =
      let same = one_outcome t plan (other_end ties) (happenings lines) (unbegun (system t plan (other_end ties))) a.outs b.outs (Some a.world) None rules run.fits run.clear a.runs b.runs in
      let e = same.1 in cc

  one_storm : (ties : List Tie) (lines : List (ℕ × Told)) (s o : Status) (r l : List ℕ) → IsStormy t plan ties lines s r → IsStormy t plan ties lines o l → (s ≡ o) × (r ≡ l)
  one_storm ties lines s o r l a b =
      let same = one_outcome t plan (other_end ties) (happenings lines) (unbegun (system t plan (other_end ties))) a.outs b.outs None None rules run.fits run.clear a.runs b.runs in
      let events : a.events ≡ b.events = one_text (all_events b.outs) a.events b.events (subst (λ x. AreEventLines t plan (all_events x) a.events) same.0 a.told) b.told in
      let stop : storm a.events (last_of lines (length a.outs)) ≡ storm b.events (last_of lines (length b.outs)) = ap (λ x. storm x (last_of lines (length a.outs))) events ∙ ap (λ x. storm b.events (last_of lines (length x))) same.0 in
      (a.stop.status_is ∙ ap (λ (x : Stop). status_of x.cause) stop ∙ sym b.stop.status_is, a.stop.report_is ∙ ap (λ (x : Stop). x.report) stop ∙ sym b.stop.report_is)

  one_over : (ties : Result (List Tie) HostFail) (lines : List (ℕ × Told)) (s o : Status) (r l : List ℕ) → RunsOver t plan ties lines s r → RunsOver t plan ties lines o l → (s ≡ o) × (r ≡ l)
  one_over (Ok ties) lines s o r l (inl a) (inl b) = one_run ties lines s o r l a b
  one_over (Ok ties) lines s o r l (inl a) (inr b) = absurd (not_both ties lines s o r l a b)
  one_over (Ok ties) lines s o r l (inr a) (inl b) = absurd (not_both ties lines o s l r b a)
  one_over (Ok ties) lines s o r l (inr a) (inr b) = one_storm ties lines s o r l a b
  one_over (Err fail) lines s o r l a b = (a.status_is ∙ sym b.status_is, a.report_is ∙ sym b.report_is)

  one_plot : (p : Result Plot BadLine) (s o : Status) (r l : List ℕ) → RunsPlot t plan p s r → RunsPlot t plan p o l → (s ≡ o) × (r ≡ l)
  one_plot (Ok p) s o r l a b = one_over (wired plan p) p.lines s o r l a b
  one_plot (Err bad) s o r l a b = (a.status_is ∙ sym b.status_is, a.report_is ∙ sym b.report_is)

  -- running a script comes to one status and report
  pub one_way : (text : List ℕ) (s o : Status) (r l : List ℕ) → RunsScript t plan text s r → RunsScript t plan text o l → (s ≡ o) × (r ≡ l)
  one_way text s o r l a b = one_plot (script_of t plan text) s o r l a b
