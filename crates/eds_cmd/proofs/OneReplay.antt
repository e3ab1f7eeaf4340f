-- Replaying a session comes to one thing alone.
use Rattle.std.proofs.Common.{◌≡◌, ℕ, List, [], ◌∷◌, length, Option, Some, None, Result, Ok, Err, inl, inr, refl, sym, ap, subst, ◌∙◌, arith}
use Rattle.eds_host.specs.Hosts.{RunsHaveOneOutcome}
use Rattle.eds_host.specs.Plans.{system}
use Rattle.eds_host.specs.Runs.{unbegun}
use Rattle.eds_host.specs.Systems.{World}
use Rattle.eds_host.specs.Wires.{other_end}
use Rattle.eds_host.specs.declared.wiring.HostFail.{HostFail}
use Rattle.eds_host.specs.declared.wiring.Tie.{Tie}
use Rattle.eds_plan.specs.Lines.{Told}
use Rattle.eds_plan.specs.Outs.{Report}
use Rattle.eds_plan.specs.declared.component.ComponentPlan.{ComponentPlan}
use Rattle.eds_replay.specs.Laws.{AgreeOrDiffer, HasOneOutcome, OneOutcome}
use Rattle.eds_replay.specs.Sessions.{recorded_for, recordings, script_in}
use Rattle.eds_replay.specs.declared.differs.Differs.{Differs}
use Rattle.eds_replay.specs.declared.session.Recorded.{Recorded}
use Rattle.eds_script.specs.Scripts.{Plot, script_of}
use Rattle.eds_script.specs.declared.why.BadLine.{BadLine}
use Rattle.eds_types.specs.Rows.{Table}
use Rattle.eds_types.specs.Rules.{KeepsRules}
use Rattle.eds_cmd.specs.Replay.{Compares, IsOtherwise, IsReplayed, IsStormyReplay, LinesAgree, LinesDiffer, ReplaysLines, ReplaysOver, ReplaysPlot, Replays, outs_done}
use Rattle.eds_cmd.specs.Reports.{agrees_line}
use Rattle.eds_cmd.specs.Run.{IsRunnable, all_events, last_of, wired}
use Rattle.eds_cmd.specs.Running.{happenings}
use Rattle.eds_cmd.specs.Stops.{IsStop, differing, storm}
use Rattle.eds_cmd.specs.declared.status.Status.{Status}
use Rattle.eds_cmd.proofs.Printing.{plans_know_types}

-- two stops that are the same
one_stop : (a b : _) → a ≡ b → (s o : Status) (r l : List ℕ) → IsStop a s r → IsStop b o l → (s ≡ o) × (r ≡ l)
one_stop a b e s o r l h k = let same : IsStop b s r = subst (λ x. IsStop x s r) e h in (same.status_is ∙ sym k.status_is, same.report_is ∙ sym k.report_is)

module _ (one_outcome : RunsHaveOneOutcome) (apart : AgreeOrDiffer) (one : OneOutcome) (t : Table) (plan : List ComponentPlan) (rules : KeepsRules t) (run : IsRunnable t plan) where
  outcome : (l : ℕ × Told) (recorded : List Recorded) (rs : List Report) → HasOneOutcome t plan l.0 (recorded_for l.0 recorded) rs
  outcome l recorded rs = one t plan l.0 (recorded_for l.0 recorded) rs rules (plans_know_types t plan run.fits)

  -- ---- lines

  one_count : (recorded : List Recorded) (lines : List (ℕ × Told)) (outs : List (List Report)) (n k : ℕ) → LinesAgree t plan recorded lines outs n → LinesAgree t plan recorded lines outs k → n ≡ k
  one_count recorded [] [] n k h j = h ∙ sym j
  one_count recorded [] (rs ∷ outs) n k h j = absurd h
  one_count recorded (l ∷ ls) [] n k h j = h ∙ sym j
  one_count recorded (l ∷ ls) (rs ∷ outs) n k h j =
      let first = (outcome l recorded rs).one_count h.0 j.0 h.2 j.2 in
      let others = one_count recorded ls outs h.1 j.1 h.3 j.3 in
      omega (arith, first, others, h.4, j.4)

  one_difference : (recorded : List Recorded) (lines : List (ℕ × Told)) (outs : List (List Report)) (d e : Differs) → LinesDiffer t plan recorded lines outs d → LinesDiffer t plan recorded lines outs e → d ≡ e
  one_difference recorded [] outs d e h k = absurd h
  one_difference recorded (l ∷ ls) [] d e h k = absurd h
  one_difference recorded (l ∷ ls) (rs ∷ outs) d e (inl h) (inl k) = (outcome l recorded rs).one_difference d e h k
  one_difference recorded (l ∷ ls) (rs ∷ outs) d e (inl h) (inr k) = absurd (apart t plan l.0 k.0 (recorded_for l.0 recorded) rs d k.1 h)
  one_difference recorded (l ∷ ls) (rs ∷ outs) d e (inr h) (inl k) = absurd (apart t plan l.0 h.0 (recorded_for l.0 recorded) rs e h.1 k)
  one_difference recorded (l ∷ ls) (rs ∷ outs) d e (inr h) (inr k) = one_difference recorded ls outs d e h.2 k.2

  not_both : (recorded : List Recorded) (lines : List (ℕ × Told)) (outs : List (List Report)) (n : ℕ) (d : Differs) → LinesAgree t plan recorded lines outs n → LinesDiffer t plan recorded lines outs d → ⊥
  not_both recorded [] outs n d h k = k
  not_both recorded (l ∷ ls) [] n d h k = k
  not_both recorded (l ∷ ls) (rs ∷ outs) n d h (inl k) = apart t plan l.0 h.0 (recorded_for l.0 recorded) rs d h.2 k
  not_both recorded (l ∷ ls) (rs ∷ outs) n d h (inr k) = not_both recorded ls outs h.1 d h.3 k.2

  -- ---- a replay

  module _ (recorded : List Recorded) (lines : List (ℕ × Told)) (outs : List (List Report)) (end : Option World) where
    -- where all is done, all is compared
    all_done : (w : World) (n : ℕ) → end ≡ Some w → LinesAgree t plan recorded lines outs n → LinesAgree t plan recorded lines (outs_done outs end) n
    all_done w n e h = subst (λ o. LinesAgree t plan recorded lines (outs_done outs o) n) (sym e) h

    not_otherwise : (s o : Status) (r l : List ℕ) → IsReplayed t plan recorded lines outs end s r → IsOtherwise t plan recorded lines outs end o l → ⊥
    not_otherwise s o r l a b = not_both recorded lines (outs_done outs end) a.otherwise b.difference (all_done a.world a.otherwise a.calm a.agree) b.first

    not_stormy : (s o : Status) (r l : List ℕ) → IsReplayed t plan recorded lines outs end s r → IsStormyReplay t plan recorded lines outs end o l → ⊥
    not_stormy s o r l a b = let wrong : None ≡ Some a.world = sym b.stormy ∙ a.calm in cc wrong

    not_later : (s o : Status) (r l : List ℕ) → IsOtherwise t plan recorded lines outs end s r → IsStormyReplay t plan recorded lines outs end o l → ⊥
    not_later s o r l a b = not_both recorded lines (outs_done outs end) b.otherwise a.difference b.agree a.first

    one_of_compared : (s o : Status) (r l : List ℕ) → Compares t plan recorded lines outs end s r → Compares t plan recorded lines outs end o l → (s ≡ o) × (r ≡ l)
    one_of_compared s o r l (inl a) (inl b) =
        let count = one_count recorded lines outs a.otherwise b.otherwise a.agree b.agree in
        (a.status_is ∙ sym b.status_is, a.report_is ∙ ap (agrees_line (length (all_events outs))) count ∙ sym b.report_is)
    one_of_compared s o r l (inl a) (inr (inl b)) = absurd (not_otherwise s o r l a b)
    one_of_compared s o r l (inl a) (inr (inr b)) = absurd (not_stormy s o r l a b)
    one_of_compared s o r l (inr (inl a)) (inl b) = absurd (not_otherwise o s l r b a)
    one_of_compared s o r l (inr (inl a)) (inr (inl b)) =
        one_stop (differing a.difference) (differing b.difference) (ap differing (one_difference recorded lines (outs_done outs end) a.difference b.difference a.first b.first)) s o r l a.stop b.stop
    one_of_compared s o r l (inr (inl a)) (inr (inr b)) = absurd (not_later s o r l a b)
    one_of_compared s o r l (inr (inr a)) (inl b) = absurd (not_stormy o s l r b a)
    one_of_compared s o r l (inr (inr a)) (inr (inl b)) = absurd (not_later o s l r b a)
    one_of_compared s o r l (inr (inr a)) (inr (inr b)) = one_stop (storm [] (last_of lines (length outs))) (storm [] (last_of lines (length outs))) refl s o r l a.stop b.stop

  one_of_lines : (ties : List Tie) (lines : List (ℕ × Told)) (recorded : List Recorded) (s o : Status) (r l : List ℕ) → ReplaysLines t plan ties lines recorded s r → ReplaysLines t plan ties lines recorded o l → (s ≡ o) × (r ≡ l)
  one_of_lines ties lines recorded s o r l a b =
      let same = one_outcome t plan (other_end ties) (happenings lines) (unbegun (system t plan (other_end ties))) a.outs b.outs a.end b.end rules run.fits run.clear a.runs b.runs in
      one_of_compared recorded lines b.outs b.end s o r l
      (subst (λ e. Compares t plan recorded lines b.outs e s r) same.1 (subst (λ os. Compares t plan recorded lines os a.end s r) same.0 a.compares)) b.compares

  one_of_over : (ties : Result (List Tie) HostFail) (lines : List (ℕ × Told)) (recorded : List Recorded) (s o : Status) (r l : List ℕ) → ReplaysOver t plan ties lines recorded s r → ReplaysOver t plan ties lines recorded o l → (s ≡ o) × (r ≡ l)
  one_of_over (Ok ties) lines recorded s o r l a b = one_of_lines ties lines recorded s o r l a b
  one_of_over (Err fail) lines recorded s o r l a b = (a.status_is ∙ sym b.status_is, a.report_is ∙ sym b.report_is)

  one_of_plot : (p : Result Plot BadLine) (recorded : List Recorded) (s o : Status) (r l : List ℕ) → ReplaysPlot t plan p recorded s r → ReplaysPlot t plan p recorded o l → (s ≡ o) × (r ≡ l)
  one_of_plot (Ok p) recorded s o r l a b = one_of_over (wired plan p) p.lines recorded s o r l a b
  one_of_plot (Err bad) recorded s o r l a b = (a.status_is ∙ sym b.status_is, a.report_is ∙ sym b.report_is)

  -- replaying a session comes to one status and report
  pub one_replay : (session : List ℕ) (s o : Status) (r l : List ℕ) → Replays t plan session s r → Replays t plan session o l → (s ≡ o) × (r ≡ l)
  one_replay session s o r l a b = one_of_plot (script_of t plan (script_in session)) (recordings session) s o r l a b
