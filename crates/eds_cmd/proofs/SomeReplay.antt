-- Replaying a session comes to something.
use Rattle.std.proofs.Common.{◌≡◌, ◌⊎◌, ℕ, ◌+◌, ◌-◌, ◌≤◌, zero, suc, List, [], ◌∷◌, ◌++◌, length, take, Option, Some, None, Result, Ok, Err, inl, inr, refl, ap, arith}
use Rattle.std.specs.List.{AllByRecursion}
use Rattle.eds_host.specs.Hosts.{reading}
use Rattle.eds_host.specs.Plans.{MayAllGoOut, MayGoOut, system}
use Rattle.eds_host.specs.Runs.{RestGoes, RunGoes, unbegun}
use Rattle.eds_host.specs.Systems.{System, World}
use Rattle.eds_host.specs.Wires.{other_end}
use Rattle.eds_host.specs.declared.wiring.HostFail.{HostFail}
use Rattle.eds_host.specs.declared.wiring.Tie.{Tie}
use Rattle.eds_plan.specs.Lines.{Told}
use Rattle.eds_plan.specs.Outs.{Report}
use Rattle.eds_plan.specs.declared.component.ComponentPlan.{ComponentPlan}
use Rattle.eds_replay.specs.Laws.{HasText, SomeOutcome}
use Rattle.eds_replay.specs.Differences.{AllAgree, IsFirstDifference}
use Rattle.eds_replay.specs.Sessions.{recorded_for, recordings, script_in}
use Rattle.eds_replay.specs.declared.differs.Differs.{Differs}
use Rattle.eds_replay.specs.declared.session.Recorded.{Recorded}
use Rattle.eds_script.specs.Scripts.{Plot, script_of}
use Rattle.eds_script.specs.declared.why.BadLine.{BadLine}
use Rattle.eds_types.specs.Rows.{Table}
use Rattle.eds_types.specs.Rules.{KeepsRules}
use Rattle.eds_cmd.specs.Replay.{Compares, LinesAgree, LinesDiffer, ReplaysOver, ReplaysPlot, Replays}
use Rattle.eds_cmd.specs.Reports.{agrees_line}
use Rattle.eds_cmd.specs.Run.{IsRunnable, all_events, last_of, wired}
use Rattle.eds_cmd.specs.Running.{happenings}
use Rattle.eds_cmd.specs.Stops.{bad_line, bad_wire, differing, status_of, storm}
use Rattle.eds_cmd.specs.declared.status.Status.{Status}
use Rattle.eds_cmd.specs.declared.status.Status.TheVariants as statuses
use Rattle.eds_cmd.specs.declared.stop.Stop.{Stop}
use Rattle.eds_cmd.proofs.EventTexts.{all_texts}
use Rattle.eds_cmd.proofs.Printing.{outs_may_be_printed, plans_know_types}
use Rattle.eds_cmd.proofs.Running.{all_printed}
use Rattle.eds_cmd.proofs.SomeRun.{RunLaws, script_goes}

-- ---- lists

first_all : {A : Type 0} (P : A → Type 0) (xs ys : List A) → AllByRecursion P (xs ++ ys) → AllByRecursion P xs
first_all P [] ys h = tt
first_all P (x ∷ xs) ys h = (h.0, first_all P xs ys h.1)

others_all : {A : Type 0} (P : A → Type 0) (xs ys : List A) → AllByRecursion P (xs ++ ys) → AllByRecursion P ys
others_all P [] ys h = h
others_all P (x ∷ xs) ys h = others_all P xs ys h.1

front_all : {A : Type 0} (P : A → Type 0) (n : ℕ) (xs : List A) → AllByRecursion P xs → AllByRecursion P (take n xs)
front_all P zero xs h = tt
front_all P (suc n) [] h = tt
front_all P (suc n) (x ∷ xs) h = (h.0, front_all P n xs h.1)

front_fits : {A B : Type 0} (n : ℕ) (xs : List A) (ys : List B) → length xs ≤ length ys → length (take n xs) ≤ length ys
front_fits zero xs ys le = omega arith
front_fits (suc n) [] ys le = omega arith
front_fits (suc n) (x ∷ xs) [] le = absurd (omega (arith, le))
front_fits (suc n) (x ∷ xs) (y ∷ ys) le = let rest = front_fits n xs ys (omega (arith, le)) in omega (arith, rest)

-- no more is handled than there are lines
few_outs : (t : Table) (plan : List ComponentPlan) (sys : System) (ls : List Told) (w : World) (outs : List (List Report)) (end : Option World) → RunGoes sys (reading t plan) ls w outs end → length outs ≤ length ls
few_outs t plan sys [] w outs end k = let none : length outs ≡ 0 = ap length k.0 in omega (arith, none)
few_outs t plan sys (l ∷ ls) w outs end k = go (λ v r. few_outs t plan sys ls v k.1 end r) k.0.end k.3
  where
    one : length outs ≡ suc (length k.1)
    one = ap length k.4

    go : ((v : World) → RunGoes sys (reading t plan) ls v k.1 end → length k.1 ≤ length ls) → (next : Option World) → RestGoes next k.1 end (λ v os. RunGoes sys (reading t plan) ls v os end) → length outs ≤ suc (length ls)
    go later None r = let none : length k.1 ≡ 0 = ap length r.0 in omega (arith, one, none)
    go later (Some v) r = let rest = later v r in omega (arith, one, rest)

module _ (laws : RunLaws) (some : SomeOutcome) (t : Table) (plan : List ComponentPlan) (rules : KeepsRules t) (run : IsRunnable t plan) where
  -- ---- lines

  abbrev Texts : List (List Report) → Type 0
  Texts outs = AllByRecursion (AllByRecursion (HasText t plan)) outs

  texts_of : (outs : List (List Report)) → MayAllGoOut t plan (all_events outs) → Texts outs
  texts_of [] h = tt
  texts_of (rs ∷ outs) h =
      let printed = all_printed outs_may_be_printed t plan rs (first_all (MayGoOut t plan) rs (all_events outs) h) in
      (all_texts t plan rs printed, texts_of outs (others_all (MayGoOut t plan) rs (all_events outs) h))

  -- the recordings of all lines agree, or of one don't
  abbrev Judges : List Recorded → List (ℕ × Told) → List (List Report) → Type 0
  Judges recorded lines outs = ((n : ℕ) × LinesAgree t plan recorded lines outs n) ⊎ ((d : Differs) × LinesDiffer t plan recorded lines outs d)

  some_judged : (recorded : List Recorded) (lines : List (ℕ × Told)) (outs : List (List Report)) → length outs ≤ length lines → Texts outs → Judges recorded lines outs
  some_judged recorded [] [] few h = inl (0, refl)
  some_judged recorded [] (rs ∷ outs) few h = absurd (omega (arith, few))
  some_judged recorded (l ∷ ls) [] few h = inl (0, refl)
  some_judged recorded (l ∷ ls) (rs ∷ outs) few h =
      go (some t plan l.0 (recorded_for l.0 recorded) rs rules (plans_know_types t plan run.fits) run.clear h.0) (some_judged recorded ls outs (omega (arith, few)) h.1)
    where
      go : ((n : ℕ) × AllAgree t plan (recorded_for l.0 recorded) rs n) ⊎ ((d : Differs) × IsFirstDifference t plan l.0 (recorded_for l.0 recorded) rs d) → Judges recorded ls outs → Judges recorded (l ∷ ls) (rs ∷ outs)
      go (inl a) (inl b) = inl (a.0 + b.0, (a.0, b.0, a.1, b.1, refl))
      go (inl a) (inr d) = inr (d.0, inr (a.0, a.1, d.1))
      go (inr d) rest = inr (d.0, inl d.1)

  -- ---- a replay

  -- a report says what is done, or there is a stop
  abbrev pub IsOfSome : (Status → List ℕ → Type 0) → Type 0
  IsOfSome Says = ((report : List ℕ) × Says statuses.Done report) ⊎ ((stop : Stop) × Says (status_of stop.cause) stop.report)

  some_compared : (recorded : List Recorded) (lines : List (ℕ × Told)) (outs : List (List Report)) (end : Option World) → length outs ≤ length lines → Texts outs → IsOfSome (Compares t plan recorded lines outs end)
  some_compared recorded lines outs (Some w) few h = go (some_judged recorded lines outs few h)
    where
      go : Judges recorded lines outs → IsOfSome (Compares t plan recorded lines outs (Some w))
      go (inl a) = inl (agrees_line (length (all_events outs)) a.0, inl (record { world = w; calm = refl; otherwise = a.0; agree = a.1; status_is = refl; report_is = refl }))
      go (inr d) = inr (differing d.0, inr (inl (record { difference = d.0; first = d.1; stop = record { status_is = refl; report_is = refl } })))
  some_compared recorded lines outs None few h =
      go (some_judged recorded lines (take (length outs - 1) outs) (front_fits (length outs - 1) outs lines few) (front_all (AllByRecursion (HasText t plan)) (length outs - 1) outs h))
    where
      go : Judges recorded lines (take (length outs - 1) outs) → IsOfSome (Compares t plan recorded lines outs None)
      go (inl a) = let stop = storm [] (last_of lines (length outs)) in
          inr (stop, inr (inr (record { stormy = refl; otherwise = a.0; agree = a.1; stop = record { status_is = refl; report_is = refl } })))
      go (inr d) = inr (differing d.0, inr (inl (record { difference = d.0; first = d.1; stop = record { status_is = refl; report_is = refl } })))

  -- the lines of a script are as many as what they have happen
  same_many : (lines : List (ℕ × Told)) → length (happenings lines) ≡ length lines
  same_many [] = refl
  same_many (l ∷ lines) = ap suc (same_many lines)

  some_over : (text : List ℕ) (p : Plot) (recorded : List Recorded) → script_of t plan text ≡ Ok p → (ties : Result (List Tie) HostFail) → wired plan p ≡ ties → IsOfSome (ReplaysOver t plan ties p.lines recorded)
  some_over text p recorded said (Err fail) e = inr (bad_wire fail, record { status_is = refl; report_is = refl })
  some_over text p recorded said (Ok ties) e =
      let r = script_goes laws t plan rules run text p ties said e in
      let few = few_outs t plan (system t plan (other_end ties)) (happenings p.lines) (unbegun (system t plan (other_end ties))) r.outs r.end r.goes in
      go r.outs r.end r.goes (some_compared recorded p.lines r.outs r.end (omega (arith, few, same_many p.lines)) (texts_of r.outs r.fit))
    where
      go : (outs : List (List Report)) (end : Option World) → RunGoes (system t plan (other_end ties)) (reading t plan) (happenings p.lines) (unbegun (system t plan (other_end ties))) outs end
          → IsOfSome (Compares t plan recorded p.lines outs end) → IsOfSome (ReplaysOver t plan (Ok ties) p.lines recorded)
      go outs end goes (inl k) = inl (k.0, record { outs = outs; end = end; runs = goes; compares = k.1 })
      go outs end goes (inr k) = inr (k.0, record { outs = outs; end = end; runs = goes; compares = k.1 })

  some_plot : (text : List ℕ) (recorded : List Recorded) (p : Result Plot BadLine) → script_of t plan text ≡ p → IsOfSome (ReplaysPlot t plan p recorded)
  some_plot text recorded (Ok p) e = some_over text p recorded e (wired plan p) refl
  some_plot text recorded (Err bad) e = inr (bad_line bad, record { status_is = refl; report_is = refl })

  -- replaying a session comes to some status and report
  pub some_replay : (session : List ℕ) → IsOfSome (Replays t plan session)
  some_replay session = some_plot (script_in session) (recordings session) (script_of t plan (script_in session)) refl
