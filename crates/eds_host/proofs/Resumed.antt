-- Runs that go on from where others ended.
use Rattle.std.proofs.Common.{◌≡◌, ℕ, List, [], ◌∷◌, ◌++◌, Option, Some, None, Result, Ok, Err, refl, sym, ap, subst, ◌∙◌}
use Rattle.eds_types.specs.PackedSizes.{SizesAreExact}
use Rattle.eds_types.specs.Rows.{Table}
use Rattle.eds_plan.specs.Lines.{Told, starts}
use Rattle.eds_plan.specs.Outs.{Report}
use Rattle.eds_plan.specs.declared.component.ComponentPlan.{ComponentPlan}
use Rattle.eds_plan.specs.declared.run.End.{End}
use Rattle.eds_host.specs.declared.wiring.Asked.{Asked}
use Rattle.eds_host.specs.declared.wiring.Tie.{Tie}
use Rattle.eds_host.specs.declared.wiring.WireWhy.{WireWhy}
use Rattle.eds_host.specs.Hosts.{MayAllGoOn, PlansReadOne, reading}
use Rattle.eds_host.specs.Laws.{ReadsOne}
use Rattle.eds_host.specs.Plans.{system}
use Rattle.eds_host.specs.Resuming.{EndsMayResume, JoinedRunsResume, MayResume, NameSameEnds, ResumedEndsMayResume, RunsTakeTheirTime, WiresTieAlike, resumed, time_of_lines}
use Rattle.eds_host.specs.Runs.{Course, Reading, RestGoes, RunGoes, unbegun}
use Rattle.eds_host.specs.Systems.{System, World}
use Rattle.eds_host.specs.Wires.{other_end, tie_next, tie_of, ties_behind}
use Rattle.eds_host.specs.Worlds.{IsRunnable}
use Rattle.eds_host.proofs.Clock.{lines_take_their_time}
use Rattle.eds_host.proofs.Joined.{joined, one_course}
use Rattle.eds_host.proofs.Pausing.{may_resume, resumed_ready, run_ready, start_ready}

some_is : (u v : World) → Some u ≡ Some v → u ≡ v
some_is u v e = cc

-- the run of lines joined, where the first ones come to no storm
module _ (sys : System) (reading : Reading) (reads : ReadsOne reading) where
  abbrev Rest : List Told → World → List (List Report) → List (List Report) → Option World → Type 0
  Rest two v outs all end = (more : List (List Report)) × RunGoes sys reading two v more end × (all ≡ outs ++ more)

  split : (one two : List Told) (w v : World) (outs all : List (List Report)) (end : Option World) → RunGoes sys reading one w outs (Some v) → RunGoes sys reading (one ++ two) w all end → Rest two v outs all end
  split [] two w v outs all end h k =
      let same : w ≡ v = some_is w v (sym h.1) in
      (all, subst (λ (u : World). RunGoes sys reading two u all end) same k, ap (λ q. q ++ all) (sym h.0))
  split (l ∷ ls) two w v outs all end h k =
      let same : k.0 ≡ h.0 = one_course sys reading l w k.0 h.0 reads k.2 h.2 in
      let r = go (λ u x y. split ls two u v h.1 k.1 end x y) h.0.end h.3 (subst (λ (c : Course). RestGoes c.end k.1 end (λ u os. RunGoes sys reading (ls ++ two) u os end)) same k.3) in
      (r.0, r.1, k.4 ∙ ap (λ (c : Course). c.outs ∷ k.1) same ∙ ap (λ q. h.0.outs ∷ q) r.2 ∙ ap (λ q. q ++ r.0) (sym h.4))
    where
      go : ((u : World) → RunGoes sys reading ls u h.1 (Some v) → RunGoes sys reading (ls ++ two) u k.1 end → Rest two v h.1 k.1 end)
          → (o : Option World) → RestGoes o h.1 (Some v) (λ u os. RunGoes sys reading ls u os (Some v)) → RestGoes o k.1 end (λ u os. RunGoes sys reading (ls ++ two) u os end) → Rest two v h.1 k.1 end
      go on None x y = absurd (let e = x.1 in cc)
      go on (Some u) x y = on u x y

module _ (exact : SizesAreExact) where
  pub ends_may_resume : EndsMayResume
  ends_may_resume t plan ties ls outs v run m g = go g.0.end refl g.3
    where
      go : (o : Option World) → g.0.end ≡ o → RestGoes o g.1 (Some v) (λ u os. RunGoes (system t plan (other_end ties)) (reading t plan) ls u os (Some v)) → (v ≡ resumed v.now v.states) × MayResume t plan v.now v.states
      go None e r = absurd (let f = r.1 in cc)
      go (Some u) e r =
          let k = run_ready t plan (other_end ties) run exact ties ls 0 u v g.1 m (start_ready t plan (other_end ties) run exact (unbegun (system t plan (other_end ties))) u g.0 g.2 e) r in
          may_resume t plan (other_end ties) run k.0 v k.1

  pub resumed_ends_may_resume : ResumedEndsMayResume
  resumed_ends_may_resume t plan ties now states ls outs v run may m g =
      let k = run_ready t plan (other_end ties) run exact ties ls now (resumed now states) v outs m (resumed_ready t plan (other_end ties) run now states may) g in
      may_resume t plan (other_end ties) run k.0 v k.1

  pub joined_runs_resume : PlansReadOne → JoinedRunsResume
  joined_runs_resume one_reading t plan ties one two outs v run m g =
      let sys : System = system t plan (other_end ties) in
      let here : v ≡ resumed v.now v.states = (ends_may_resume t plan ties one outs v run m g).0 in
      let reads : ReadsOne (reading t plan) = one_reading t plan run.rules run.plan_fits run.clear in (
        λ more end h. joined sys (reading t plan) (starts ∷ one) two (unbegun sys) v outs more end g (subst (λ (u : World). RunGoes sys (reading t plan) two u more end) (sym here) h),
        λ all end h. let r = split sys (reading t plan) reads (starts ∷ one) two (unbegun sys) v outs all end g h in
            (r.0, subst (λ (u : World). RunGoes sys (reading t plan) two u r.0 end) here r.1, r.2),
      )

-- ---- wires

module _ (plan : List ComponentPlan) where
  alike : (acc : List Tie) (one two : List Asked) (ts : List Tie) → NameSameEnds one two → ties_behind plan acc one ≡ Ok ts → ties_behind plan acc two ≡ Ok ts
  alike acc [] [] ts h e = e
  alike acc [] (b ∷ bs) ts h e = absurd h
  alike acc (a ∷ as') [] ts h e = absurd h
  alike acc (a ∷ as') (b ∷ bs) ts h e =
      ap (λ l. tie_next b.line (tie_of plan acc l b.upper) (λ x. ties_behind plan (acc ++ x ∷ []) bs)) (sym h.0)
      ∙ ap (λ u. tie_next b.line (tie_of plan acc a.lower u) (λ x. ties_behind plan (acc ++ x ∷ []) bs)) (sym h.1)
      ∙ go (tie_of plan acc a.lower a.upper) e (λ x f. alike (acc ++ x ∷ []) as' bs ts h.2 f)
    where
      go : (r : Result Tie WireWhy) → tie_next a.line r (λ x. ties_behind plan (acc ++ x ∷ []) as') ≡ Ok ts → ((x : Tie) → ties_behind plan (acc ++ x ∷ []) as' ≡ Ok ts → ties_behind plan (acc ++ x ∷ []) bs ≡ Ok ts)
          → tie_next b.line r (λ x. ties_behind plan (acc ++ x ∷ []) bs) ≡ Ok ts
      go (Ok x) f on = on x f
      go (Err w) f on = absurd cc

pub wires_tie_alike : WiresTieAlike
wires_tie_alike plan one two ts h e = alike plan [] one two ts h e

-- ---- time

pub runs_take_their_time : RunsTakeTheirTime
runs_take_their_time t plan tied [] w v outs g = ap (λ (u : World). u.now) (some_is v w (g.1))
runs_take_their_time t plan tied (l ∷ ls) w v outs g = go g.0.end refl g.3 (λ u r. runs_take_their_time t plan tied ls u v g.1 r)
  where
    go : (o : Option World) → g.0.end ≡ o → RestGoes o g.1 (Some v) (λ u os. RunGoes (system t plan tied) (reading t plan) ls u os (Some v)) → ((u : World) → RunGoes (system t plan tied) (reading t plan) ls u g.1 (Some v) → v.now ≡ time_of_lines u.now ls)
        → v.now ≡ time_of_lines w.now (l ∷ ls)
    go None e r on = absurd (let f = r.1 in cc)
    go (Some u) e r on = on u r ∙ ap (λ n. time_of_lines n ls) (lines_take_their_time t plan tied l w u g.0 g.2 e)
