-- Where a line has ended without a storm nothing is to be delivered, and each machine waits for later moments.
use Rattle.std.proofs.Common.{◌≡◌, ◌≤◌, ◌<◌, ◌+◌, ◌^◌, ℕ, zero, suc, List, [], ◌∷◌, ◌++◌, length, length-append, Option, Some, None, slice_get, refl, sym, ap, subst, ◌∙◌, arith, inl, inr}
use Rattle.std.specs.Prelude.{IfSome, Result, Ok, Err, slice_set, unwrap_or, ◌⊎◌}
use Rattle.std.specs.List.{AllByRecursion}
use Rattle.eds_base.specs.declared.fault.Fault.{Fault}
use Rattle.eds_types.specs.PackedSizes.{SizesAreExact, packs}
use Rattle.eds_types.specs.Plain.{Plain}
use Rattle.eds_types.specs.Rows.{Table}
use Rattle.eds_plan.specs.Fitting.{ComponentFits}
use Rattle.eds_plan.specs.Lines.{Told, starts, passes, framed}
use Rattle.eds_plan.specs.Lines as lines
use Rattle.eds_plan.specs.Outs.{Report, Signal}
use Rattle.eds_plan.specs.Plans.{component_at}
use Rattle.eds_plan.specs.States.{StateNow}
use Rattle.eds_plan.specs.declared.activity.Op.TheVariants as op
use Rattle.eds_plan.specs.declared.component.ComponentPlan.{ComponentPlan}
use Rattle.eds_plan.specs.declared.run.End.{End}
use Rattle.eds_act.specs.Does.{Conforms}
use Rattle.eds_machine.specs.Conditions.{AreTimely, HasStates}
use Rattle.eds_machine.proofs.Keeping.{fires_keep, receives_keep, starts_keep}
use Rattle.eds_machine.proofs.MachineFits.{machines_fit}
use Rattle.eds_machine.proofs.Punctual.{starts_are_punctual}
use Rattle.eds_host.specs.declared.due.Due.{Due}
use Rattle.eds_host.specs.declared.wiring.Tie.{Tie}
use Rattle.eds_host.specs.Hosts.{MayAllGoOn, MayGoOn, reading}
use Rattle.eds_host.specs.Laws.{IsPunctual, NotBefore, WaitFrom}
use Rattle.eds_host.specs.Machines.{IsStateOf, at_event, reacted, started, waits_of}
use Rattle.eds_host.specs.Plans.{system}
use Rattle.eds_host.specs.Resuming.{MayResume, resumed}
use Rattle.eds_host.specs.Runs.{Chain, Course, LineGoes, RestGoes, RunGoes, all_start, begun, comes, follows, frame_goes, go_on, happening, most, nothing, time_after, time_passes}
use Rattle.eds_host.specs.Settings.{bound}
use Rattle.eds_host.specs.Systems.{System, World, Happening, Coming, arrival, moment, arrives, fires, first_due, has_come, next, next_by, no_state, sent_at, settles}
use Rattle.eds_host.specs.Worlds.{IsRunnable, IsSound, MayComeBy}
use Rattle.eds_host.proofs.Adapted.{timely_later, waits_after}
use Rattle.eds_host.proofs.Beginnings.{last_or}
use Rattle.eds_host.proofs.Clock.{lines_take_their_time}
use Rattle.eds_host.proofs.Courses.{course_is, course_law}
use Rattle.eds_host.proofs.Moments.{ComesBy, first_late, none_before}
use Rattle.eds_host.proofs.PunctualComponents.{components_are_punctual}
use Rattle.eds_host.proofs.Sounding.{lines_keep_sound}
use Rattle.eds_host.proofs.Ticks.{ended, none_waits}
use Rattle.eds_host.proofs.Times as times
use Rattle.eds_host.proofs.Times.{come, come_by, none_is_late, set_or}

-- ---- machines

-- each machine of each component is in one of its states, at such times
abbrev Timely : List ComponentPlan → ℕ → List StateNow → Type 0
Timely plan now xs = (i : ℕ) (s : StateNow) → slice_get xs i ≡ Some s → AreTimely now (component_at plan i).machines s.machines

own_states : (t : Table) (plan : List ComponentPlan) (comp : ℕ) → AllByRecursion (ComponentFits t (Conforms t)) plan → AllByRecursion HasStates (component_at plan comp).machines
own_states t [] comp h = tt
own_states t (c ∷ plan) zero h = (machines_fit t c h.0).states
own_states t (c ∷ plan) (suc comp) h = own_states t plan comp h.1

bound_late : (until : Option ℕ) (now : ℕ) → bound until now ≤ now + 1
bound_late None now = omega arith
bound_late (Some u) now = omega arith

not_before : (b c : ℕ) (o : Option (ℕ × ℕ)) → c ≤ b → NotBefore b o → NotBefore c o
not_before b c None le h = tt
not_before b c (Some d) le h = omega (arith, le, h)

some_is : (u v : World) → Some u ≡ Some v → u ≡ v
some_is u v e = cc

module _ (t : Table) (plan : List ComponentPlan) (tied : End → Option End) (run : IsRunnable t plan tied) where
  abbrev sys : System
  sys = system t plan tied

  punctual : IsPunctual sys
  punctual = components_are_punctual t plan tied

  reacted_timely : (comp now : ℕ) (e : Coming) (s : StateNow) → AreTimely now (component_at plan comp).machines s.machines → AreTimely now (component_at plan comp).machines (reacted t plan comp e now s).state.machines
  unfolding reacted
  reacted_timely comp now (arrival p) s h =
      receives_keep (packs t) t (component_at plan comp) now p.end.face p.member p.op p.arguments (at_event comp s) (own_states t plan comp run.plan_fits.components) h
  reacted_timely comp now (moment i) s h = fires_keep (packs t) t (component_at plan comp) now i (at_event comp s) (own_states t plan comp run.plan_fits.components) h

  set_timely : (comp now : ℕ) (e : Coming) (xs : List StateNow) → Timely plan now xs → Timely plan now (slice_set xs comp (reacted t plan comp e now (unwrap_or (slice_get xs comp) no_state)).state)
  set_timely comp now e xs h i s g = elim (set_or xs comp i _ s g) [
    | inl q ↦ subst (λ n. AreTimely now (component_at plan n).machines s.machines) (sym q.0) (subst (λ (y : StateNow). AreTimely now (component_at plan comp).machines y.machines) q.1 (here (slice_get xs comp) q.2 q.3 refl))
    | inr q ↦ h i s q
  ]
    where
      here : (o : Option StateNow) (y : StateNow) → o ≡ Some y → slice_get xs comp ≡ o → AreTimely now (component_at plan comp).machines (reacted t plan comp e now (unwrap_or o no_state)).state.machines
      here (Some x) y q p = reacted_timely comp now e x (h comp x p)
      here None y q p = absurd cc

  -- ---- one happening

  -- in the course of a line: times are such, no moment was passed over, and time isn't beyond that of the line
  pub record Held (until : Option ℕ) (w : World) : Type 0 where
    pub timely : Timely plan w.now w.states
    pub waits : WaitFrom sys (bound until w.now) w.states
    pub by : IfSome until (λ u. w.now ≤ u)

  fired : (until : Option ℕ) (d : Option Due) (w : World) (h : Happening) → has_come until (first_due sys 0 w.states) ≡ d → Held until w → fires sys w d ≡ Some h → Held until h.world
  unfolding settles
  fired until None w h c k e = absurd cc
  fired None (Some x) w h c k e = absurd cc
  fired (Some u) (Some x) w h c k e =
      let first : first_due sys 0 w.states ≡ Some x = come (Some u) (first_due sys 0 w.states) x c in
      let late : w.now ≤ x.moment = subst (ComesBy w.now) first (first_late sys w.now w.states k.waits) in
      let all : WaitFrom sys x.moment w.states = none_before sys x.moment w.states (subst (ComesBy x.moment) (sym first) (omega arith)) in
      let same : arrives sys x.comp (moment x.machine) (record w { now = x.moment }) ≡ h = cc in
      subst (λ (g : Happening). Held (Some u) g.world) same (record {
        timely = set_timely x.comp x.moment (moment x.machine) w.states (λ i s g. timely_later w.now x.moment (component_at plan i).machines s.machines late (k.timely i s g));
        waits = times.reacted sys punctual x.comp (moment x.machine) x.moment x.moment w.states (omega arith) all;
        by = come_by (Some u) (first_due sys 0 w.states) x c;
      })

  delivered : (until : Option ℕ) (p : Signal) (w : World) → Held until w → Held until (arrives sys p.end.comp.0 (arrival p) w).world
  unfolding settles
  delivered until p w k = record {
    timely = set_timely p.end.comp.0 w.now (arrival p) w.states k.timely;
    waits = times.reacted sys punctual p.end.comp.0 (arrival p) (bound until w.now) w.now w.states (bound_late until w.now) k.waits;
    by = k.by;
  }

  step : (until : Option ℕ) (w : World) (h : Happening) → Held until w → next sys until w ≡ Some h → Held until h.world
  unfolding next
  step until w h k e = go w.queue e
    where
      go : (q : List Signal) → next_by sys until w q ≡ Some h → Held until h.world
      go [] e = fired until (has_come until (first_due sys 0 w.states)) w h refl k e
      go (s ∷ ss) e =
          let same : arrives sys s.end.comp.0 (arrival s) (record w { queue = ss }) ≡ h = cc in
          subst (λ (g : Happening). Held until g.world) same (delivered until s (record w { queue = ss }) (record { timely = k.timely; waits = k.waits; by = k.by }))

  along : (until : Option ℕ) (hs : List Happening) (w v : World) → Held until w → Chain sys until w hs v → Held until v
  along until [] w v k e = subst (Held until) (sym e) k
  along until (h ∷ hs) w v k c = along until hs h.world v (step until w h k c.0) c.1

  went : (left : ℕ) (until : Option ℕ) (w v : World) → (go_on sys left until w).end ≡ Some v → Held until w → Held until v × (next sys until v ≡ None)
  went left until w v e k = elim (course_is sys left until w) [
    | inl r ↦
        let is = (course_law sys left until w r.0 r.1 r.2).0 r.3 in
        subst (λ (u : World). Held until u × (next sys until u ≡ None)) (some_is r.0 v (sym (ap (λ (c : Course). c.end) is) ∙ e)) (along until r.2 w r.0 k r.3.chain, r.3.last)
    | inr r ↦ absurd (let f = sym (ap (λ (c : Course). c.end) ((course_law sys left until w r.0 r.1 r.2).1 r.3)) ∙ e in cc)
  ]

  -- ---- lines

  -- nothing is to be delivered, and moments to come are later than now
  pub record Paused (w : World) : Type 0 where
    pub idle : w.queue ≡ []
    pub held : Held None w

  followed : (h : Happening) (v : World) → Held None h.world → (follows sys h).end ≡ Some v → Paused v
  followed h v k e = let r = went most None h.world v e k in record { idle = none_waits sys None v r.1; held = r.0 }

  passed : (n : ℕ) (w v : World) → Paused w → (time_passes sys n w).end ≡ Some v → Paused v
  passed n w v k e =
      let u : ℕ = w.now + n in
      let z = ended sys u (go_on sys most (Some u) w) v e in
      let before : Held (Some u) w = record { timely = k.held.timely; waits = λ i s g. not_before (w.now + 1) w.now (waits_of plan i s) (omega arith) (k.held.waits i s g); by = omega arith } in
      let r = went most (Some u) w z.0 z.1 before in
      let late : WaitFrom sys (u + 1) z.0.states = none_is_late sys u z.0 r.1 in
      subst Paused (sym z.2) (record {
        idle = none_waits sys (Some u) z.0 r.1;
        held = record { timely = λ i s g. timely_later z.0.now u (component_at plan i).machines s.machines r.0.by (r.0.timely i s g); waits = late; by = tt };
      })

  -- components that start
  record Begun (n : ℕ) (h : Happening) : Type 0 where
    so_far : length h.world.states ≡ n
    at_first : h.world.now ≡ 0
    timely : Timely plan 0 h.world.states
    waits : WaitFrom sys 1 h.world.states

  started_timely : (comp : ℕ) → AreTimely 0 (component_at plan comp).machines (started t plan comp).state.machines
  unfolding started
  started_timely comp = starts_keep (packs t) t (component_at plan comp) comp [] (own_states t plan comp run.plan_fits.components)

  started_waits : (comp : ℕ) → NotBefore 1 (waits_of plan comp (started t plan comp).state)
  unfolding started
  started_waits comp = waits_after 1 plan comp (started t plan comp).state (starts_are_punctual (packs t) t (component_at plan comp) comp)

  one_begun : (comp : ℕ) (h : Happening) → Begun comp h → Begun (comp + 1) (begun sys comp (started t plan comp) h)
  one_begun comp h k =
      let s : StateNow = (started t plan comp).state in
      record {
        so_far = length-append h.world.states (s ∷ []) ∙ ap (λ n. n + 1) k.so_far;
        at_first = k.at_first;
        timely = λ i x e. elim (last_or h.world.states i s x e) [
          | inl q ↦ subst (λ (y : StateNow). AreTimely 0 (component_at plan i).machines y.machines) q.1 (subst (λ n. AreTimely 0 (component_at plan n).machines s.machines) (sym (q.0 ∙ k.so_far)) (started_timely comp))
          | inr q ↦ k.timely i x q
        ];
        waits = λ i x e. elim (last_or h.world.states i s x e) [
          | inl q ↦ subst (λ (y : StateNow). NotBefore 1 (waits_of plan i y)) q.1 (subst (λ n. NotBefore 1 (waits_of plan n s)) (sym (q.0 ∙ k.so_far)) (started_waits comp))
          | inr q ↦ k.waits i x q
        ];
      }

  all_begun : (more comp : ℕ) (h : Happening) → Begun comp h → Begun (comp + more) (all_start sys comp more h)
  all_begun zero comp h k = subst (λ n. Begun n h) (omega arith) k
  all_begun (suc more) comp h k =
      let sums : (comp + 1) + more ≡ comp + suc more = omega arith in
      subst (λ n. Begun n (all_start sys (comp + 1) more (begun sys comp (started t plan comp) h))) sums (all_begun more (comp + 1) (begun sys comp (started t plan comp) h) (one_begun comp h k))

  start_held : Held None (all_start sys 0 (length plan) (happening nothing [])).world
  start_held =
      let h : Happening = all_start sys 0 (length plan) (happening nothing []) in
      let k = all_begun (length plan) 0 (happening nothing []) (record { so_far = refl; at_first = refl; timely = λ i s e. absurd cc; waits = λ i s e. absurd cc }) in
      record { timely = subst (λ n. Timely plan n h.world.states) (sym k.at_first) k.timely; waits = subst (λ n. WaitFrom sys (n + 1) h.world.states) (sym k.at_first) k.waits; by = tt }

  framed_pauses : (comp face member : ℕ) (w v : World) (r : Result Plain Fault) → Paused w → (frame_goes sys ((reading t plan).way comp face) comp face member r w).end ≡ Some v → Paused v
  framed_pauses comp face member w v (Ok x) k e =
      let p : Signal = sent_at comp face member ((reading t plan).way comp face) op.Command (x ∷ []) in
      followed (comes sys p w) v (delivered None p w k.held) e
  framed_pauses comp face member w v (Err g) k e = subst Paused (some_is w v e) k

  start_pauses : (w v : World) (c : Course) → LineGoes sys (reading t plan) starts w c → c.end ≡ Some v → Paused v
  start_pauses w v c g e = followed (all_start sys 0 (length plan) (happening nothing [])) v start_held (sym (ap (λ (d : Course). d.end) g) ∙ e)

  pub line_pauses : (l : Told) (w v : World) (c : Course) → Paused w → LineGoes sys (reading t plan) l w c → c.end ≡ Some v → Paused v
  line_pauses starts w v c k g e = start_pauses w v c g e
  line_pauses (passes n) w v c k g e = passed n w v k (sym (ap (λ (d : Course). d.end) g) ∙ e)
  line_pauses (lines.arrives comp face member way o vs) w v c k g e =
      let p : Signal = sent_at comp face member way o vs in
      followed (comes sys p w) v (delivered None p w k.held) (sym (ap (λ (d : Course). d.end) g) ∙ e)
  line_pauses (framed comp face member octets) w v c k g e = framed_pauses comp face member w v g.0 k (sym (ap (λ (d : Course). d.end) g.2) ∙ e)

  -- ---- runs

  -- a world at rest at a time
  pub record Ready (now : ℕ) (w : World) : Type 0 where
    pub sound : IsSound t plan w
    pub paused : Paused w
    pub at : w.now ≡ now
    pub early : now < 2 ^ 63

  module _ (exact : SizesAreExact) where
    sound_after : (l : Told) (w v : World) (c : Course) → MayComeBy t plan l w → LineGoes sys (reading t plan) l w c → c.end ≡ Some v → IsSound t plan v
    sound_after l w v c m g e = subst (λ (o : Option World). IfSome o (IsSound t plan)) e (lines_keep_sound exact t plan tied l w c run m g).world

    pub start_ready : (w v : World) (c : Course) → LineGoes sys (reading t plan) starts w c → c.end ≡ Some v → Ready 0 v
    start_ready w v c g e = record { sound = sound_after starts w v c tt g e; paused = start_pauses w v c g e; at = lines_take_their_time t plan tied starts w v c g e; early = omega arith }

    module _ (ties : List Tie) where
      may_come : (l : Told) (now : ℕ) (w : World) → IsSound t plan w → MayGoOn t plan ties now l → MayComeBy t plan l w
      may_come starts now w k g = tt
      may_come (passes n) now w k g = k
      may_come (lines.arrives comp face member way o vs) now w k g = (k, g.1)
      may_come (framed comp face member octets) now w k g = (k, g.1, g.2)

      in_time : (l : Told) (now : ℕ) → now < 2 ^ 63 → MayGoOn t plan ties now l → time_after l now < 2 ^ 63
      in_time starts now lt g = absurd g
      in_time (passes n) now lt g = g
      in_time (lines.arrives comp face member way o vs) now lt g = lt
      in_time (framed comp face member octets) now lt g = lt

      line_ready : (l : Told) (now : ℕ) (w v : World) (c : Course) → MayGoOn t plan ties now l → Ready now w → LineGoes sys (reading t plan) l w c → c.end ≡ Some v → Ready (time_after l now) v
      line_ready l now w v c m k g e = record {
        sound = sound_after l w v c (may_come l now w k.sound m) g e;
        paused = line_pauses l w v c k.paused g e;
        at = lines_take_their_time t plan tied l w v c g e ∙ ap (time_after l) k.at;
        early = in_time l now k.early m;
      }

      pub run_ready : (ls : List Told) (now : ℕ) (w v : World) (outs : List (List Report)) → MayAllGoOn t plan ties now ls → Ready now w → RunGoes sys (reading t plan) ls w outs (Some v) → (n : ℕ) × Ready n v
      run_ready [] now w v outs m k g = (now, subst (Ready now) (some_is w v (sym g.1)) k)
      run_ready (l ∷ ls) now w v outs m k g = go (λ u e r. run_ready ls (time_after l now) u v g.1 m.1 (line_ready l now w u g.0 m.0 k g.2 e) r) g.0.end refl g.3
        where
          go : ((u : World) → g.0.end ≡ Some u → RunGoes sys (reading t plan) ls u g.1 (Some v) → (n : ℕ) × Ready n v)
              → (o : Option World) → g.0.end ≡ o → RestGoes o g.1 (Some v) (λ u os. RunGoes sys (reading t plan) ls u os (Some v)) → (n : ℕ) × Ready n v
          go on None e r = absurd (let f = r.1 in cc)
          go on (Some u) e r = on u e r

  -- ---- time and states

  pub may_resume : (now : ℕ) (w : World) → Ready now w → (w ≡ resumed w.now w.states) × MayResume t plan w.now w.states
  unfolding IsStateOf
  may_resume now w k =
      let early : w.now < 2 ^ 63 = subst (λ n. n < 2 ^ 63) (sym k.at) k.early in (
        ap (λ q. record { now = w.now; states = w.states; queue = q }) k.paused.idle,
        record {
          early = early;
          fit = record { all = k.sound.all; each = λ i s e. (k.sound.values i s e, k.paused.held.timely i s e, early) };
          later = k.paused.held.waits;
        },
      )

  pub resumed_ready : (now : ℕ) (states : List StateNow) → MayResume t plan now states → Ready now (resumed now states)
  unfolding IsStateOf
  resumed_ready now states k = record {
    sound = record { all = k.fit.all; values = λ i s e. (k.fit.each i s e).0; queue = tt };
    paused = record { idle = refl; held = record { timely = λ i s e. (k.fit.each i s e).1; waits = k.later; by = tt } };
    at = refl;
    early = k.early;
  }
