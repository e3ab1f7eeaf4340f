-- Runs of a plan that fits keep its worlds sound, and what leaves them is as it may be.
use Rattle.std.proofs.Common.{◌≡◌, ◌≤◌, ◌<◌, ◌+◌, ◌-◌, ℕ, zero, suc, List, [], ◌∷◌, ◌++◌, length, length-append, map, Option, Some, None, slice_get, refl, sym, ap, subst, ◌∙◌, arith, inl, inr}
use Rattle.std.specs.Prelude.{IfSome, Result, Ok, Err, option_map, unwrap_or, ◌⊎◌}
use Rattle.std.specs.List.{AllByRecursion}
use Rattle.std.proofs.lemmas.Option.{slice_get_within}
use Rattle.eds_base.specs.Reading.{◌>>=◌}
use Rattle.eds_base.specs.declared.fault.Fault.{Fault}
use Rattle.eds_bits.specs.Bits.{Bits, bits_of}
use Rattle.eds_overlap.specs.Laws.{IsReadable, OneOutcome}
use Rattle.eds_types.specs.Failing.{FailsAt, fault_here}
use Rattle.eds_base.specs.declared.fault.Reason.TheVariants.{Trailing}
use Rattle.eds_types.specs.PackedSizes.{SizesAreExact, packs}
use Rattle.eds_types.specs.Plain.{Plain, plain}
use Rattle.eds_types.specs.Rows.{Table}
use Rattle.eds_types.specs.Spelling.{Spells}
use Rattle.std.proofs.lemmas.Bool.{cases_lt}
use Rattle.eds_plan.specs.Carried.{carried}
use Rattle.eds_plan.specs.Ends.{end_at}
use Rattle.eds_plan.specs.Fitting.{ComponentFits}
use Rattle.eds_plan.specs.Lines.{Told, starts, passes, framed}
use Rattle.eds_plan.specs.Lines as lines
use Rattle.eds_plan.specs.Outs.{Signal}
use Rattle.eds_plan.specs.Plans.{component_at, variable_types}
use Rattle.eds_plan.specs.Sends.{Sent, primitive, halted}
use Rattle.eds_plan.specs.States.{StateNow}
use Rattle.eds_plan.specs.declared.activity.Op.TheVariants as op
use Rattle.eds_plan.specs.declared.component.ComponentPlan.{ComponentPlan}
use Rattle.eds_plan.specs.declared.component.EndPlan.{EndPlan}
use Rattle.eds_plan.specs.declared.component.VarPlan.{VarPlan}
use Rattle.eds_plan.specs.declared.run.End.{End}
use Rattle.eds_plan.specs.declared.run.Way.{Way}
use Rattle.eds_act.specs.Does.{AllConform, Conforms, Tells}
use Rattle.eds_act.specs.Leaves.{MayAllLeave}
use Rattle.eds_act.proofs.Leaving.{all_append}
use Rattle.eds_act.proofs.Telling.{packs_tell}
use Rattle.eds_machine.specs.Reactions.{fires, receives, starts as all_begin}
use Rattle.eds_machine.proofs.KeptValues.{fires_keeps, receives_keeps, starts_keep}
use Rattle.eds_machine.proofs.Leaving.{fires_leaves, receives_leaves, starts_send_well}
use Rattle.eds_host.specs.declared.due.Due.{Due}
use Rattle.eds_host.specs.Frames.{Begins, FrameIs}
use Rattle.eds_host.specs.Hosts.{BringsOne, brought_to, reading, way_to}
use Rattle.eds_host.specs.Machines.{at_event, reacted, started}
use Rattle.eds_host.specs.Plans.{Arrives, IsSent, Leaves, MayGoOut, system}
use Rattle.eds_host.specs.Runs.{Course, LineGoes, after, all_start, begun, comes, follows, frame_goes, go_by, go_on, happening, most, nothing, storm, time_passes}
use Rattle.eds_host.specs.Systems.{System, World, Happening, Reaction, arrival, moment, arrives, delivered_at, first_due, fires as fires_at, has_come, leaves_at, leaving, next, next_by, no_state, queued, sent_at, settles, state_at}
use Rattle.eds_host.specs.Worlds.{IsRunnable, IsSound, IsSoundCourse, LinesHaveCourses, LinesKeepSound, MayComeBy}
use Rattle.eds_host.proofs.Adapted.{all_sent, component_has, end_is}
use Rattle.eds_host.proofs.Beginnings.{last_or}
use Rattle.eds_host.proofs.FramedLines.{frame_packs, framed_arrives}
use Rattle.eds_host.proofs.Moments.{due_waited}
use Rattle.eds_host.proofs.OneFrame.{end_readable}
use Rattle.eds_host.proofs.Sent.{arrives_tied}
use Rattle.eds_host.proofs.Standing.{set_length}
use Rattle.eds_host.proofs.Times.{come, set_or}

-- ---- lists

get_there : {A : Type 0} (xs : List A) (i : ℕ) → i < length xs → (x : A) × (slice_get xs i ≡ Some x)
get_there [] i lt = absurd (omega (arith, lt))
get_there (x ∷ xs) zero lt = (x, refl)
get_there (x ∷ xs) (suc i) lt = get_there xs i (omega (arith, lt))

end_there : (plan : List ComponentPlan) (e : End) (x : EndPlan) → end_at plan e ≡ Some x → e.comp.0 < length plan
end_there plan e x h = go (slice_get plan e.comp.0) refl h
  where
    go : (o : Option ComponentPlan) → slice_get plan e.comp.0 ≡ o → (o >>= λ c. slice_get c.ends e.face) ≡ Some x → e.comp.0 < length plan
    go None p q = absurd cc
    go (Some c) p q = slice_get_within plan e.comp.0 c p

module _ (t : Table) (plan : List ComponentPlan) (tied : End → Option End) (exact : SizesAreExact) (run : IsRunnable t plan tied) where
  abbrev sys : System
  sys = system t plan tied

  tells : Tells t (packs t)
  tells = packs_tell t exact run.rules

  own : (comp : ℕ) → comp < length plan → ComponentFits t (Conforms t) (component_at plan comp)
  own comp lt = component_has (ComponentFits t (Conforms t)) plan comp run.plan_fits.components lt

  -- ---- one event

  -- what a component made of an event: its variables have values that pack, and what it sent may leave it
  record Fine (comp : ℕ) (r : Reaction) : Type 0 where
    values : AllConform t (variable_types (component_at plan comp)) r.state.variables
    sends : AllByRecursion (IsSent t plan) r.sends

  abbrev own_values : ℕ → StateNow → Type 0
  own_values comp s = AllConform t (variable_types (component_at plan comp)) s.variables

  none_sent : (comp : ℕ) (s : StateNow) → MayAllLeave t (component_at plan comp) comp (at_event comp s).world
  none_sent comp s = record { own = refl; sent = tt }

  arrival_fine : (comp now : ℕ) (p : Signal) (s : StateNow) → p.end.comp.0 ≡ comp → Arrives t plan p → own_values comp s → Fine comp (reacted t plan comp (arrival p) now s)
  unfolding reacted
  arrival_fine comp now p s here h k =
      let c : ComponentPlan = component_at plan comp in
      let lt : comp < length plan = subst (λ n. n < length plan) here (end_there plan p.end h.end h.here) in
      let at : slice_get c.ends p.end.face ≡ Some h.end = sym (end_is plan comp p.end lt here) ∙ h.here in
      let given : AllConform t (carried p.op p.way (slice_get h.end.instance.members p.member)) p.arguments = subst (λ m. AllConform t (carried p.op p.way m) p.arguments) (sym h.there) h.values in
      record {
        values = receives_keeps (packs t) t c tells now p.end.face p.member p.op p.way h.end p.arguments (at_event comp s) (own comp lt).maps at given k;
        sends = all_sent t plan comp (receives (packs t) t c now p.end.face p.member p.op p.arguments (at_event comp s)).world.sent lt
            (receives_leaves (packs t) t c comp tells (own comp lt) now p.end.face p.member p.op p.arguments (at_event comp s) k (none_sent comp s)).sent;
      }

  moment_fine : (comp now machine : ℕ) (s : StateNow) → comp < length plan → own_values comp s → Fine comp (reacted t plan comp (moment machine) now s)
  unfolding reacted
  moment_fine comp now machine s lt k =
      let c : ComponentPlan = component_at plan comp in
      record {
        values = fires_keeps (packs t) t c tells now machine (slice_get c.machines machine) (at_event comp s) k;
        sends = all_sent t plan comp (fires (packs t) t c now machine (slice_get c.machines machine) (at_event comp s)).world.sent lt
            (fires_leaves (packs t) t c comp tells (own comp lt) now machine (slice_get c.machines machine) (at_event comp s) refl (none_sent comp s)).sent;
      }

  first_conform : (xs : List VarPlan) → AllByRecursion (λ (x : VarPlan). Conforms t x.id.0 (plain x.initial)) xs → AllConform t (map (λ (x : VarPlan). x.id.0) xs) (map (λ (x : VarPlan). plain x.initial) xs)
  first_conform [] h = tt
  first_conform (x ∷ xs) h = (h.0, first_conform xs h.1)

  start_fine : (comp : ℕ) → comp < length plan → Fine comp (started t plan comp)
  unfolding started
  start_fine comp lt =
      let c : ComponentPlan = component_at plan comp in
      record {
        values = starts_keep (packs t) t c tells comp (first_conform c.variables (own comp lt).initial);
        sends = all_sent t plan comp (all_begin (packs t) t c comp []).world.sent lt (starts_send_well (packs t) t c comp tells (own comp lt)).sent;
      }

  -- ---- what is sent

  delivered_well : (s : Signal) (o : Option End) → Leaves t plan s → tied s.end ≡ o → AllByRecursion (Arrives t plan) (delivered_at s o)
  delivered_well s None h e = tt
  delivered_well s (Some x) h e = (arrives_tied t plan tied s x run.wires h e, tt)

  queued_well : (ss : List Sent) → AllByRecursion (IsSent t plan) ss → AllByRecursion (Arrives t plan) (queued tied ss)
  queued_well [] h = tt
  queued_well (primitive c e m way o vs ∷ ss) h =
      let s : Signal = sent_at c e m way o vs in
      all_append (Arrives t plan) (delivered_at s (tied s.end)) (queued tied ss) (delivered_well s (tied s.end) h.0 refl) (queued_well ss h.1)
  queued_well (halted machine x ∷ ss) h = queued_well ss h.1

  leaves_well : (now : ℕ) (s : Signal) (o : Option End) → Leaves t plan s → AllByRecursion (MayGoOut t plan) (leaves_at now s o)
  leaves_well now s None h = (h, tt)
  leaves_well now s (Some x) h = tt

  leaving_well : (now comp : ℕ) (ss : List Sent) → AllByRecursion (IsSent t plan) ss → AllByRecursion (MayGoOut t plan) (leaving tied now comp ss)
  leaving_well now comp [] h = tt
  leaving_well now comp (primitive c e m way o vs ∷ ss) h =
      let s : Signal = sent_at c e m way o vs in
      all_append (MayGoOut t plan) (leaves_at now s (tied s.end)) (leaving tied now comp ss) (leaves_well now s (tied s.end) h.0) (leaving_well now comp ss h.1)
  leaving_well now comp (halted machine x ∷ ss) h = (tt, leaving_well now comp ss h.1)

  -- ---- one happening

  record Goes (h : Happening) : Type 0 where
    world : IsSound t plan h.world
    outs : AllByRecursion (MayGoOut t plan) h.outs

  settles_well : (comp : ℕ) (w : World) (r : Reaction) → Fine comp r → IsSound t plan w → Goes (settles sys comp w r)
  unfolding settles
  settles_well comp w r f k = record {
    world = record {
      all = set_length w.states comp r.state ∙ k.all;
      values = λ i s e. elim (set_or w.states comp i r.state s e) [
        | inl q ↦ subst (λ (x : StateNow). own_values i x) q.1 (subst (λ n. own_values n r.state) (sym q.0) f.values)
        | inr q ↦ k.values i s q
      ];
      queue = all_append (Arrives t plan) w.queue (queued tied r.sends) k.queue (queued_well r.sends f.sends);
    };
    outs = leaving_well w.now comp r.sends f.sends;
  }

  -- the state of a component that is there
  state_values : (w : World) (comp : ℕ) → IsSound t plan w → comp < length plan → own_values comp (state_at w comp)
  state_values w comp k lt =
      let x = get_there w.states comp (omega (arith, lt, k.all)) in
      subst (λ (o : Option StateNow). own_values comp (unwrap_or o no_state)) (sym x.1) (k.values comp x.0 x.1)

  arrives_well : (p : Signal) (w : World) → Arrives t plan p → IsSound t plan w → Goes (arrives sys p.end.comp.0 (arrival p) w)
  arrives_well p w h k =
      settles_well p.end.comp.0 w (reacted t plan p.end.comp.0 (arrival p) w.now (state_at w p.end.comp.0))
      (arrival_fine p.end.comp.0 w.now p (state_at w p.end.comp.0) refl h (state_values w p.end.comp.0 k (end_there plan p.end h.end h.here))) k

  fires_well : (until : Option ℕ) (w : World) (d : Option Due) → has_come until (first_due sys 0 w.states) ≡ d → (h : Happening) → fires_at sys w d ≡ Some h → IsSound t plan w → Goes h
  fires_well until w None c h e k = absurd cc
  fires_well until w (Some d) c h e k =
      let waited = due_waited sys w.states d (come until (first_due sys 0 w.states) d c) in
      let lt : d.comp < length plan = omega (arith, waited.comp, slice_get_within w.states waited.at waited.state waited.there, k.all) in
      let u : World = record w { now = d.moment } in
      let sound : IsSound t plan u = record { all = k.all; values = k.values; queue = k.queue } in
      let one : arrives sys d.comp (moment d.machine) u ≡ h = cc in
      subst Goes one (settles_well d.comp u (reacted t plan d.comp (moment d.machine) d.moment (state_at u d.comp)) (moment_fine d.comp d.moment d.machine (state_at u d.comp) lt (state_values u d.comp sound lt)) sound)

  next_well : (until : Option ℕ) (w : World) (h : Happening) → next sys until w ≡ Some h → IsSound t plan w → Goes h
  unfolding next
  next_well until w h e k = go w.queue refl e
    where
      go : (q : List Signal) → w.queue ≡ q → next_by sys until w q ≡ Some h → Goes h
      go [] p f = fires_well until w (has_come until (first_due sys 0 w.states)) refl h f k
      go (s ∷ ss) p f =
          let placed : AllByRecursion (Arrives t plan) (s ∷ ss) = subst (AllByRecursion (Arrives t plan)) p k.queue in
          let sound : IsSound t plan (record w { queue = ss }) = record { all = k.all; values = k.values; queue = placed.1 } in
          let one : arrives sys s.end.comp.0 (arrival s) (record w { queue = ss }) ≡ h = cc in
          subst Goes one (arrives_well s (record w { queue = ss }) placed.0 sound)

  -- ---- courses

  record Sounds (c : Course) : Type 0 where
    outs : AllByRecursion (MayGoOut t plan) c.outs
    world : IfSome c.end (IsSound t plan)

  go_well : (more : ℕ) (until : Option ℕ) (w : World) → IsSound t plan w → Sounds (go_on sys more until w)
  unfolding go_on
  go_well zero until w k = go (next sys until w)
    where
      go : (o : Option Happening) → Sounds (go_by w o (λ h. storm))
      go None = record { outs = tt; world = k }
      go (Some h) = record { outs = tt; world = tt }
  go_well (suc more) until w k = go (next sys until w) refl (λ u s. go_well more until u s)
    where
      go : (o : Option Happening) → next sys until w ≡ o → ((u : World) → IsSound t plan u → Sounds (go_on sys more until u)) → Sounds (go_by w o (λ h. after h.outs (go_on sys more until h.world)))
      go None e on = record { outs = tt; world = k }
      go (Some h) e on =
          let g = next_well until w h e k in
          let rest = on h.world g.world in
          record { outs = all_append (MayGoOut t plan) h.outs (go_on sys more until h.world).outs g.outs rest.outs; world = rest.world }

  follows_well : (h : Happening) → Goes h → Sounds (follows sys h)
  follows_well h g =
      let rest = go_well most None h.world g.world in
      record { outs = all_append (MayGoOut t plan) h.outs (go_on sys most None h.world).outs g.outs rest.outs; world = rest.world }

  timed_well : (now : ℕ) (o : Option World) → IfSome o (IsSound t plan) → IfSome (option_map (λ (w : World). record w { now = now }) o) (IsSound t plan)
  timed_well now None k = tt
  timed_well now (Some w) k = record { all = k.all; values = k.values; queue = k.queue }

  -- ---- the start

  record Begun (n : ℕ) (h : Happening) : Type 0 where
    so_far : length h.world.states ≡ n
    values : (i : ℕ) (s : StateNow) → slice_get h.world.states i ≡ Some s → own_values i s
    queue : AllByRecursion (Arrives t plan) h.world.queue
    outs : AllByRecursion (MayGoOut t plan) h.outs

  begun_well : (comp : ℕ) (h : Happening) → comp < length plan → Begun comp h → Begun (comp + 1) (begun sys comp (started t plan comp) h)
  begun_well comp h lt k =
      let f = start_fine comp lt in
      let r : Reaction = started t plan comp in
      record {
        so_far = length-append h.world.states (r.state ∷ []) ∙ ap (λ n. n + 1) k.so_far;
        values = λ i s e. elim (last_or h.world.states i r.state s e) [
          | inl q ↦ subst (λ (x : StateNow). own_values i x) q.1 (subst (λ n. own_values n r.state) (sym (q.0 ∙ k.so_far)) f.values)
          | inr q ↦ k.values i s q
        ];
        queue = all_append (Arrives t plan) h.world.queue (queued tied r.sends) k.queue (queued_well r.sends f.sends);
        outs = all_append (MayGoOut t plan) h.outs (leaving tied h.world.now comp r.sends) k.outs (leaving_well h.world.now comp r.sends f.sends);
      }

  all_begun : (more comp : ℕ) (h : Happening) → comp + more ≡ length plan → Begun comp h → Begun (length plan) (all_start sys comp more h)
  all_begun zero comp h e k = let at : comp ≡ length plan = omega (arith, e) in subst (λ n. Begun n h) at k
  all_begun (suc more) comp h e k = all_begun more (comp + 1) (begun sys comp (started t plan comp) h) (omega (arith, e)) (begun_well comp h (omega (arith, e)) k)

  start_well : Goes (all_start sys 0 (length plan) (happening nothing []))
  start_well =
      let k = all_begun (length plan) 0 (happening nothing []) (omega arith) (record { so_far = refl; values = λ i s e. absurd cc; queue = tt; outs = tt }) in
      record { world = record { all = k.so_far; values = k.values; queue = k.queue }; outs = k.outs }

  -- ---- lines

  arrives_course : (p : Signal) (w : World) → Arrives t plan p → IsSound t plan w → Sounds (follows sys (comes sys p w))
  arrives_course p w h k = follows_well (comes sys p w) (arrives_well p w h k)

  module _ (comp face number : ℕ) (octets : List ℕ) (b : BringsOne plan comp face number) (few : length octets ≤ 65536) where
    abbrev here : End
    here = record { comp = record { 0 = comp }; face = face }

    abbrev its_way : Way
    its_way = way_to (end_at plan here)

    one_id : brought_to (end_at plan here) number ≡ b.id ∷ []
    one_id = ap (λ (o : Option EndPlan). brought_to o number) b.end_is ∙ b.one

    its_type : IsReadable t b.id
    its_type = end_readable t plan run.rules run.plan_fits run.clear here (end_at plan here) number b.id refl one_id

    frame_course : (r : Result Plain Fault) (w : World) → (reading t plan).reads comp face number octets r → IsSound t plan w → Sounds (frame_goes sys its_way comp face number r w)
    frame_course (Err g) w h k = record { outs = (tt, tt); world = k }
    frame_course (Ok v) w h k =
        let same : h.0 ≡ b.id = let f : h.0 ∷ [] ≡ b.id ∷ [] = sym h.1 ∙ one_id in cc in
        let p : Signal = sent_at comp face number its_way op.Command (v ∷ []) in
        arrives_course p w (framed_arrives t plan here number b.id b b.one p v refl (frame_packs t b.id octets v its_type few (subst (λ n. FrameIs t n (bits_of octets) (Ok v)) same h.2))) k

    frame_read : OneOutcome → (r : Result Plain Fault) × FrameIs t b.id (bits_of octets) r
    frame_read law = go (law t b.id its_type (bits_of octets)).either
      where
        go : (((v : Plain) × (c : Bits) × (rest : Bits) × (bits_of octets ≡ c ++ rest) × Spells t b.id v c) ⊎ ((g : Fault) × FailsAt t b.id (bits_of octets) g)) → (r : Result Plain Fault) × FrameIs t b.id (bits_of octets) r
        go (inl k) =
            let begins : Begins t b.id k.0 k.2 (bits_of octets) = record { front = k.1; split = k.3; spelled = k.4 } in
            elim (cases_lt 7 (length k.2)) [
              | inl many ↦ (Err (fault_here Trailing), inr (k.0, k.2, begins, omega (arith, many), refl))
              | inr at_most ↦ (Ok k.0, (k.2, begins, at_most))
            ]
        go (inr k) = (Err k.0, inl k.1)

  line_well : (l : Told) (w : World) (c : Course) → MayComeBy t plan l w → LineGoes sys (reading t plan) l w c → IsSoundCourse t plan c
  line_well starts w c m g =
      let h : Happening = all_start sys 0 (length plan) (happening nothing []) in
      let s = follows_well h start_well in
      subst (IsSoundCourse t plan) (sym g) (record { outs = s.outs; world = s.world })
  line_well (passes n) w c m g =
      let s = go_well most (Some (w.now + n)) w m in
      subst (IsSoundCourse t plan) (sym g) (record { outs = s.outs; world = timed_well (w.now + n) (go_on sys most (Some (w.now + n)) w).end s.world })
  line_well (lines.arrives comp face member way o vs) w c m g =
      let p : Signal = sent_at comp face member way o vs in
      let s = arrives_course p w m.1 m.0 in
      subst (IsSoundCourse t plan) (sym g) (record { outs = s.outs; world = s.world })
  line_well (framed comp face member octets) w c m g =
      let s = frame_course comp face member octets m.2 m.1 g.0 w g.1 m.0 in
      subst (IsSoundCourse t plan) (sym g.2) (record { outs = s.outs; world = s.world })

  line_goes : OneOutcome → (l : Told) (w : World) → MayComeBy t plan l w → (c : Course) × LineGoes sys (reading t plan) l w c
  line_goes law starts w m = (follows sys (all_start sys 0 (length plan) (happening nothing [])), refl)
  line_goes law (passes n) w m = (time_passes sys n w, refl)
  line_goes law (lines.arrives comp face member way o vs) w m = (follows sys (comes sys (sent_at comp face member way o vs) w), refl)
  line_goes law (framed comp face member octets) w m =
      let r = frame_read comp face member octets m.2 m.1 law in
      (frame_goes sys (way_to (end_at plan (record { comp = record { 0 = comp }; face = face }))) comp face member r.0 w, (r.0, (m.2.id, one_id comp face member octets m.2 m.1, r.1), refl))

pub lines_keep_sound : SizesAreExact → LinesKeepSound
lines_keep_sound exact t plan tied l w c run m g = line_well t plan tied exact run l w c m g

pub lines_have_courses : SizesAreExact → OneOutcome → LinesHaveCourses
lines_have_courses exact law t plan tied l w run m = line_goes t plan tied exact run law l w m
