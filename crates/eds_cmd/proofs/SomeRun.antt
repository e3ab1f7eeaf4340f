-- Running a script comes to something.
use Rattle.std.proofs.Common.{◌≡◌, ℕ, List, [], ◌∷◌, ◌++◌, codes, length, map, Option, Some, None, Result, Ok, Err, inl, inr, refl, sym, ap, subst, ◌∙◌, ◌⊎◌}
use Rattle.std.specs.Prelude.{IfSome}
use Rattle.std.specs.List.{AllByRecursion}
use Rattle.eds_act.proofs.Leaving.{all_append}
use Rattle.eds_base.specs.declared.ids.TypeId.{TypeId}
use Rattle.eds_bits.specs.Bits.{octets_of}
use Rattle.hex.specs.Hex.{encode_lower}
use Rattle.eds_host.specs.Hosts.{HostNow, LinesTakeTheirTime, MayAllGoOn, MayAllStart, MayGoOn, RunsHaveOneOutcome, asked_by, reading}
use Rattle.eds_host.specs.Plans.{MayAllGoOut, MayGoOut, system}
use Rattle.eds_host.specs.Runs.{Course, LineGoes, RestGoes, RunGoes, time_after, unbegun}
use Rattle.eds_host.specs.Systems.{System, World}
use Rattle.eds_host.specs.Wires.{other_end, ties_of}
use Rattle.eds_host.specs.Worlds.{IsSound, IsSoundCourse, LinesHaveCourses, LinesKeepSound, MayComeBy}
use Rattle.eds_host.specs.Worlds as worlds
use Rattle.eds_host.specs.declared.host.Phase.TheVariants.{Fresh}
use Rattle.eds_host.specs.declared.wiring.Asked.{Asked}
use Rattle.eds_host.specs.declared.wiring.HostFail.{HostFail}
use Rattle.eds_host.specs.declared.wiring.Tie.{Tie}
use Rattle.eds_host.proofs.WiresFitted.{wires_fit}
use Rattle.eds_plan.specs.Carried.{carried_fields}
use Rattle.eds_plan.specs.Ends.{end_at}
use Rattle.eds_plan.specs.Lines.{Told, framed, passes, starts}
use Rattle.eds_plan.specs.Lines as lines
use Rattle.eds_plan.specs.Outs.{Report, Signal, left, refused, stopped}
use Rattle.eds_plan.specs.Plans.{component_at}
use Rattle.eds_plan.specs.declared.component.ComponentPlan.{ComponentPlan}
use Rattle.eds_plan.specs.declared.component.EndPlan.{EndPlan}
use Rattle.eds_plan.specs.declared.component.Level.{Level}
use Rattle.eds_plan.specs.declared.component.Level.TheVariants as level
use Rattle.eds_plan.specs.declared.instance.Member.{Member}
use Rattle.eds_plan.specs.declared.instance.Member.TheVariants as member
use Rattle.eds_script.specs.Events.{IsCommandBy, IsEventLine, IsMemberLine, IsSentLine, frame_type, given_line, halt_line, parameter_line, reject_line}
use Rattle.eds_script.specs.Fitting.{AreValuesOf, FitsMember, FitsPlan}
use Rattle.eds_script.specs.Names.{machine_name, member_in, member_name, text_of_end}
use Rattle.eds_script.specs.Scripts.{Plot, script_of}
use Rattle.eds_script.specs.declared.why.BadLine.{BadLine}
use Rattle.eds_types.specs.Plain.{Plain}
use Rattle.eds_types.specs.Rows.{Table}
use Rattle.eds_types.specs.Rules.{KeepsRules}
use Rattle.eds_value.specs.JsonOfValue.{arguments_text}
use Rattle.eds_cmd.specs.declared.status.Status.{Status}
use Rattle.eds_cmd.specs.declared.status.Status.TheVariants as statuses
use Rattle.eds_cmd.specs.declared.stop.Stop.{Stop}
use Rattle.eds_cmd.specs.Run.{AreEventLines, IsRun, IsRunnable, IsValidScript, Runs, RunsOver, RunsPlot, RunsScript, all_events, end_text, last_of, wired}
use Rattle.eds_cmd.specs.RunLaws.{ScriptsMayBeHandled}
use Rattle.eds_cmd.specs.Running.{happenings}
use Rattle.eds_cmd.specs.Stops.{bad_line, bad_wire, status_of, storm}
use Rattle.eds_cmd.proofs.Printing.{outs_may_be_printed}
use Rattle.eds_cmd.proofs.Running.{all_printed}

-- the laws of scripts and runs
pub record RunLaws : Type 0 where
  pub one_outcome : RunsHaveOneOutcome
  pub time : LinesTakeTheirTime
  pub sound : LinesKeepSound
  pub courses : LinesHaveCourses
  pub handled : ScriptsMayBeHandled

-- ---- lines of events

-- one value for the one field, whose bits are written as a frame
framed_line : (t : Table) (time : ℕ) (end name : List ℕ) (l : Level) (fields : List (List ℕ × TypeId)) (vs : List Plain) → AreValuesOf t fields vs → (text : List ℕ) × IsCommandBy (frame_type l fields) t time end name fields vs text
framed_line t time end name level.Subnetwork [] vs h = (given_line time (codes "cmd") end name (arguments_text t [] vs), refl)
framed_line t time end name level.Subnetwork (f ∷ []) [] h = absurd h
framed_line t time end name level.Subnetwork (f ∷ []) (v ∷ []) h =
    let packs = h.0.packs in
    (given_line time (codes "frame") end name (encode_lower (octets_of packs.0)), record { value = v; bits = packs.0; one = refl; canonical = packs.1; line = refl })
framed_line t time end name level.Subnetwork (f ∷ []) (v ∷ w ∷ vs) h = absurd h.1
framed_line t time end name level.Subnetwork (f ∷ g ∷ fs) vs h = (given_line time (codes "cmd") end name (arguments_text t (f ∷ g ∷ fs) vs), refl)
framed_line t time end name level.Access fs vs h = (given_line time (codes "cmd") end name (arguments_text t fs vs), refl)
framed_line t time end name level.Functional fs vs h = (given_line time (codes "cmd") end name (arguments_text t fs vs), refl)
framed_line t time end name level.Application fs vs h = (given_line time (codes "cmd") end name (arguments_text t fs vs), refl)

member_line : (t : Table) (time : ℕ) (end : List ℕ) (l : Level) (s : Signal) (m : Option Member) → FitsMember t s m → (text : List ℕ) × IsMemberLine t time end l s m text
member_line t time end l s None h = absurd h
member_line t time end l s (Some (member.Parameter name id read_only)) h = (parameter_line t time end name s.op s.arguments, refl)
member_line t time end l s (Some (member.Command name args)) h = framed_line t time end name l (carried_fields s.way args) s.arguments h.1

sent_line : (t : Table) (time : ℕ) (end : List ℕ) (s : Signal) (e : Option EndPlan) → FitsMember t s (member_in e s.member) → (text : List ℕ) × IsSentLine t time end s e text
sent_line t time end s None h = absurd h
sent_line t time end s (Some e) h = member_line t time end e.level s (member_in (Some e) s.member) h

-- what fits the plan has a line
pub event_line : (t : Table) (plan : List ComponentPlan) (r : Report) → FitsPlan t plan r → (text : List ℕ) × IsEventLine t plan r text
event_line t plan (left time s) h = sent_line t time (text_of_end plan s.end) s (end_at plan s.end) h
event_line t plan (stopped time comp machine halt) h = (halt_line time (component_at plan comp).name (machine_name (component_at plan comp) machine) halt, refl)
event_line t plan (refused time e number fault) h = (reject_line t time (text_of_end plan e) (member_name (end_at plan e) number) fault, refl)

some_lines : (t : Table) (plan : List ComponentPlan) (rs : List Report) → AllByRecursion (FitsPlan t plan) rs → (text : List ℕ) × AreEventLines t plan rs text
some_lines t plan [] h = ([], refl)
some_lines t plan (r ∷ rs) h =
    let line = event_line t plan r h.0 in
    let rest = some_lines t plan rs h.1 in
    (line.0 ++ rest.0, (line.0, rest.0, line.1, rest.1, refl))

module _ (laws : RunLaws) (t : Table) (plan : List ComponentPlan) (rules : KeepsRules t) (run : IsRunnable t plan) where
  -- ---- lines over wires

  module _ (asked : List Asked) (ties : List Tie) (tied : ties_of plan asked ≡ Ok ties) where
    abbrev sys : System
    sys = system t plan (other_end ties)

    runnable : worlds.IsRunnable t plan (other_end ties)
    runnable = record { rules = rules; plan_fits = run.fits; clear = run.clear; wires = wires_fit plan asked ties run.fits.same tied }

    -- a course of a line
    record SomeCourse (l : Told) (w : World) : Type 0 where
      course : Course
      goes : LineGoes sys (reading t plan) l w course
      sound : IsSoundCourse t plan course

    some_course : (l : Told) (w : World) → MayComeBy t plan l w → SomeCourse l w
    some_course l w m =
        let c = laws.courses t plan (other_end ties) l w runnable m in
        record { course = c.0; goes = c.1; sound = laws.sound t plan (other_end ties) l w c.0 runnable m c.1 }

    -- lines one after another come to something, and what leaves the run may do so
    pub record SomeEnd (ls : List Told) (w : World) : Type 0 where
      pub outs : List (List Report)
      pub end : Option World
      pub goes : RunGoes sys (reading t plan) ls w outs end
      pub fit : MayAllGoOut t plan (all_events outs)

    one_more : (l : Told) (ls : List Told) (w : World) → MayComeBy t plan l w → ((v : World) → IsSound t plan v → v.now ≡ time_after l w.now → SomeEnd ls v) → SomeEnd (l ∷ ls) w
    one_more l ls w m on = go (some_course l w m).course.end refl (some_course l w m).sound.world
      where
        k : SomeCourse l w
        k = some_course l w m

        go : (end : Option World) → k.course.end ≡ end → IfSome end (IsSound t plan) → SomeEnd (l ∷ ls) w
        go None e s = record {
          outs = k.course.outs ∷ [];
          end = None;
          goes = (k.course, [], k.goes, subst (λ o. RestGoes o [] None (λ v os. RunGoes sys (reading t plan) ls v os None)) (sym e) (refl, refl), refl);
          fit = all_append (MayGoOut t plan) k.course.outs [] k.sound.outs tt;
        }
        go (Some v) e s =
            let rest = on v s (laws.time t plan (other_end ties) l w v k.course k.goes e) in
            record {
              outs = k.course.outs ∷ rest.outs;
              end = rest.end;
              goes = (k.course, rest.outs, k.goes, subst (λ o. RestGoes o rest.outs rest.end (λ u os. RunGoes sys (reading t plan) ls u os rest.end)) (sym e) rest.goes, refl);
              fit = all_append (MayGoOut t plan) k.course.outs (all_events rest.outs) k.sound.outs rest.fit;
            }

    may_come : (l : Told) (w : World) → IsSound t plan w → MayGoOn t plan ties w.now l → MayComeBy t plan l w
    may_come starts w s m = tt
    may_come (passes n) w s m = s
    may_come (lines.arrives comp face number way o vs) w s m = (s, m.1)
    may_come (framed comp face number octets) w s m = (s, m.1, m.2)

    rest_goes : (ls : List Told) (w : World) → IsSound t plan w → MayAllGoOn t plan ties w.now ls → SomeEnd ls w
    rest_goes [] w s m = record { outs = []; end = Some w; goes = (refl, refl); fit = tt }
    rest_goes (l ∷ ls) w s m = one_more l ls w (may_come l w s m.0) (λ v sound e. rest_goes ls v sound (subst (λ n. MayAllGoOn t plan ties n ls) (sym e) m.1))

    all_goes : (h : HostNow) (ls : List Told) → h.table ≡ t → h.plan ≡ plan → h.wires ≡ ties → (w : World) → MayAllStart h ls → SomeEnd ls w
    all_goes h [] et ep ew w m = record { outs = []; end = Some w; goes = (refl, refl); fit = tt }
    all_goes h (l ∷ ls) et ep ew w m =
        let one : MayAllGoOn t h.plan h.wires 0 ls = subst (λ x. MayAllGoOn x h.plan h.wires 0 ls) et m.1 in
        let two : MayAllGoOn t plan h.wires 0 ls = subst (λ x. MayAllGoOn t x h.wires 0 ls) ep one in
        let others : MayAllGoOn t plan ties 0 ls = subst (λ x. MayAllGoOn t plan x 0 ls) ew two in
        one_more l ls w (subst (λ x. MayComeBy t plan x w) (sym m.0) tt)
        (λ v sound e. rest_goes ls v sound (subst (λ n. MayAllGoOn t plan ties n ls) (sym (e ∙ ap (λ x. time_after x w.now) m.0)) others))

  -- the lines of a script come to something
  pub script_goes : (text : List ℕ) (p : Plot) (ties : List Tie) → script_of t plan text ≡ Ok p → (tied : wired plan p ≡ Ok ties) → SomeEnd (map (asked_by plan) p.wires) ties tied (happenings p.lines) (unbegun (system t plan (other_end ties)))
  script_goes text p ties said tied =
      let w : World = unbegun (system t plan (other_end ties)) in
      let h : HostNow = record { table = t; plan = plan; wires = ties; world = w; phase = Fresh } in
      all_goes (map (asked_by plan) p.wires) ties tied h (happenings p.lines) refl refl refl w (laws.handled h text p rules run.fits said tied)

  some_told : (outs : List (List Report)) → MayAllGoOut t plan (all_events outs) → (text : List ℕ) × AreEventLines t plan (all_events outs) text
  some_told outs fit = some_lines t plan (all_events outs) (all_printed outs_may_be_printed t plan (all_events outs) fit)

  -- ---- some

  -- a report says what is done, or there is a stop
  abbrev pub IsOfSome : (Status → List ℕ → Type 0) → Type 0
  IsOfSome Says = ((report : List ℕ) × Says statuses.Done report) ⊎ ((stop : Stop) × Says (status_of stop.cause) stop.report)

  some_over : (text : List ℕ) (p : Plot) → script_of t plan text ≡ Ok p → (ties : Result (List Tie) HostFail) → wired plan p ≡ ties → IsOfSome (RunsOver t plan ties p.lines)
  some_over text p said (Err fail) e = inr (bad_wire fail, record { status_is = refl; report_is = refl })
  some_over text p said (Ok ties) e =
      let r = script_goes text p ties said e in
      let told = some_told r.outs r.fit in
      go r.end r.outs told.0 r.goes told.1
    where
      go : (end : Option World) (outs : List (List Report)) (events : List ℕ) → Runs t plan ties p.lines outs end → AreEventLines t plan (all_events outs) events → IsOfSome (RunsOver t plan (Ok ties) p.lines)
      go None outs events runs told =
          let stop = storm events (last_of p.lines (length outs)) in
          inr (stop, inr (record { outs = outs; runs = runs; events = events; told = told; stop = record { status_is = refl; report_is = refl } }))
      go (Some w) outs events runs told = inl (events ++ end_text t plan w, inl (record { outs = outs; world = w; runs = runs; events = events; told = told; status_is = refl; report_is = refl }))

  some_plot : (text : List ℕ) (p : Result Plot BadLine) → script_of t plan text ≡ p → IsOfSome (RunsPlot t plan p)
  some_plot text (Ok p) e = some_over text p e (wired plan p) refl
  some_plot text (Err bad) e = inr (bad_line bad, record { status_is = refl; report_is = refl })

  -- and to some
  pub some_way : (text : List ℕ) → IsOfSome (RunsScript t plan text)
  some_way text = some_plot text (script_of t plan text) refl

  -- ---- valid scripts

  -- a valid script is run to its end
  pub valid_runs : (text : List ℕ) → IsValidScript t plan text → (report : List ℕ) × RunsScript t plan text statuses.Done report
  valid_runs text v =
      let r = script_goes text v.plot v.ties v.good v.tied in
      let same = laws.one_outcome t plan (other_end v.ties) (happenings v.plot.lines) (unbegun (system t plan (other_end v.ties))) r.outs v.outs r.end (Some v.world) rules run.fits run.clear r.goes v.calm in
      let told = some_told r.outs r.fit in
      let done : IsRun t plan v.ties v.plot.lines statuses.Done (told.0 ++ end_text t plan v.world) =
      record { outs = r.outs; world = v.world; runs = subst (λ o. Runs t plan v.ties v.plot.lines r.outs o) same.1 r.goes; events = told.0; told = told.1; status_is = refl; report_is = refl } in
      let over : RunsOver t plan (wired plan v.plot) v.plot.lines statuses.Done (told.0 ++ end_text t plan v.world) =
      subst (λ x. RunsOver t plan x v.plot.lines statuses.Done (told.0 ++ end_text t plan v.world)) (sym v.tied) (inl done) in
      (told.0 ++ end_text t plan v.world, subst (λ x. RunsPlot t plan x statuses.Done (told.0 ++ end_text t plan v.world)) (sym v.good) over)
