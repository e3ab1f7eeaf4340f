-- A script is run line after line.
use Rattle.std.proofs.Common.{◌≡◌, ℕ, Bool, cond, count_by, suc, ◌+◌, ◌-◌, ◌<◌, ◌⊎◌, List, [], ◌∷◌, ◌++◌, length, map, drop, zero, Option, Some, None, Ok, slice_get, inl, inr, refl, sym, ap, subst, ◌∙◌, arith, get_or}
use Rattle.std.specs.List.{AllByRecursion}
use Rattle.std.specs.Option.{option_map_or}
use Rattle.std.proofs.lemmas.List.Sums.{sum_by-append}
use Rattle.std.proofs.lemmas.List.{append-nil, append_assoc, length-append, drop_more}
use Rattle.std.proofs.lemmas.List.Concat.{flat_map-append}
use Rattle.eds_act.specs.Does.{Conforms}
use Rattle.eds_host.specs.Hosts.{Goes, Handles, HostNow, MayAllBeHandled, asked_by, components, reading, standing_after}
use Rattle.eds_host.specs.Plans.{MayGoOut, system}
use Rattle.eds_host.specs.Runs.{Course, LineGoes, RestGoes, RunGoes, unbegun}
use Rattle.eds_host.specs.Steps.{IsLine}
use Rattle.eds_plan.specs.States.{StateNow}
use Rattle.eds_host.specs.Systems.{System, World}
use Rattle.eds_host.specs.Wires.{other_end, ties_of}
use Rattle.eds_host.specs.declared.handled.Handled.{Handled}
use Rattle.eds_host.specs.declared.handled.Handled.TheVariants as handled
use Rattle.eds_host.specs.declared.host.Phase.{Phase}
use Rattle.eds_host.specs.declared.host.Phase.TheVariants.{Fresh, Rests, Storm, Spent}
use Rattle.eds_host.specs.declared.wiring.Tie.{Tie}
use Rattle.eds_plan.specs.Fitting.{PlanFits}
use Rattle.eds_plan.specs.Lines.{Told, told}
use Rattle.eds_plan.specs.Outs.{Report, report}
use Rattle.eds_plan.specs.Plans.{component_at}
use Rattle.eds_plan.specs.declared.run.Line.{Line}
use Rattle.eds_plan.specs.declared.run.Out.{Out}
use Rattle.eds_plan.specs.declared.component.ComponentPlan.{ComponentPlan}
use Rattle.eds_script.specs.Events.{IsEventLine}
use Rattle.eds_script.specs.Fitting.{FitsPlan}
use Rattle.eds_script.specs.Handing.{ScriptsMayRun}
use Rattle.eds_script.specs.Scripts.{Plot, script_of}
use Rattle.eds_script.specs.Seen.{numbered_told}
use Rattle.eds_script.specs.States.{state_text}
use Rattle.eds_types.specs.Rows.{Table}
use Rattle.eds_types.specs.Rules.{KeepsRules}
use Rattle.eds_cmd.specs.Run.{AreEventLines, IsRunnable, IsStormy, Runs, all_events, last_of, states_text}
use Rattle.eds_cmd.specs.Running.{HasRun, IsOver, IsReady, Tells, happenings}
use Rattle.eds_cmd.specs.Tally.{Counts, CountsMore, is_reject, is_sent}
use Rattle.eds_cmd.specs.declared.tally.Tally.{Tally}
use Rattle.eds_cmd.specs.RunLaws.{OutsMayBePrinted, ScriptsMayBeHandled}
use Rattle.eds_cmd.specs.Stops.{status_of, storm}
use Rattle.eds_cmd.specs.declared.stop.Stop.{Stop}
use Rattle.eds_cmd.proofs.Printing.{plans_know_types}

-- a host stands so where all that was handed to it is done
abbrev pub IsCalm : Phase → Type 0
IsCalm Fresh = Unit {0}
IsCalm Rests = Unit {0}
IsCalm Storm = ⊥
IsCalm Spent = ⊥

-- some lines are done, and these are left
pub record IsRunTo (t : Table) (plan : List ComponentPlan) (ties : List Tie) (lines rest : List (ℕ × Told)) (w : World) (report : List ℕ) (tally : Tally) : Type 0 where
  pub done : List (ℕ × Told)
  pub split : lines ≡ done ++ rest
  pub outs : List (List Report)
  pub count : length outs ≡ length done
  pub told : AreEventLines t plan (all_events outs) report
  pub counted : Counts (all_events outs) tally
  -- whatever comes of those that are left comes of all
  pub on : (more : List (List Report)) (end : Option World) → (let sys : System = system t plan (other_end ties) in RunGoes sys (reading t plan) (happenings rest) w more end)
      → Runs t plan ties lines (outs ++ more) end

-- ---- events

pub events_more : (t : Table) (plan : List ComponentPlan) (rs qs : List Report) (text more : List ℕ) → AreEventLines t plan rs text → AreEventLines t plan qs more → AreEventLines t plan (rs ++ qs) (text ++ more)
events_more t plan [] qs text more h k = subst (λ x. AreEventLines t plan qs (x ++ more)) (sym h) k
events_more t plan (r ∷ rs) qs text more h k =
    (h.0, h.1 ++ more, h.2, events_more t plan rs qs h.1 more h.3 k, ap (λ x. x ++ more) h.4 ∙ append_assoc h.0 h.1 more)

-- of one line more
pub all_events_more : (outs : List (List Report)) (rs : List Report) → all_events (outs ++ rs ∷ []) ≡ all_events outs ++ rs
all_events_more outs rs = flat_map-append (λ (x : List Report). x) outs (rs ∷ []) ∙ ap (λ x. all_events outs ++ x) (append-nil rs)

-- ---- counting

counted_append : (p : Report → Bool) (rs qs : List Report) → count_by p (rs ++ qs) ≡ count_by p rs + count_by p qs
counted_append p rs qs = sum_by-append (λ r. cond (p r) 1 0) rs qs

-- some of all events are counted, and these are left
pub record IsCountedTo (all rest : List Out) (start now : Tally) : Type 0 where
  pub sent : now.sent + count_by is_sent (map report rest) ≡ start.sent + count_by is_sent (map report all)
  pub rejects : now.rejects + count_by is_reject (map report rest) ≡ start.rejects + count_by is_reject (map report all)

-- one more is counted
pub counted_next : (all rest after : List Out) (x : Out) (start old new : Tally) → rest ≡ x ∷ after → CountsMore (report x ∷ []) old new → IsCountedTo all rest start old → IsCountedTo all after start new
counted_next all rest after x start old new e k h =
    let one : map report rest ≡ report x ∷ map report after = ap (map report) e in
    record {
      sent = omega (arith, k.sent, h.sent, ap (count_by is_sent) one, counted_append is_sent (report x ∷ []) (map report after));
      rejects = omega (arith, k.rejects, h.rejects, ap (count_by is_reject) one, counted_append is_reject (report x ∷ []) (map report after));
    }

-- all are counted
pub all_counted : (all rest : List Out) (start now : Tally) → rest ≡ [] → IsCountedTo all rest start now → CountsMore (map report all) start now
all_counted all rest start now none h =
    let sent = ap (λ xs. count_by is_sent (map report xs)) none in
    let rejects = ap (λ xs. count_by is_reject (map report xs)) none in
    record { sent = omega (arith, h.sent, sent); rejects = omega (arith, h.rejects, rejects) }

-- what may go out has a line
pub all_printed : OutsMayBePrinted → (t : Table) (plan : List ComponentPlan) (rs : List Report) → AllByRecursion (MayGoOut t plan) rs → AllByRecursion (FitsPlan t plan) rs
all_printed law t plan [] h = tt
all_printed law t plan (r ∷ rs) h = (law t plan r h.0, all_printed law t plan rs h.1)

-- what is left of a list from one of its items on
pub left_at : {A : Type 0} (xs : List A) (i : ℕ) (x : A) → i < length xs → x ≡ get_or xs i x → drop i xs ≡ x ∷ drop (i + 1) xs
left_at xs i x lt is = drop_more xs i x lt ∙ ap (λ y. y ∷ drop (i + 1) xs) (sym is)

-- some of all events are told behind the start, and these are left
abbrev pub IsToldTo : Table → List ComponentPlan → (all rest : List Out) → (start now : List ℕ) → Type 0
IsToldTo t plan all rest start now =
    (events : List ℕ) × (now ≡ start ++ events) × ((text : List ℕ) → AreEventLines t plan (map report rest) text → AreEventLines t plan (map report all) (events ++ text))

-- one more is told
pub told_next : (t : Table) (plan : List ComponentPlan) (all rest after : List Out) (x : Out) (line start old new : List ℕ) → rest ≡ x ∷ after → IsEventLine t plan (report x) line → new ≡ old ++ line
    → IsToldTo t plan all rest start old → IsToldTo t plan all after start new
told_next t plan all rest after x line start old new e is n h = (
  h.0 ++ line,
  n ∙ ap (λ z. z ++ line) h.1 ∙ append_assoc start h.0 line,
  λ text k. subst (AreEventLines t plan (map report all)) (sym (append_assoc h.0 line text)) (h.2 (line ++ text) (subst (λ (xs : List Out). AreEventLines t plan (map report xs) (line ++ text)) (sym e) (line, text, is, k, refl))),
)

pub fits_next : (t : Table) (plan : List ComponentPlan) (rest after : List Out) (x : Out) → rest ≡ x ∷ after → AllByRecursion (FitsPlan t plan) (map report rest) → AllByRecursion (FitsPlan t plan) (map report after)
fits_next t plan rest after x e h = let k : AllByRecursion (FitsPlan t plan) (map report (x ∷ after)) = subst (λ (xs : List Out). AllByRecursion (FitsPlan t plan) (map report xs)) e h in k.1

-- all are told
pub all_told : (t : Table) (plan : List ComponentPlan) (all rest : List Out) (start now : List ℕ) → rest ≡ [] → IsToldTo t plan all rest start now
    → (events : List ℕ) × AreEventLines t plan (map report all) events × (now ≡ start ++ events)
all_told t plan all rest start now none h = (h.0, subst (AreEventLines t plan (map report all)) (append-nil h.0) (h.2 [] (subst (λ (xs : List Out). AreEventLines t plan (map report xs) []) (sym none) refl)), h.1)

-- ---- states

states_from : (t : Table) (plan : List ComponentPlan) (i : ℕ) (states : List StateNow) (s : StateNow) → i < length plan → slice_get states i ≡ Some s
    → states_text t (drop i plan) (drop i states) ≡ state_text t (component_at plan i) s.machines s.variables s.outstanding ++ states_text t (drop (suc i) plan) (drop (suc i) states)
states_from t [] i states s lt e = absurd (omega (arith, lt))
states_from t (c ∷ plan) i [] s lt e = absurd cc
states_from t (c ∷ plan) zero (x ∷ states) s lt e = let same : x ≡ s = cc in ap (λ (y : StateNow). state_text t c y.machines y.variables y.outstanding ++ states_text t plan states) same
states_from t (c ∷ plan) (suc i) (x ∷ states) s lt e = states_from t plan i states s (omega (arith, lt)) e

-- where one more component stands is told
pub states_next : (t : Table) (plan : List ComponentPlan) (states : List StateNow) (i j : ℕ) (s : StateNow) (old new line whole : List ℕ) → i < length plan → slice_get states i ≡ Some s → j ≡ suc i → new ≡ old ++ line
    → line ≡ state_text t (component_at plan i) s.machines s.variables s.outstanding → old ++ states_text t (drop i plan) (drop i states) ≡ whole → new ++ states_text t (drop j plan) (drop j states) ≡ whole
states_next t plan states i j s old new line whole lt e next n is h =
    ap (λ k. new ++ states_text t (drop k plan) (drop k states)) next
    ∙ ap (λ x. x ++ states_text t (drop (suc i) plan) (drop (suc i) states)) (n ∙ ap (λ x. old ++ x) is)
    ∙ append_assoc old (state_text t (component_at plan i) s.machines s.variables s.outstanding) (states_text t (drop (suc i) plan) (drop (suc i) states))
    ∙ ap (λ x. old ++ x) (sym (states_from t plan i states s lt e)) ∙ h

-- ---- lists

pub at_length : {A : Type 0} (xs : List A) (y : A) (ys : List A) → slice_get (xs ++ y ∷ ys) (length xs) ≡ Some y
at_length [] y ys = refl
at_length (x ∷ xs) y ys = at_length xs y ys

-- ---- a host that has handled a line

-- what left the run in it and what it made of the world are one of its courses
pub record Went (t : Table) (plan : List ComponentPlan) (ties : List Tie) (l : Told) (h g : HostNow) (x : Handled) (after : List Report) : Type 0 where
  pub course : Course
  pub goes : LineGoes (system t plan (other_end ties)) (reading t plan) l h.world course
  pub is : IsLine x course g.world [] after

went_by : (t : Table) (plan : List ComponentPlan) (ties : List Tie) (l : Told) (h g : HostNow) (x : Handled) (after : List Report) → IsOver t plan ties h → Goes l h g x [] after → Went t plan ties l h g x after
went_by t plan ties l h g x after o k =
    let one : LineGoes (system t h.plan (other_end h.wires)) (reading t h.plan) l h.world k.course = subst (λ y. LineGoes (system y h.plan (other_end h.wires)) (reading y h.plan) l h.world k.course) o.table k.goes in
    let two : LineGoes (system t plan (other_end h.wires)) (reading t plan) l h.world k.course = subst (λ y. LineGoes (system t y (other_end h.wires)) (reading t y) l h.world k.course) o.plan_is one in
    record { course = k.course; goes = subst (λ y. LineGoes (system t plan (other_end y)) (reading t plan) l h.world k.course) o.wires two; is = k.is }

pub went : (t : Table) (plan : List ComponentPlan) (ties : List Tie) (l : Told) (h g : HostNow) (x : Handled) (after : List Report) → IsOver t plan ties h → IsCalm h.phase → Handles h.phase l h g x [] after → Went t plan ties l h g x after
went t plan ties l h g x after o calm k = go h.phase calm k
  where
    go : (phase : Phase) → IsCalm phase → Handles phase l h g x [] after → Went t plan ties l h g x after
    go Fresh c k = went_by t plan ties l h g x after o k
    go Rests c k = went_by t plan ties l h g x after o k
    go Storm c k = absurd c
    go Spent c k = absurd c

-- the host is still fresh, and all lines are left; or it has gone on and rests
abbrev pub HasGoneOn : Phase → (lines rest : List (ℕ × Told)) → Type 0
HasGoneOn phase lines rest = ((phase ≡ Fresh) × (rest ≡ lines)) ⊎ (phase ≡ Rests)

pub is_calm : (phase : Phase) (lines rest : List (ℕ × Told)) → HasGoneOn phase lines rest → IsCalm phase
is_calm phase lines rest (inl h) = subst IsCalm (sym h.0) tt
is_calm phase lines rest (inr h) = subst IsCalm (sym h) tt

-- where none of some lines is left it has gone on
pub has_rested : (phase : Phase) (lines : List (ℕ × Told)) → 0 < length lines → HasGoneOn phase lines [] → phase ≡ Rests
has_rested phase lines some (inl h) = let none : length lines ≡ 0 = ap length (sym h.1) in absurd (omega (arith, some, none))
has_rested phase lines some (inr h) = h

-- ---- all lines

module _ (t : Table) (plan : List ComponentPlan) (ties : List Tie) where
  abbrev sys : System
  sys = system t plan (other_end ties)

  -- nothing is done yet
  pub none_run : (lines : List (ℕ × Told)) (w : World) (tally : Tally) → w ≡ unbegun sys → Counts [] tally → IsRunTo t plan ties lines lines w [] tally
  none_run lines w tally e k = record { done = []; split = refl; outs = []; count = refl; told = refl; counted = k; on = λ more end g. subst (λ u. RunGoes sys (reading t plan) (happenings lines) u more end) e g }

  -- what is told after one line more
  told_more : (outs : List (List Report)) (rs after : List Report) (report events : List ℕ) → AreEventLines t plan (all_events outs) report → after ≡ rs → AreEventLines t plan after events → AreEventLines t plan (all_events (outs ++ rs ∷ [])) (report ++ events)
  told_more outs rs after report events told e lines =
      subst (λ x. AreEventLines t plan x (report ++ events)) (sym (all_events_more outs rs)) (events_more t plan (all_events outs) rs report events told (subst (λ x. AreEventLines t plan x events) e lines))

  -- and what is counted
  counted_more : (outs : List (List Report)) (rs after : List Report) (old new : Tally) → Counts (all_events outs) old → after ≡ rs → CountsMore after old new → Counts (all_events (outs ++ rs ∷ [])) new
  counted_more outs rs after old new c e k =
      subst (λ x. Counts x new) (sym (all_events_more outs rs)) (record {
        sent = k.sent ∙ omega (arith, c.sent, ap (count_by is_sent) e, counted_append is_sent (all_events outs) rs);
        rejects = k.rejects ∙ omega (arith, c.rejects, ap (count_by is_reject) e, counted_append is_reject (all_events outs) rs);
      })

  -- one more line is done
  pub run_more : (lines : List (ℕ × Told)) (l : ℕ × Told) (rest : List (ℕ × Told)) (h g : HostNow) (report after : List ℕ) (old new : Tally) → IsOver t plan ties h → IsCalm h.phase
      → IsRunTo t plan ties lines (l ∷ rest) h.world report old → Tells t plan l.1 h g handled.Done report after old new → IsRunTo t plan ties lines rest g.world after new
  run_more lines l rest h g report after old new o calm r k =
      let w : Went t plan ties l.1 h g handled.Done k.outs = went t plan ties l.1 h g handled.Done k.outs o calm k.handles in
      let c : Course = w.course in
      record {
        done = r.done ++ l ∷ [];
        split = r.split ∙ sym (append_assoc r.done (l ∷ []) rest);
        outs = r.outs ++ c.outs ∷ [];
        count = length-append r.outs (c.outs ∷ []) ∙ ap (λ n. n + 1) r.count ∙ sym (length-append r.done (l ∷ []));
        told = subst (AreEventLines t plan (all_events (r.outs ++ c.outs ∷ []))) (sym k.told) (told_more r.outs c.outs k.outs report k.events r.told w.is.1 k.lines);
        counted = counted_more r.outs c.outs k.outs old new r.counted w.is.1 k.counted;
        on = λ more end goes. subst (λ x. Runs t plan ties lines x end) (sym (append_assoc r.outs (c.outs ∷ []) more))
            (r.on (c.outs ∷ more) end (c, more, w.goes, subst (λ o. RestGoes o more end (λ v os. RunGoes sys (reading t plan) (happenings rest) v os end)) (sym w.is.0) goes, refl));
      }

  -- all are done
  pub all_run : (lines : List (ℕ × Told)) (w : World) (report : List ℕ) (tally : Tally) → IsRunTo t plan ties lines [] w report tally → HasRun t plan ties lines w report tally
  all_run lines w report tally r = record { outs = r.outs; runs = subst (λ x. Runs t plan ties lines x (Some w)) (append-nil r.outs) (r.on [] (Some w) (refl, refl)); told = r.told; counted = r.counted }

  -- a line is a storm
  pub stormed : (lines : List (ℕ × Told)) (l : ℕ × Told) (rest : List (ℕ × Told)) (h g : HostNow) (report after : List ℕ) (old new : Tally) (stop : Stop) → IsOver t plan ties h → IsCalm h.phase
      → IsRunTo t plan ties lines (l ∷ rest) h.world report old → Tells t plan l.1 h g handled.Storm report after old new → stop ≡ storm after l.0 → IsStormy t plan ties lines (status_of stop.cause) stop.report
  stormed lines l rest h g report after old new stop o calm r k is =
      let w : Went t plan ties l.1 h g handled.Storm k.outs = went t plan ties l.1 h g handled.Storm k.outs o calm k.handles in
      let c : Course = w.course in
      let outs : List (List Report) = r.outs ++ c.outs ∷ [] in
      let count : length outs ≡ length r.done + 1 = length-append r.outs (c.outs ∷ []) ∙ ap (λ n. n + 1) r.count in
      let before : length outs - 1 ≡ length r.done = omega (arith, count) in
      let at : slice_get lines (length outs - 1) ≡ Some l = ap (slice_get lines) before ∙ ap (λ xs. slice_get xs (length r.done)) r.split ∙ at_length r.done l rest in
      let number : last_of lines (length outs) ≡ l.0 = ap (λ o. option_map_or (λ (x : ℕ × Told). x.0) o 0) at in
      let stopped : stop ≡ storm (report ++ k.events) (last_of lines (length outs)) = is ∙ ap (λ x. storm x l.0) k.told ∙ ap (storm (report ++ k.events)) (sym number) in
      record {
        outs = outs;
        runs = r.on (c.outs ∷ []) None (c, [], w.goes, subst (λ o. RestGoes o [] None (λ v os. RunGoes sys (reading t plan) (happenings rest) v os None)) (sym w.is.0) (refl, refl), refl);
        events = report ++ k.events;
        told = told_more r.outs c.outs k.outs report k.events r.told w.is.1 k.lines;
        stop = record { status_is = ap (λ (s : Stop). status_of s.cause) stopped; report_is = ap (λ (s : Stop). s.report) stopped };
      }

-- ---- a new host

-- a new host over the wires of a script is ready for its lines
pub host_ready : ScriptsMayRun → ScriptsMayBeHandled → (t : Table) (plan : List ComponentPlan) (text : List ℕ) (p : Plot) (h : HostNow) → KeepsRules t → IsRunnable t plan → script_of t plan text ≡ Ok p
    → h.table ≡ t → h.plan ≡ plan → ties_of plan (map (asked_by plan) p.wires) ≡ Ok h.wires → h.world ≡ unbegun (components h) → h.phase ≡ Fresh → IsReady t plan p.lines h
host_ready run handled t plan text p h rules runnable said et ep tied world fresh =
    let m = run t plan text p rules (plans_know_types t plan runnable.fits) said in
    let fits : PlanFits h.table (Conforms h.table) h.plan = subst (λ x. PlanFits x (Conforms x) h.plan) (sym et) (subst (PlanFits t (Conforms t)) (sym ep) runnable.fits) in
    let same : script_of h.table h.plan text ≡ Ok p = ap (λ x. script_of x h.plan text) et ∙ ap (λ x. script_of t x text) ep ∙ said in
    record {
      over = record { table = et; plan_is = ep; wires = refl };
      fresh = fresh;
      world = world;
      some = subst (λ (ls : List (ℕ × Told)). 0 < length ls) (sym m.lines) (omega arith);
      may = handled h text p (subst KeepsRules (sym et) rules) fits same (ap (λ x. ties_of x (map (asked_by x) p.wires)) ep ∙ tied);
    }

-- ---- between two lines

-- some lines of a script are done, and a host may go on with the rest
pub record IsBetween (t : Table) (plan : List ComponentPlan) (ties : List Tie) (lines rest : List (ℕ × Line)) (h : HostNow) (report : List ℕ) (tally : Tally) : Type 0 where
  pub over : IsOver t plan ties h
  pub stands : HasGoneOn h.phase (map numbered_told lines) (map numbered_told rest)
  pub may : MayAllBeHandled h.phase h (happenings (map numbered_told rest))
  pub run : IsRunTo t plan ties (map numbered_told lines) (map numbered_told rest) h.world report tally

pub between_first : (t : Table) (plan : List ComponentPlan) (lines rest : List (ℕ × Line)) (h : HostNow) (report : List ℕ) (tally : Tally) → rest ≡ lines → report ≡ [] → Counts [] tally → IsReady t plan (map numbered_told lines) h → IsBetween t plan h.wires lines rest h report tally
between_first t plan lines rest h report tally e none k r =
    let ls : List (ℕ × Told) = map numbered_told lines in
    let same : map numbered_told rest ≡ ls = ap (map numbered_told) e in
    let world : h.world ≡ unbegun (system t plan (other_end h.wires)) = r.world ∙ ap (λ x. unbegun (system x h.plan (other_end h.wires))) r.over.table ∙ ap (λ x. unbegun (system t x (other_end h.wires))) r.over.plan_is in
    record {
      over = r.over;
      stands = inl (r.fresh, same);
      may = subst (λ xs. MayAllBeHandled h.phase h (happenings xs)) (sym same) (subst (λ p. MayAllBeHandled p h (happenings ls)) (sym r.fresh) r.may);
      run = subst (λ xs. IsRunTo t plan h.wires ls xs h.world report tally) (sym same) (subst (λ x. IsRunTo t plan h.wires ls ls h.world x tally) (sym none) (none_run t plan h.wires ls h.world tally world k));
    }

pub between_next : (t : Table) (plan : List ComponentPlan) (ties : List Tie) (lines rest after : List (ℕ × Line)) (x : ℕ × Line) (h g : HostNow) (went : Handled) (old new : List ℕ) (before now : Tally) → rest ≡ x ∷ after → IsBetween t plan ties lines rest h old before
    → g.table ≡ h.table → g.plan ≡ h.plan → g.wires ≡ h.wires → g.phase ≡ standing_after went → ((ls : List Told) → MayAllBeHandled h.phase h (told x.1 ∷ ls) → MayAllBeHandled g.phase g ls)
    → Tells t plan (told x.1) h g went old new before now → went ≡ handled.Done → IsBetween t plan ties lines after g new now
between_next t plan ties lines rest after x h g went old new before now e k et ep ew phase more tells done =
    record {
      over = record { table = et ∙ k.over.table; plan_is = ep ∙ k.over.plan_is; wires = ew ∙ k.over.wires };
      stands = inr (phase ∙ ap standing_after done);
      may = more (happenings (map numbered_told after)) (subst (λ (xs : List (ℕ × Line)). MayAllBeHandled h.phase h (happenings (map numbered_told xs))) e k.may);
      run = run_more t plan ties (map numbered_told lines) (numbered_told x) (map numbered_told after) h g old new before now k.over (is_calm h.phase (map numbered_told lines) (map numbered_told rest) k.stands)
          (subst (λ (xs : List (ℕ × Line)). IsRunTo t plan ties (map numbered_told lines) (map numbered_told xs) h.world old before) e k.run) (subst (λ w. Tells t plan (told x.1) h g w old new before now) done tells);
    }

pub between_storm : (t : Table) (plan : List ComponentPlan) (ties : List Tie) (lines rest after : List (ℕ × Line)) (x : ℕ × Line) (h g : HostNow) (went : Handled) (old new : List ℕ) (before now : Tally) (stop : Stop) → rest ≡ x ∷ after → IsBetween t plan ties lines rest h old before
    → Tells t plan (told x.1) h g went old new before now → went ≡ handled.Storm → stop ≡ storm new x.0 → IsStormy t plan ties (map numbered_told lines) (status_of stop.cause) stop.report
between_storm t plan ties lines rest after x h g went old new before now stop e k tells storm is =
    stormed t plan ties (map numbered_told lines) (numbered_told x) (map numbered_told after) h g old new before now stop k.over (is_calm h.phase (map numbered_told lines) (map numbered_told rest) k.stands)
    (subst (λ (xs : List (ℕ × Line)). IsRunTo t plan ties (map numbered_told lines) (map numbered_told xs) h.world old before) e k.run) (subst (λ w. Tells t plan (told x.1) h g w old new before now) storm tells) is

pub between_last : (t : Table) (plan : List ComponentPlan) (ties : List Tie) (lines rest : List (ℕ × Line)) (h : HostNow) (report : List ℕ) (tally : Tally) → length rest < 1 → IsBetween t plan ties lines rest h report tally → HasRun t plan ties (map numbered_told lines) h.world report tally
between_last t plan ties lines [] h report tally lt k = all_run t plan ties (map numbered_told lines) h.world report tally k.run
between_last t plan ties lines (x ∷ rest) h report tally lt k = absurd (omega (arith, lt))

-- the host has gone on in the end
pub rests_last : (phase : Phase) (lines rest : List (ℕ × Line)) → length rest < 1 → 0 < length (map numbered_told lines) → HasGoneOn phase (map numbered_told lines) (map numbered_told rest) → phase ≡ Rests
rests_last phase lines [] lt some h = has_rested phase (map numbered_told lines) some h
rests_last phase lines (x ∷ rest) lt some h = absurd (omega (arith, lt))
