-- The lines of a session are judged one after another.
use Rattle.std.proofs.Common.{◌≡◌, ℕ, ◌+◌, ◌-◌, ◌<◌, ◌≤◌, suc, List, [], ◌∷◌, ◌++◌, get_or, length, take, map, Option, Some, None, Ok, slice_get, inl, inr, refl, sym, ap, subst, ◌∙◌, arith}
use Rattle.std.specs.Option.{option_map_or}
use Rattle.std.proofs.lemmas.List.{append-nil, append_assoc, length-append}
use Rattle.eds_base.specs.declared.fail.Fail.{Fail}
use Rattle.eds_base.specs.declared.fail.Fail.TheVariants as fails
use Rattle.eds_host.specs.Hosts.{HostNow, MayAllBeHandled, RunsHaveOneOutcome, reading}
use Rattle.eds_host.specs.Plans.{system}
use Rattle.eds_host.specs.Runs.{Course, LineGoes, RestGoes, RunGoes, unbegun}
use Rattle.eds_host.specs.Systems.{System, World}
use Rattle.eds_host.specs.Wires.{other_end}
use Rattle.eds_host.specs.declared.handled.Handled.TheVariants as handled
use Rattle.eds_host.specs.declared.host.Phase.TheVariants.{Rests}
use Rattle.eds_host.specs.declared.wiring.Tie.{Tie}
use Rattle.eds_plan.specs.Lines.{Told, told}
use Rattle.eds_plan.specs.Outs.{Report}
use Rattle.eds_plan.specs.declared.component.ComponentPlan.{ComponentPlan}
use Rattle.eds_plan.specs.declared.run.Line.{Line}
use Rattle.eds_replay.specs.Differences.{AllAgree, IsFirstDifference}
use Rattle.eds_replay.specs.Judges.{JudgeNow}
use Rattle.eds_replay.specs.Sessions.{recorded_for}
use Rattle.eds_replay.specs.declared.differs.Differs.{Differs}
use Rattle.eds_replay.specs.declared.session.Recorded.{Recorded}
use Rattle.eds_script.specs.Scripts.{Plot, script_of}
use Rattle.eds_script.specs.Seen.{numbered_told}
use Rattle.eds_types.specs.Rows.{Table}
use Rattle.eds_types.specs.Rules.{KeepsRules}
use Rattle.eds_cmd.specs.Endings.{StopSays}
use Rattle.eds_cmd.specs.Replay.{Compares, LinesAgree, LinesDiffer, ReplaysOver, outs_done}
use Rattle.eds_cmd.specs.Replaying.{AreLater, DiffersAt, EndsAt, Passes, StormsAt}
use Rattle.eds_cmd.specs.ReplayLaws.{ScriptsGo}
use Rattle.eds_cmd.specs.Reports.{agrees_line}
use Rattle.eds_cmd.specs.Run.{IsRunnable, Runs, all_events, last_of, wired}
use Rattle.eds_cmd.specs.Running.{IsOver, IsReady, happenings}
use Rattle.eds_cmd.specs.Stops.{IsStop, status_of, storm}
use Rattle.eds_cmd.specs.declared.status.Status.{Status}
use Rattle.eds_cmd.specs.declared.status.Status.TheVariants as statuses
use Rattle.eds_cmd.specs.declared.stop.Stop.{Stop}
use Rattle.eds_cmd.proofs.Running.{HasGoneOn, IsCalm, Went, all_events_more, at_length, is_calm, went}

-- ---- lists

-- the first of some is the same, whatever stands for it where there is none
pub same_first : {A : Type 0} (xs : List A) (d e : A) → 1 ≤ length xs → get_or xs 0 d ≡ get_or xs 0 e
same_first [] d e some = absurd (omega (arith, some))
same_first (x ∷ xs) d e some = refl

-- ---- what is done

-- all but the last of some, where there is one behind the front
take_front : {A : Type 0} (front rest : List A) → 1 ≤ length rest → take (length (front ++ rest) - 1) (front ++ rest) ≡ front ++ take (length rest - 1) rest
take_front [] rest some = refl
take_front (x ∷ front) rest some =
    let size : length (x ∷ front ++ rest) - 1 ≡ suc (length (front ++ rest) - 1) = omega (arith, length-append front rest, some) in
    ap (λ n. take n (x ∷ front ++ rest)) size ∙ ap (λ xs. x ∷ xs) (take_front front rest some)

-- a line that is done stands among what is done
record IsDone (front : List (List Report)) (now : List Report) (others : List (List Report)) (end : Option World) : Type 0 where
  behind : List (List Report)
  is : outs_done (front ++ now ∷ others) end ≡ front ++ now ∷ behind

line_done : (front : List (List Report)) (now : List Report) (others : List (List Report)) (end : Option World) → (end ≡ None → 1 ≤ length others) → IsDone front now others end
line_done front now others (Some w) some = record { behind = others; is = refl }
line_done front now others None some =
    let more : 1 ≤ length others = some refl in
    let size : length (now ∷ others) - 1 ≡ suc (length others - 1) = omega (arith, more) in
    record {
      behind = take (length others - 1) others;
      is = take_front front (now ∷ others) (omega arith) ∙ ap (λ n. front ++ take n (now ∷ others)) size;
    }

module _ (t : Table) (plan : List ComponentPlan) (ties : List Tie) where
  abbrev pub sys : System
  sys = system t plan (other_end ties)

  -- lines make this of a world
  abbrev pub Go : List Told → World → List (List Report) → Option World → Type 0
  Go ls w outs end = RunGoes sys (reading t plan) ls w outs end

  abbrev pub RestOf : List Told → Option World → Option World → List (List Report) → Type 0
  RestOf ls next end os = RestGoes next os end (λ v qs. Go ls v qs end)

  module _ (recorded : List Recorded) where
    -- the first lines are done, and their recordings agree; these are left
    pub record IsJudgedTo (lines rest : List (ℕ × Told)) (w : World) (agreed otherwise : ℕ) : Type 0 where
      pub done : List (ℕ × Told)
      pub split : lines ≡ done ++ rest
      pub outs : List (List Report)
      pub count : length outs ≡ length done
      pub agreed_is : agreed ≡ length (all_events outs)
      -- what all lines make is what the first make, and then what those that are left make of this world
      pub behind : (all : List (List Report)) (end : Option World) → Runs t plan ties lines all end → (more : List (List Report)) × (all ≡ outs ++ more) × Go (happenings rest) w more end
      -- and what comes of the recordings of those that are left comes of all
      pub agree : (more : List (List Report)) (n : ℕ) → LinesAgree t plan recorded rest more n → LinesAgree t plan recorded lines (outs ++ more) (otherwise + n)
      pub differ : (more : List (List Report)) (d : Differs) → LinesDiffer t plan recorded rest more d → LinesDiffer t plan recorded lines (outs ++ more) d

    -- whatever run of the lines this is
    abbrev pub Ends : List (ℕ × Told) → Status → List ℕ → Type 0
    Ends lines status report = (outs : List (List Report)) (end : Option World) → Runs t plan ties lines outs end → Compares t plan recorded lines outs end status report

    -- the first lines of a script are judged, and a host and a judge may go on with the rest
    pub record IsJudging (lines rest : List (ℕ × Line)) (h : HostNow) (j : JudgeNow) : Type 0 where
      pub over : IsOver t plan ties h
      pub stands : HasGoneOn h.phase (map numbered_told lines) (map numbered_told rest)
      pub may : MayAllBeHandled h.phase h (happenings (map numbered_told rest))
      pub later : AreLater j.last (map numbered_told rest)
      pub recorded_is : j.recorded ≡ recorded
      pub judged : IsJudgedTo (map numbered_told lines) (map numbered_told rest) h.world j.agreed j.otherwise

module _ (one_outcome : RunsHaveOneOutcome) (t : Table) (plan : List ComponentPlan) (rules : KeepsRules t) (run : IsRunnable t plan) (ties : List Tie) (recorded : List Recorded) where
  -- ---- one line

  alone : (l : Told) (w : World) (c : Course) → LineGoes (sys t plan ties) (reading t plan) l w c → Go t plan ties (l ∷ []) w (c.outs ∷ []) c.end
  alone l w c goes = (c, [], goes, rest c.end, refl)
    where
      rest : (end : Option World) → RestOf t plan ties [] end end []
      rest None = (refl, refl)
      rest (Some v) = (refl, refl)

  -- a line has one course
  record IsSame (c d : Course) : Type 0 where
    outs : c.outs ≡ d.outs
    end : c.end ≡ d.end

  one_course : (l : Told) (w : World) (c d : Course) → LineGoes (sys t plan ties) (reading t plan) l w c → LineGoes (sys t plan ties) (reading t plan) l w d → IsSame c d
  one_course l w c d g k =
      let same = one_outcome t plan (other_end ties) (l ∷ []) w (c.outs ∷ []) (d.outs ∷ []) c.end d.end rules run.fits run.clear (alone l w c g) (alone l w d k) in
      let outs : c.outs ∷ [] ≡ d.outs ∷ [] = same.0 in
      record { outs = cc outs; end = same.1 }

  -- a run whose next line is this one
  record GoesBy (now : List Report) (next : Option World) (ls : List Told) (more : List (List Report)) (end : Option World) : Type 0 where
    others : List (List Report)
    is : more ≡ now ∷ others
    rest : RestOf t plan ties ls next end others

  goes_by : (l : Told) (ls : List Told) (w : World) (c : Course) (now : List Report) (next : Option World) → LineGoes (sys t plan ties) (reading t plan) l w c → c.end ≡ next → now ≡ c.outs
      → (more : List (List Report)) (end : Option World) → Go t plan ties (l ∷ ls) w more end → GoesBy now next ls more end
  goes_by l ls w c now next goes next_is now_is more end k =
      let same = one_course l w c k.0 goes k.2 in
      record {
        others = k.1;
        is = k.4 ∙ ap (λ os. os ∷ k.1) (sym (now_is ∙ same.outs));
        rest = subst (λ o. RestOf t plan ties ls o end k.1) (sym same.end ∙ next_is) k.3;
      }

  -- ---- between two lines

  judged_none : (lines : List (ℕ × Told)) (w : World) (agreed otherwise : ℕ) → w ≡ unbegun (sys t plan ties) → agreed ≡ 0 → otherwise ≡ 0 → IsJudgedTo t plan ties recorded lines lines w agreed otherwise
  judged_none lines w agreed otherwise new none zero = record {
    done = [];
    split = refl;
    outs = [];
    count = refl;
    agreed_is = none;
    behind = λ all end r. (all, refl, subst (λ u. Go t plan ties (happenings lines) u all end) (sym new) r);
    agree = λ more n h. let number : n ≡ otherwise + n = omega (arith, zero) in subst (LinesAgree t plan recorded lines more) number h;
    differ = λ more d h. h;
  }

  judged_more : (lines : List (ℕ × Told)) (l : ℕ × Told) (rest : List (ℕ × Told)) (h g : HostNow) (j k : JudgeNow) → IsOver t plan ties h → IsCalm h.phase → j.recorded ≡ recorded
      → IsJudgedTo t plan ties recorded lines (l ∷ rest) h.world j.agreed j.otherwise → Passes t plan l h g j k → IsJudgedTo t plan ties recorded lines rest g.world k.agreed k.otherwise
  judged_more lines l rest h g j k o calm is to p =
      let w : Went t plan ties l.1 h g handled.Done p.outs = went t plan ties l.1 h g handled.Done p.outs o calm p.handles in
      let all : AllAgree t plan (recorded_for l.0 recorded) p.outs p.agreed.more = subst (λ rs. AllAgree t plan (recorded_for l.0 rs) p.outs p.agreed.more) is p.agreed.all in
      record {
        done = to.done ++ l ∷ [];
        split = to.split ∙ sym (append_assoc to.done (l ∷ []) rest);
        outs = to.outs ++ p.outs ∷ [];
        count = length-append to.outs (p.outs ∷ []) ∙ ap (λ n. n + 1) to.count ∙ sym (length-append to.done (l ∷ []));
        agreed_is = p.agreed.agreed ∙ ap (λ n. n + length p.outs) to.agreed_is ∙ sym (length-append (all_events to.outs) p.outs) ∙ ap length (sym (all_events_more to.outs p.outs));
        behind = λ every end r.
            let b = to.behind every end r in
            let n = goes_by l.1 (happenings rest) h.world w.course p.outs (Some g.world) w.goes w.is.0 w.is.1 b.0 end b.2 in
            (n.others, b.1 ∙ ap (λ m. to.outs ++ m) n.is ∙ sym (append_assoc to.outs (p.outs ∷ []) n.others), n.rest);
        agree = λ more n a.
            let one : LinesAgree t plan recorded lines (to.outs ++ p.outs ∷ more) (j.otherwise + (p.agreed.more + n)) = to.agree (p.outs ∷ more) (p.agreed.more + n) (p.agreed.more, n, all, a, refl) in
            let number : j.otherwise + (p.agreed.more + n) ≡ k.otherwise + n = omega (arith, p.agreed.otherwise) in
            subst (λ x. LinesAgree t plan recorded lines x (k.otherwise + n)) (sym (append_assoc to.outs (p.outs ∷ []) more)) (subst (λ x. LinesAgree t plan recorded lines (to.outs ++ p.outs ∷ more) x) number one);
        differ = λ more d a. subst (λ x. LinesDiffer t plan recorded lines x d) (sym (append_assoc to.outs (p.outs ∷ []) more)) (to.differ (p.outs ∷ more) d (inr (p.agreed.more, all, a)));
      }

  -- ---- the end

  -- where lines end in no world, there is one at least that left something
  some_left : (ls : List Told) (w : World) (outs : List (List Report)) (end : Option World) → Go t plan ties ls w outs end → end ≡ None → 1 ≤ length outs
  some_left [] w outs end k none = let wrong : None ≡ Some w = sym none ∙ k.1 in absurd (cc wrong)
  some_left (l ∷ ls) w outs end k none = let size : length outs ≡ length (k.0.outs ∷ k.1) = ap length k.4 in omega (arith, size)

  differs_ends : (lines : List (ℕ × Told)) (l : ℕ × Told) (rest : List (ℕ × Told)) (h g : HostNow) (j : JudgeNow) (status : Status) (report : List ℕ) → IsOver t plan ties h → IsCalm h.phase → j.recorded ≡ recorded
      → IsJudgedTo t plan ties recorded lines (l ∷ rest) h.world j.agreed j.otherwise → DiffersAt t plan l h g j status report → Ends t plan ties recorded lines status report
  differs_ends lines l rest h g j status report o calm is to d every end r =
      let w : Went t plan ties l.1 h g handled.Done d.outs = went t plan ties l.1 h g handled.Done d.outs o calm d.handles in
      let b = to.behind every end r in
      let n = goes_by l.1 (happenings rest) h.world w.course d.outs (Some g.world) w.goes w.is.0 w.is.1 b.0 end b.2 in
      let whole : every ≡ to.outs ++ d.outs ∷ n.others = b.1 ∙ ap (λ m. to.outs ++ m) n.is in
      let done = line_done to.outs d.outs n.others end (some_left (happenings rest) g.world n.others end n.rest) in
      let here : outs_done every end ≡ to.outs ++ d.outs ∷ done.behind = ap (λ os. outs_done os end) whole ∙ done.is in
      let first : IsFirstDifference t plan l.0 (recorded_for l.0 recorded) d.outs d.difference = subst (λ rs. IsFirstDifference t plan l.0 (recorded_for l.0 rs) d.outs d.difference) is d.first in
      inr (inl (record {
        difference = d.difference;
        first = subst (λ os. LinesDiffer t plan recorded lines os d.difference) (sym here) (to.differ (d.outs ∷ done.behind) d.difference (inl first));
        stop = d.stop;
      }))

  storms_ends : (lines : List (ℕ × Told)) (l : ℕ × Told) (rest : List (ℕ × Told)) (h g : HostNow) (j : JudgeNow) (status : Status) (report : List ℕ) → IsOver t plan ties h → IsCalm h.phase
      → IsJudgedTo t plan ties recorded lines (l ∷ rest) h.world j.agreed j.otherwise → StormsAt l h g status report → Ends t plan ties recorded lines status report
  storms_ends lines l rest h g j status report o calm to s every end r =
      let w : Went t plan ties l.1 h g handled.Storm s.outs = went t plan ties l.1 h g handled.Storm s.outs o calm s.handles in
      let b = to.behind every end r in
      let n = goes_by l.1 (happenings rest) h.world w.course s.outs None w.goes w.is.0 w.is.1 b.0 end b.2 in
      let stops : (n.others ≡ []) × (end ≡ None) = n.rest in
      let whole : every ≡ to.outs ++ s.outs ∷ [] = b.1 ∙ ap (λ m. to.outs ++ m) (n.is ∙ ap (λ os. s.outs ∷ os) stops.0) in
      let here : outs_done every end ≡ to.outs ++ [] = ap (λ o. outs_done every o) stops.1 ∙ ap (λ os. outs_done os None) whole ∙ take_front to.outs (s.outs ∷ []) (omega arith) in
      let size : length every - 1 ≡ length to.done = omega (arith, ap length whole, length-append to.outs (s.outs ∷ []), to.count) in
      let at : slice_get lines (length every - 1) ≡ Some l = ap (slice_get lines) size ∙ ap (λ xs. slice_get xs (length to.done)) to.split ∙ at_length to.done l rest in
      let number : last_of lines (length every) ≡ l.0 = ap (λ x. option_map_or (λ (y : ℕ × Told). y.0) x 0) at in
      inr (inr (record {
        stormy = stops.1;
        otherwise = j.otherwise + 0;
        agree = subst (λ os. LinesAgree t plan recorded lines os (j.otherwise + 0)) (sym here) (to.agree [] 0 refl);
        stop = subst (λ m. IsStop (storm [] m) status report) (sym number) s.stop;
      }))

  all_ends : (lines : List (ℕ × Told)) (w : World) (agreed otherwise : ℕ) → IsJudgedTo t plan ties recorded lines [] w agreed otherwise → Ends t plan ties recorded lines statuses.Done (agrees_line agreed otherwise)
  all_ends lines w agreed otherwise to every end r =
      let b = to.behind every end r in
      let rest : (b.0 ≡ []) × (end ≡ Some w) = b.2 in
      let whole : every ≡ to.outs ++ [] = b.1 ∙ ap (λ m. to.outs ++ m) rest.0 in
      let count : agreed ≡ length (all_events every) = to.agreed_is ∙ ap (λ os. length (all_events os)) (sym (whole ∙ append-nil to.outs)) in
      let number : otherwise + 0 ≡ otherwise = omega arith in
      inl (record {
        world = w;
        calm = rest.1;
        otherwise = otherwise;
        agree = subst (λ n. LinesAgree t plan recorded lines every n) number (subst (λ os. LinesAgree t plan recorded lines os (otherwise + 0)) (sym whole) (to.agree [] 0 refl));
        status_is = refl;
        report_is = ap (λ n. agrees_line n otherwise) count;
      })

  -- ---- a host and a judge

  pub judging_first : (lines rest : List (ℕ × Line)) (h : HostNow) (j : JudgeNow) → rest ≡ lines → ties ≡ h.wires → IsReady t plan (map numbered_told lines) h → AreLater j.last (map numbered_told lines) → j.recorded ≡ recorded
      → j.agreed ≡ 0 → j.otherwise ≡ 0 → IsJudging t plan ties recorded lines rest h j
  judging_first lines rest h j e wires r later is none zero =
      let ls : List (ℕ × Told) = map numbered_told lines in
      let same : map numbered_told rest ≡ ls = ap (map numbered_told) e in
      let over : IsOver t plan ties h = subst (λ x. IsOver t plan x h) (sym wires) r.over in
      let new : h.world ≡ unbegun (sys t plan ties) = r.world ∙ ap (λ x. unbegun (system x h.plan (other_end h.wires))) r.over.table ∙ ap (λ x. unbegun (system t x (other_end h.wires))) r.over.plan_is ∙ ap (λ x. unbegun (system t plan (other_end x))) (sym wires) in
      record {
        over = over;
        stands = inl (r.fresh, same);
        may = subst (λ xs. MayAllBeHandled h.phase h (happenings xs)) (sym same) (subst (λ p. MayAllBeHandled p h (happenings ls)) (sym r.fresh) r.may);
        later = subst (AreLater j.last) (sym same) later;
        recorded_is = is;
        judged = subst (λ xs. IsJudgedTo t plan ties recorded ls xs h.world j.agreed j.otherwise) (sym same) (judged_none ls h.world j.agreed j.otherwise new none zero);
      }

  pub judging_next : (lines rest after : List (ℕ × Line)) (x : ℕ × Line) (number : ℕ) (h g : HostNow) (j k : JudgeNow) → rest ≡ x ∷ after → number ≡ x.0 → IsJudging t plan ties recorded lines rest h j
      → g.table ≡ h.table → g.plan ≡ h.plan → g.wires ≡ h.wires → g.phase ≡ Rests → ((ls : List Told) → MayAllBeHandled h.phase h (told x.1 ∷ ls) → MayAllBeHandled g.phase g ls)
      → k.recorded ≡ j.recorded → k.last ≡ Some number → Passes t plan (number, told x.1) h g j k → IsJudging t plan ties recorded lines after g k
  judging_next lines rest after x number h g j k e is to et ep ew phase more kept last passes =
      let later : AreLater j.last (map numbered_told (x ∷ after)) = subst (λ (xs : List (ℕ × Line)). AreLater j.last (map numbered_told xs)) e to.later in
      record {
        over = record { table = et ∙ to.over.table; plan_is = ep ∙ to.over.plan_is; wires = ew ∙ to.over.wires };
        stands = inr phase;
        may = more (happenings (map numbered_told after)) (subst (λ (xs : List (ℕ × Line)). MayAllBeHandled h.phase h (happenings (map numbered_told xs))) e to.may);
        later = subst (λ o. AreLater o (map numbered_told after)) (sym (last ∙ ap Some is)) later.1;
        recorded_is = kept ∙ to.recorded_is;
        judged = judged_more (map numbered_told lines) (numbered_told x) (map numbered_told after) h g j k to.over (is_calm h.phase (map numbered_told lines) (map numbered_told rest) to.stands) to.recorded_is
            (subst (λ (xs : List (ℕ × Line)). IsJudgedTo t plan ties recorded (map numbered_told lines) (map numbered_told xs) h.world j.agreed j.otherwise) e to.judged) (subst (λ n. Passes t plan (n, told x.1) h g j k) is passes);
      }

  ends_at : (lines rest after : List (ℕ × Line)) (x : ℕ × Line) (h g : HostNow) (j : JudgeNow) (status : Status) (report : List ℕ) → rest ≡ x ∷ after → IsJudging t plan ties recorded lines rest h j
      → EndsAt t plan (numbered_told x) h g j status report → Ends t plan ties recorded (map numbered_told lines) status report
  ends_at lines rest after x h g j status report e to ends = go ends
    where
      calm : IsCalm h.phase
      calm = is_calm h.phase (map numbered_told lines) (map numbered_told rest) to.stands

      judged : IsJudgedTo t plan ties recorded (map numbered_told lines) (map numbered_told (x ∷ after)) h.world j.agreed j.otherwise
      judged = subst (λ (xs : List (ℕ × Line)). IsJudgedTo t plan ties recorded (map numbered_told lines) (map numbered_told xs) h.world j.agreed j.otherwise) e to.judged

      go : EndsAt t plan (numbered_told x) h g j status report → Ends t plan ties recorded (map numbered_told lines) status report
      go (inl d) = differs_ends (map numbered_told lines) (numbered_told x) (map numbered_told after) h g j status report to.over calm to.recorded_is judged d
      go (inr s) = storms_ends (map numbered_told lines) (numbered_told x) (map numbered_told after) h g j status report to.over calm judged s

  pub judging_ends : (lines rest after : List (ℕ × Line)) (x : ℕ × Line) (number : ℕ) (h g : HostNow) (j : JudgeNow) (fail : Fail Stop) → rest ≡ x ∷ after → number ≡ x.0 → IsJudging t plan ties recorded lines rest h j
      → StopSays (EndsAt t plan (number, told x.1) h g j) fail → StopSays (Ends t plan ties recorded (map numbered_told lines)) fail
  judging_ends lines rest after x number h g j (fails.Named stop) e is to ends =
      ends_at lines rest after x h g j (status_of stop.cause) stop.report e to (subst (λ n. EndsAt t plan (n, told x.1) h g j (status_of stop.cause) stop.report) is ends)
  judging_ends lines rest after x number h g j fails.Memory e is to ends = tt

  pub judging_last : (lines rest : List (ℕ × Line)) (h : HostNow) (j : JudgeNow) → length rest < 1 → IsJudging t plan ties recorded lines rest h j → Ends t plan ties recorded (map numbered_told lines) statuses.Done (agrees_line j.agreed j.otherwise)
  judging_last lines [] h j lt to = all_ends (map numbered_told lines) h.world j.agreed j.otherwise to.judged
  judging_last lines (x ∷ rest) h j lt to = absurd (omega (arith, lt))

-- ---- all lines

module _ (go : ScriptsGo) (t : Table) (plan : List ComponentPlan) (rules : KeepsRules t) (run : IsRunnable t plan) (text : List ℕ) (p : Plot) (ties : List Tie) (good : script_of t plan text ≡ Ok p) (tied : wired plan p ≡ Ok ties) (recorded : List Recorded) where
  -- the run that there is comes to what every run comes to
  pub replayed : (status : Status) (report : List ℕ) → Ends t plan ties recorded p.lines status report → ReplaysOver t plan (wired plan p) p.lines recorded status report
  replayed status report ends =
      let r = go t plan text p ties rules run good tied in
      subst (λ x. ReplaysOver t plan x p.lines recorded status report) (sym tied) (record { outs = r.0; end = r.1; runs = r.2; compares = ends r.0 r.1 r.2 })

  pub replay_stopped : (fail : Fail Stop) → StopSays (Ends t plan ties recorded p.lines) fail → StopSays (ReplaysOver t plan (wired plan p) p.lines recorded) fail
  replay_stopped (fails.Named stop) ends = replayed (status_of stop.cause) stop.report ends
  replay_stopped fails.Memory ends = tt
