-- Time goes on in the course of a line.
use Rattle.std.proofs.Common.{◌≡◌, ◌≤◌, ◌+◌, ℕ, zero, suc, List, [], ◌∷◌, Bool, true, false, cond, Option, Some, None, refl, sym, ap, subst, ◌∙◌, arith, inl, inr}
use Rattle.std.specs.Prelude.{IfSome, slice_set, slice_get, unwrap_or, nat_le, ◌⊎◌}
use Rattle.std.proofs.lemmas.Bool.Decides.{nat_tests}
use Rattle.eds_plan.specs.Outs.{Signal}
use Rattle.eds_plan.specs.States.{StateNow}
use Rattle.eds_host.specs.declared.due.Due.{Due}
use Rattle.eds_host.specs.Laws.{AllTakeTheirTime, IsOnTime, IsPunctual, NoneIsLate, NotBefore, TakesItsTime, TimeGoesOn, TimersAreOnTime, WaitFrom}
use Rattle.eds_host.specs.Runs.{Chain}
use Rattle.eds_host.specs.Systems.{System, World, Happening, Coming, arrival, moment, next, next_by, fires, has_come, first_due, settles, arrives, no_state}
use Rattle.eds_host.proofs.Moments.{ComesBy, due_waited, first_late, none_before, rest_later}

got : {A : Type 0} (a b : A) → Some a ≡ Some b → a ≡ b
got a b e = cc

-- what stands in a list after one item was set: that item, where there was one, or what stood there
pub set_or : {A : Type 0} (xs : List A) (c i : ℕ) (s x : A) → slice_get (slice_set xs c s) i ≡ Some x → ((i ≡ c) × (s ≡ x) × (y : A) × (slice_get xs c ≡ Some y)) ⊎ (slice_get xs i ≡ Some x)
set_or [] c i s x e = inr e
set_or (y ∷ ys) zero zero s x e = inl (refl, got s x e, y, refl)
set_or (y ∷ ys) zero (suc i) s x e = inr e
set_or (y ∷ ys) (suc c) zero s x e = inr e
set_or (y ∷ ys) (suc c) (suc i) s x e = elim (set_or ys c i s x e) [ inl h ↦ inl (ap suc h.0, h.1, h.2, h.3) | inr h ↦ inr h ]

-- what has come was due
pub come : (until : Option ℕ) (d : Option Due) (x : Due) → has_come until d ≡ Some x → d ≡ Some x
come None d x e = absurd cc
come (Some u) None x e = absurd cc
come (Some u) (Some y) x e = go (nat_le y.moment u) e
  where
    go : (b : Bool) → cond b (Some y) None ≡ Some x → Some y ≡ Some x
    go true e = e
    go false e = absurd cc

-- and it has come by then
pub come_by : (until : Option ℕ) (d : Option Due) (x : Due) → has_come until d ≡ Some x → IfSome until (λ u. x.moment ≤ u)
come_by None d x e = tt
come_by (Some u) None x e = absurd cc
come_by (Some u) (Some y) x e = go (nat_le y.moment u) refl e
  where
    go : (b : Bool) → nat_le y.moment u ≡ b → cond b (Some y) None ≡ Some x → x.moment ≤ u
    go true p e = let le : y.moment ≤ u = grind (arith, nat_tests) in subst (λ (z : Due). z.moment ≤ u) (got y x e) le
    go false p e = absurd cc

module _ (sys : System) (punctual : IsPunctual sys) where
  -- an event comes to a component at a time before which nothing waits
  pub reacted : (comp : ℕ) (e : Coming) (b now : ℕ) (xs : List StateNow) → b ≤ now + 1 → WaitFrom sys b xs → WaitFrom sys b (slice_set xs comp (sys.reacts comp e now (unwrap_or (slice_get xs comp) no_state)).state)
  reacted comp e b now xs le h i s g = elim (set_or xs comp i _ s g) [
    | inl q ↦ subst (λ n. NotBefore b (sys.waits n s)) (sym q.0) (subst (λ (y : StateNow). NotBefore b (sys.waits comp y)) q.1 (here (slice_get xs comp) q.2 q.3 refl))
    | inr q ↦ h i s q
  ]
    where
      here : (o : Option StateNow) (y : StateNow) → o ≡ Some y → slice_get xs comp ≡ o → NotBefore b (sys.waits comp (sys.reacts comp e now (unwrap_or o no_state)).state)
      here (Some x) y q p = punctual comp now b e x le (h comp x p)
      here None y q p = absurd cc

  abbrev Goes : World → Happening → Type 0
  Goes w h = (w.now ≤ h.world.now) × WaitFrom sys h.world.now h.world.states

  step : (until : Option ℕ) (w : World) (h : Happening) → WaitFrom sys w.now w.states → next sys until w ≡ Some h → Goes w h
  unfolding next settles
  step until w h wait e = go w.queue e
    where
      moved : (k : Happening) → Some k ≡ Some h → Goes w k → Goes w h
      moved k p g = let same : k ≡ h = cc in subst (λ (x : Happening). Goes w x) same g

      fired : (d d2 : Option Due) → d ≡ first_due sys 0 w.states → has_come until d ≡ d2 → fires sys w d2 ≡ Some h → Goes w h
      fired d None l c e = absurd cc
      fired d (Some x) l c e =
          let first : first_due sys 0 w.states ≡ Some x = sym l ∙ come until d x c in
          let late : w.now ≤ x.moment = subst (ComesBy w.now) first (first_late sys w.now w.states wait) in
          let all : WaitFrom sys x.moment w.states = none_before sys x.moment w.states (subst (ComesBy x.moment) (sym first) (omega arith)) in
          moved (arrives sys x.comp (moment x.machine) (record w { now = x.moment })) e (late, reacted x.comp (moment x.machine) x.moment x.moment w.states (omega arith) all)

      go : (q : List Signal) → next_by sys until w q ≡ Some h → Goes w h
      go [] e = fired (first_due sys 0 w.states) (has_come until (first_due sys 0 w.states)) refl refl e
      go (s ∷ ss) e = moved (arrives sys s.end.comp.0 (arrival s) (record w { queue = ss })) e (omega arith, reacted s.end.comp.0 (arrival s) w.now w.now w.states (omega arith) wait)

  timed : (until : Option ℕ) (w : World) (h : Happening) → WaitFrom sys w.now w.states → next sys until w ≡ Some h → TakesItsTime sys until w h w.queue
  unfolding next settles
  timed until w h wait e = go w.queue e
    where
      fired : (d : Option Due) → has_come until (first_due sys 0 w.states) ≡ d → fires sys w d ≡ Some h → (x : Due) × IsOnTime sys until w h x
      fired None c e = absurd cc
      fired (Some x) c e =
          let first : first_due sys 0 w.states ≡ Some x = come until (first_due sys 0 w.states) x c in
          let waited = due_waited sys w.states x first in
          let at : x.comp ≡ waited.at = omega (arith, waited.comp) in
          let same : arrives sys x.comp (moment x.machine) (record w { now = x.moment }) ≡ h = cc in (
            x,
            record {
              waits = ap (λ i. sys.waits x.comp (unwrap_or (slice_get w.states i) no_state)) at ∙ ap (λ o. sys.waits x.comp (unwrap_or o no_state)) waited.there ∙ waited.waits;
              is = sym same;
              on_time = ap (λ (k : Happening). k.world.now) (sym same);
              not_late = subst (ComesBy w.now) first (first_late sys w.now w.states wait);
              not_early = come_by until (first_due sys 0 w.states) x c;
            },
          )

      go : (q : List Signal) → next_by sys until w q ≡ Some h → TakesItsTime sys until w h q
      go [] e = fired (has_come until (first_due sys 0 w.states)) refl e
      go (s ∷ ss) e = let same : arrives sys s.end.comp.0 (arrival s) (record w { queue = ss }) ≡ h = cc in ap (λ (k : Happening). k.world.now) (sym same)

  all_timed : (until : Option ℕ) (hs : List Happening) (w v : World) → WaitFrom sys w.now w.states → Chain sys until w hs v → AllTakeTheirTime sys until w hs
  all_timed until [] w v wait c = tt
  all_timed until (h ∷ hs) w v wait c = (timed until w h wait c.0, all_timed until hs h.world v (step until w h wait c.0).1 c.1)

  along : (until : Option ℕ) (hs : List Happening) (w v : World) → WaitFrom sys w.now w.states → Chain sys until w hs v → (w.now ≤ v.now) × WaitFrom sys v.now v.states
  along until [] w v wait e = subst (λ (u : World). (w.now ≤ u.now) × WaitFrom sys u.now u.states) (sym e) (omega arith, wait)
  along until (h ∷ hs) w v wait c =
      let one = step until w h wait c.0 in let rest = along until hs h.world v one.1 c.1 in
      (omega (arith, one.0, rest.0), rest.1)

pub time_goes_on : TimeGoesOn
time_goes_on sys punctual until w v hs wait c = along sys punctual until hs w v wait c

pub timers_are_on_time : TimersAreOnTime
timers_are_on_time sys punctual until w v hs wait c = all_timed sys punctual until hs w v wait c

nothing_came : (sys : System) (w : World) (d : Option Due) → fires sys w d ≡ None → d ≡ None
nothing_came sys w None e = refl
nothing_came sys w (Some d) e = absurd cc

pub none_is_late : NoneIsLate
unfolding next
none_is_late sys until w e = rest_later sys until w.states (go w.queue e)
  where
    go : (q : List Signal) → next_by sys (Some until) w q ≡ None → has_come (Some until) (first_due sys 0 w.states) ≡ None
    go [] e = nothing_came sys w (has_come (Some until) (first_due sys 0 w.states)) e
    go (s ∷ ss) e = absurd cc
