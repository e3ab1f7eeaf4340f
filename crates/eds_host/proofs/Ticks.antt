-- A tick in two parts.
use Rattle.std.proofs.Common.{◌≡◌, ℕ, zero, suc, ◌+◌, ◌≤◌, Bool, true, false, cond, List, [], ◌∷◌, ◌++◌, Option, Some, None, refl, sym, ap, subst, ◌∙◌, append_assoc, arith, inl, inr}
use Rattle.std.specs.Prelude.{nat_le, ◌⊎◌, option_map}
use Rattle.std.proofs.lemmas.Bool.Decides.{nat_tests}
use Rattle.eds_plan.specs.Outs.{Signal}
use Rattle.eds_plan.specs.Outs.{Report}
use Rattle.eds_host.specs.declared.due.Due.{Due}
use Rattle.eds_host.specs.Systems.{System, World, Happening, has_come, fires, first_due, next_by, next}
use Rattle.eds_host.specs.Runs.{Course, after, storm, rests, go_by, go_on, most, at_time, time_passes}
use Rattle.eds_host.specs.Laws.{TicksAdd}

abbrev at : ℕ → World → World
at t w = record w { now = t }

module _ (sys : System) where
  -- what comes by a time comes by a later one, or isn't come
  come_sooner : (a c : ℕ) (d : Option Due) → a ≤ c → (has_come (Some a) d ≡ has_come (Some c) d) ⊎ (has_come (Some a) d ≡ None)
  come_sooner a c None le = inl refl
  come_sooner a c (Some d) le = go (nat_le d.moment a) (nat_le d.moment c) refl refl
    where
      go : (x y : Bool) → nat_le d.moment a ≡ x → nat_le d.moment c ≡ y → (cond x (Some d) None ≡ cond y (Some d) None) ⊎ (cond x (Some d) None ≡ None)
      go false y p q = inr refl
      go true true p q = inl refl
      go true false p q = absurd (grind (arith, nat_tests))

  -- what happens next by a time is what happens next by a later one, or nothing does, and nothing waits
  next_sooner : (a c : ℕ) (w : World) → a ≤ c → (next sys (Some a) w ≡ next sys (Some c) w) ⊎ ((next sys (Some a) w ≡ None) × (w.queue ≡ []))
  unfolding next
  next_sooner a c w le = go w.queue refl
    where
      go : (q : List Signal) → w.queue ≡ q → (next_by sys (Some a) w q ≡ next_by sys (Some c) w q) ⊎ ((next_by sys (Some a) w q ≡ None) × (q ≡ []))
      go (p ∷ ps) e = inl refl
      go [] e = elim (come_sooner a c (first_due sys 0 w.states) le) [ inl h ↦ inl (ap (fires sys w) h) | inr h ↦ inr (ap (fires sys w) h, refl) ]

  -- where nothing waits, the time doesn't matter
  next_at : (t : ℕ) (until : Option ℕ) (w : World) → w.queue ≡ [] → next sys until (at t w) ≡ next sys until w
  unfolding next
  next_at t until w e = ap (next_by sys until (at t w)) e ∙ (go (has_come until (first_due sys 0 w.states)) ∙ sym (ap (next_by sys until w) e))
    where
      go : (d : Option Due) → fires sys (at t w) d ≡ fires sys w d
      go None = refl
      go (Some d) = refl

  -- where nothing is next, nothing waits
  pub none_waits : (until : Option ℕ) (w : World) → next sys until w ≡ None → w.queue ≡ []
  unfolding next
  none_waits until w e = go w.queue e
    where
      go : (q : List Signal) → next_by sys until w q ≡ None → q ≡ []
      go [] e = refl
      go (p ∷ ps) e = absurd cc

  -- a course that ends so
  abbrev Ends : Course → List Report → World → Type 0
  Ends c o v = (c.end ≡ Some v) × (c.outs ≡ o)

  more_left : (left : ℕ) (until : Option ℕ) (w v : World) (o : List Report) → Ends (go_on sys left until w) o v → Ends (go_on sys (suc left) until w) o v
  unfolding go_on
  more_left zero until w v o e = go (next sys until w) e
    where
      go : (x : Option Happening) → Ends (go_by w x (λ h. storm)) o v → Ends (go_by w x (λ h. after h.outs (go_on sys zero until h.world))) o v
      go None e = e
      go (Some h) e = absurd (let f = e.0 in cc)
  more_left (suc left) until w v o e = go (next sys until w) (λ h. more_left left until h.world v (go_on sys left until h.world).outs) e
    where
      go : (x : Option Happening) → ((h : Happening) → Ends (go_on sys left until h.world) (go_on sys left until h.world).outs v → Ends (go_on sys (suc left) until h.world) (go_on sys left until h.world).outs v) → Ends (go_by w x (λ h. after h.outs (go_on sys left until h.world))) o v → Ends (go_by w x (λ h. after h.outs (go_on sys (suc left) until h.world))) o v
      go None ih e = e
      go (Some h) ih e = let r = ih h (e.0, refl) in (r.0, ap (λ q. h.outs ++ q) r.1 ∙ e.1)

  -- the course up to a sooner time, and from there
  abbrev InTwo : ℕ → ℕ → ℕ → World → List Report → World → Type 0
  InTwo left a c w o v = (u : World) × (u.queue ≡ []) × ((go_on sys left (Some a) w).end ≡ Some u) × ((go_on sys left (Some c) u).end ≡ Some v) × (o ≡ (go_on sys left (Some a) w).outs ++ (go_on sys left (Some c) u).outs)

  pub at_zero : (until : Option ℕ) (w : World) → go_on sys zero until w ≡ go_by w (next sys until w) (λ h. storm)
  unfolding go_on
  at_zero until w = refl

  pub at_suc : (left : ℕ) (until : Option ℕ) (w : World) → go_on sys (suc left) until w ≡ go_by w (next sys until w) (λ h. after h.outs (go_on sys left until h.world))
  unfolding go_on
  at_suc left until w = refl

  pub at_rest : (left : ℕ) (until : Option ℕ) (w : World) → next sys until w ≡ None → go_on sys left until w ≡ rests w
  at_rest zero until w n = at_zero until w ∙ ap (λ x. go_by w x (λ h. storm)) n
  at_rest (suc left) until w n = at_suc left until w ∙ ap (λ x. go_by w x (λ h. after h.outs (go_on sys left until h.world))) n

  -- nothing comes by the sooner time
  at_once : (left a c : ℕ) (w v : World) (o : List Report) → next sys (Some a) w ≡ None → w.queue ≡ [] → Ends (go_on sys left (Some c) w) o v → InTwo left a c w o v
  at_once left a c w v o n q e =
      let still = at_rest left (Some a) w n in
      (w, q, ap (λ (k : Course). k.end) still, e.0, sym e.1 ∙ sym (ap (λ (k : Course). k.outs ++ (go_on sys left (Some c) w).outs) still))

  two_parts : (left a c : ℕ) (w v : World) (o : List Report) → a ≤ c → Ends (go_on sys left (Some c) w) o v → InTwo left a c w o v
  two_parts zero a c w v o le e = elim (next_sooner a c w le) [ inr h ↦ at_once zero a c w v o h.0 h.1 e | inl h ↦ go (next sys (Some c) w) refl h (subst (λ (k : Course). Ends k o v) (at_zero (Some c) w) e) ]
    where
      go : (x : Option Happening) → next sys (Some c) w ≡ x → next sys (Some a) w ≡ next sys (Some c) w → Ends (go_by w x (λ h. storm)) o v → InTwo zero a c w o v
      go None p s k = at_once zero a c w v o (s ∙ p) (none_waits (Some c) w p) e
      go (Some h) p s k = absurd (let f = k.0 in cc)
  two_parts (suc left) a c w v o le e = elim (next_sooner a c w le) [ inr h ↦ at_once (suc left) a c w v o h.0 h.1 e | inl h ↦ go (next sys (Some c) w) (λ h. two_parts left a c h.world v (go_on sys left (Some c) h.world).outs le) refl h (subst (λ (k : Course). Ends k o v) (at_suc left (Some c) w) e) ]
    where
      go : (x : Option Happening) → ((h : Happening) → Ends (go_on sys left (Some c) h.world) (go_on sys left (Some c) h.world).outs v → InTwo left a c h.world (go_on sys left (Some c) h.world).outs v) → next sys (Some c) w ≡ x → next sys (Some a) w ≡ next sys (Some c) w → Ends (go_by w x (λ h. after h.outs (go_on sys left (Some c) h.world))) o v → InTwo (suc left) a c w o v
      go None ih p s k = at_once (suc left) a c w v o (s ∙ p) (none_waits (Some c) w p) e
      go (Some h) ih p s k =
          let r = ih h (k.0, refl) in
          let u = r.0 in
          let first = at_suc left (Some a) w ∙ ap (λ x. go_by w x (λ h. after h.outs (go_on sys left (Some a) h.world))) (s ∙ p) in
          let second = more_left left (Some c) u v (go_on sys left (Some c) u).outs (r.3, refl) in (
            u,
            r.1,
            ap (λ (k : Course). k.end) first ∙ r.2,
            second.0,
            sym k.1 ∙ ap (λ q. h.outs ++ q) r.4 ∙ sym (append_assoc h.outs _ _) ∙ ap (λ q. (h.outs ++ (go_on sys left (Some a) h.world).outs) ++ q) (sym second.1)
                ∙ ap (λ (k : Course). k.outs ++ (go_on sys (suc left) (Some c) u).outs) (sym first),
          )

  -- where nothing waits, a course is that of another time
  from_time : (left t s : ℕ) (until : Option ℕ) (w : World) → w.queue ≡ [] → at_time s (go_on sys left until (at t w)) ≡ at_time s (go_on sys left until w)
  unfolding go_on
  from_time zero t s until w e = ap (λ x. at_time s (go_by (at t w) x (λ h. storm))) (next_at t until w e) ∙ go (next sys until w)
    where
      go : (x : Option Happening) → at_time s (go_by (at t w) x (λ h. storm)) ≡ at_time s (go_by w x (λ h. storm))
      go None = refl
      go (Some h) = refl
  from_time (suc left) t s until w e = ap (λ x. at_time s (go_by (at t w) x (λ h. after h.outs (go_on sys left until h.world)))) (next_at t until w e) ∙ go (next sys until w)
    where
      go : (x : Option Happening) → at_time s (go_by (at t w) x (λ h. after h.outs (go_on sys left until h.world))) ≡ at_time s (go_by w x (λ h. after h.outs (go_on sys left until h.world)))
      go None = refl
      go (Some h) = refl

  pub ended : (t : ℕ) (c : Course) (v : World) → (at_time t c).end ≡ Some v → (v0 : World) × (c.end ≡ Some v0) × (v ≡ at t v0)
  ended t c v e = go c.end refl e
    where
      go : (x : Option World) → c.end ≡ x → option_map (λ (w : World). at t w) x ≡ Some v → (v0 : World) × (c.end ≡ Some v0) × (v ≡ at t v0)
      go None p e = absurd cc
      go (Some v0) p e = (v0, p, cc)

  tick_in_two : (w v : World) (m n : ℕ) → (time_passes sys (m + n) w).end ≡ Some v
      → (u : World) × ((time_passes sys m w).end ≡ Some u) × ((time_passes sys n u).end ≡ Some v) × ((time_passes sys (m + n) w).outs ≡ (time_passes sys m w).outs ++ (time_passes sys n u).outs)
  tick_in_two w v m n e =
      let t = w.now in
      let z = ended (t + (m + n)) (go_on sys most (Some (t + (m + n))) w) v e in
      let r = two_parts most (t + m) (t + (m + n)) w z.0 (go_on sys most (Some (t + (m + n))) w).outs (omega arith) (z.1, refl) in
      let u = r.0 in
      let sums : (t + m) + n ≡ t + (m + n) = omega arith in
      let same : at_time (t + (m + n)) (go_on sys most (Some (t + (m + n))) (at (t + m) u)) ≡ at_time (t + (m + n)) (go_on sys most (Some (t + (m + n))) u) = from_time most (t + m) (t + (m + n)) (Some (t + (m + n))) u r.1 in
      let second : time_passes sys n (at (t + m) u) ≡ at_time (t + (m + n)) (go_on sys most (Some (t + (m + n))) u) = ap (λ s. at_time s (go_on sys most (Some s) (at (t + m) u))) sums ∙ same in (
        at (t + m) u,
        ap (option_map (λ (w : World). at (t + m) w)) r.2,
        ap (λ (k : Course). k.end) second ∙ ap (option_map (λ (w : World). at (t + (m + n)) w)) r.3 ∙ ap (λ q. Some q) (sym z.2),
        r.4 ∙ ap (λ q. (go_on sys most (Some (t + m)) w).outs ++ q) (sym (ap (λ (k : Course). k.outs) second)),
      )

pub ticks_add : TicksAdd
ticks_add sys w v m n e = let r = tick_in_two sys w v m n e in (r.0, r.1, (r.2, r.3))
