-- The machine that fires next, and what its firing reaches.
use Rattle.std.proofs.Common.{◌≡◌, ◌≤◌, ◌<◌, ◌+◌, ◌-◌, ℕ, zero, suc, List, [], ◌∷◌, Bool, true, false, cond, Option, Some, None, slice_get, refl, sym, ap, subst, ◌∙◌, arith, inl, inr}
use Rattle.std.specs.Prelude.{nat_lt, slice_set, IfSome, ◌⊎◌}
use Rattle.std.proofs.lemmas.Bool.Decides.{nat_tests}
use Rattle.eds_types.specs.PackedSizes.{packs}
use Rattle.eds_types.specs.Plain.{Plain}
use Rattle.eds_types.specs.Rows.{Table}
use Rattle.eds_plan.specs.Plans.{component_at}
use Rattle.eds_plan.specs.States.{StateNow}
use Rattle.eds_plan.specs.declared.component.ComponentPlan.{ComponentPlan}
use Rattle.eds_plan.specs.declared.machine.Machine.{Machine}
use Rattle.eds_plan.specs.declared.machine.Transition.{Transition}
use Rattle.eds_plan.specs.declared.machine.Trigger.TheVariants as trigger
use Rattle.eds_plan.specs.declared.run.End.{End}
use Rattle.eds_machine.specs.Moments.{HasMoment, IsNextDue}
use Rattle.eds_machine.specs.Reactions.{Reacting, standing, taken, fires as fires_in, goes_or_stays, machine_reacts}
use Rattle.eds_machine.proofs.DueLaws.{next_is_due, none_is_due}
use Rattle.eds_machine.proofs.Keeping.{moves_same}
use Rattle.eds_host.specs.declared.due.Due.{Due}
use Rattle.eds_host.specs.Firings.{FirstFires, HasToCome, IsNextToFire, OthersStay, TimersReachOne, UntakenTimersPass}
use Rattle.eds_host.specs.Machines.{at_event, outcome, reacted, waits_of}
use Rattle.eds_host.specs.Plans.{system}
use Rattle.eds_host.specs.Systems.{System, arrives, moment, next, next_by, fires, has_come, due_at, first_of, first_due, settles}
use Rattle.eds_host.proofs.Moments.{IsWaited, due_waited}
use Rattle.eds_host.proofs.Times.{come}

-- ---- the first of equal moments

-- what is due comes no later, and where at the same time of no later component
abbrev Sooner : Option Due → ℕ → ℕ → Type 0
Sooner o i t = (d : Due) × (o ≡ Some d) × (d.moment ≤ t) × (t ≡ d.moment → d.comp ≤ i)

same_due : (x d : Due) → Some x ≡ Some d → x ≡ d
same_due x d e = cc

first_sooner : (j i t : ℕ) (a b : Option Due) → IfSome a (λ d. d.comp ≡ j) → IfSome b (λ d. j < d.comp) → Sooner a i t ⊎ (Sooner b i t × (j < i)) → Sooner (first_of a b) i t
first_sooner j i t None b p q (inl h) = absurd (let e = h.1 in cc)
first_sooner j i t None b p q (inr h) = h.0
first_sooner j i t (Some a) None p q (inl h) = h
first_sooner j i t (Some a) None p q (inr h) = absurd (let e = h.0.1 in cc)
first_sooner j i t (Some a) (Some b) p q h = go (nat_lt b.moment a.moment) refl h
  where
    go : (c : Bool) → nat_lt b.moment a.moment ≡ c → Sooner (Some a) i t ⊎ (Sooner (Some b) i t × (j < i)) → Sooner (cond c (Some b) (Some a)) i t
    go true r (inl k) = let e0 = ap (λ (x : Due). x.moment) (same_due a k.0 k.1) in (b, refl, grind (arith, nat_tests, k.2), λ f. absurd (grind (arith, nat_tests, k.2)))
    go true r (inr k) = k.0
    go false r (inl k) = k
    go false r (inr k) = let e0 = ap (λ (x : Due). x.moment) (same_due b k.0.0 k.0.1) in (a, refl, grind (arith, nat_tests, k.0.2), λ f. omega (arith, k.1))

module _ (sys : System) where
  later_number : (first : ℕ) (xs : List StateNow) (j : ℕ) → j < first → IfSome (first_due sys first xs) (λ d. j < d.comp)
  later_number first [] j lt = tt
  later_number first (x ∷ xs) j lt = go (due_at first (sys.waits first x)) (first_due sys (first + 1) xs) (here (sys.waits first x)) (later_number (first + 1) xs j (omega arith))
    where
      here : (o : Option (ℕ × ℕ)) → IfSome (due_at first o) (λ d. j < d.comp)
      here None = tt
      here (Some p) = lt

      go : (a b : Option Due) → IfSome a (λ d. j < d.comp) → IfSome b (λ d. j < d.comp) → IfSome (first_of a b) (λ d. j < d.comp)
      go None b h k = k
      go (Some a) None h k = h
      go (Some a) (Some b) h k = pick (nat_lt b.moment a.moment)
        where
          pick : (c : Bool) → IfSome (cond c (Some b) (Some a)) (λ d. j < d.comp)
          pick true = k
          pick false = h

  here_number : (first : ℕ) (o : Option (ℕ × ℕ)) → IfSome (due_at first o) (λ d. d.comp ≡ first)
  here_number first None = tt
  here_number first (Some p) = refl

  due_sooner : (first : ℕ) (xs : List StateNow) (k : ℕ) (s : StateNow) (p : ℕ × ℕ) → slice_get xs k ≡ Some s → sys.waits (first + k) s ≡ Some p → Sooner (first_due sys first xs) (first + k) p.0
  due_sooner first [] k s p there w = absurd cc
  due_sooner first (x ∷ xs) zero s p there w =
      let same : x ≡ s = cc in
      let at : first + 0 ≡ first = omega arith in
      let here : sys.waits first x ≡ Some p = ap (sys.waits first) same ∙ ap (λ n. sys.waits n s) (sym at) ∙ w in
      first_sooner first (first + 0) p.0 (due_at first (sys.waits first x)) (first_due sys (first + 1) xs) (here_number first (sys.waits first x)) (later_number (first + 1) xs first (omega arith))
      (inl (record { moment = p.0; comp = first; machine = p.1 }, ap (due_at first) here, omega arith, λ e. omega arith))
  due_sooner first (x ∷ xs) (suc k) s p there w =
      let at : (first + 1) + k ≡ first + suc k = omega arith in
      let r = due_sooner (first + 1) xs k s p there (ap (λ n. sys.waits n s) at ∙ w) in
      first_sooner first (first + suc k) p.0 (due_at first (sys.waits first x)) (first_due sys (first + 1) xs) (here_number first (sys.waits first x)) (later_number (first + 1) xs first (omega arith))
      (inr ((r.0, r.1, r.2, λ e. omega (arith, r.3 e)), omega arith))

module _ (t : Table) (plan : List ComponentPlan) (tied : End → Option End) (states : List StateNow) (x : Due) (is : first_due (system t plan tied) 0 states ≡ Some x) where
  -- what a machine waits for comes no sooner, and where at the same time in no sooner component
  below : (comp machine at : ℕ) → HasToCome plan states comp machine at → (x.moment ≤ at) × (at ≡ x.moment → x.comp ≤ comp)
  unfolding waits_of
  below comp machine at h = go (waits_of plan comp h.0) refl
    where
      go : (o : Option (ℕ × ℕ)) → waits_of plan comp h.0 ≡ o → (x.moment ≤ at) × (at ≡ x.moment → x.comp ≤ comp)
      go None e = absurd (none_is_due (component_at plan comp).machines h.0.machines None (sym e) refl machine at h.2)
      go (Some p) e =
          let due : IsNextDue (component_at plan comp).machines h.0.machines p = next_is_due (component_at plan comp).machines h.0.machines (Some p) (sym e) in
          let near : p.0 ≤ at = due.least machine at h.2 in
          let r = due_sooner (system t plan tied) 0 states comp h.0 p h.1 (ap (λ n. waits_of plan n h.0) (zero_plus comp) ∙ e) in
          let same : x ≡ r.0 = same_due x r.0 (sym is ∙ r.1) in
          let m = ap (λ (d : Due). d.moment) same in
          let n = ap (λ (d : Due). d.comp) same in
          (omega (arith, r.2), λ f. let q : p.0 ≡ r.0.moment = omega (arith, r.2) in omega (arith, r.3 q))
        where
          zero_plus : (n : ℕ) → 0 + n ≡ n
          zero_plus n = omega arith

  is_next : IsNextToFire plan states x
  unfolding waits_of
  is_next =
      record {
        comes = (waited.state, there, due.comes);
        least = λ comp machine at h. (below comp machine at h).0;
        first_component = λ comp machine h. (below comp machine x.moment h).1 refl;
        first_machine = λ machine h. let same : h.0 ≡ waited.state = some h.0 waited.state (sym h.1 ∙ there) in due.first machine (subst (λ (s : StateNow). HasMoment (component_at plan x.comp).machines s.machines machine x.moment) same h.2);
      }
    where
      waited : IsWaited (system t plan tied) 0 states x
      waited = due_waited (system t plan tied) states x is

      some : (a b : StateNow) → Some a ≡ Some b → a ≡ b
      some a b e = cc

      there : slice_get states x.comp ≡ Some waited.state
      there = let at : x.comp ≡ waited.at = omega (arith, waited.comp) in ap (slice_get states) at ∙ waited.there

      due : IsNextDue (component_at plan x.comp).machines waited.state.machines (x.moment, x.machine)
      due = next_is_due (component_at plan x.comp).machines waited.state.machines (Some (x.moment, x.machine)) (sym waited.waits)

pub first_fires : FirstFires
unfolding next
first_fires t plan tied until w h empty e = go (has_come until (first_due sys 0 w.states)) refl (sym (ap (next_by sys until w) empty) ∙ e)
  where
    sys : System
    sys = system t plan tied

    go : (d : Option Due) → has_come until (first_due sys 0 w.states) ≡ d → fires sys w d ≡ Some h → (x : Due) × IsNextToFire plan w.states x × (h ≡ arrives sys x.comp (moment x.machine) (record w { now = x.moment }))
    go None c f = absurd cc
    go (Some x) c f =
        let same : arrives sys x.comp (moment x.machine) (record w { now = x.moment }) ≡ h = cc in
        (x, is_next t plan tied w.states x (come until (first_due sys 0 w.states) x c), sym same)

-- ---- what a firing reaches

set_other : {A : Type 0} (xs : List A) (i j : ℕ) (x : A) → (j ≡ i → ⊥) → slice_get (slice_set xs i x) j ≡ slice_get xs j
set_other [] i j x n = refl
set_other (y ∷ ys) zero zero x n = absurd (n refl)
set_other (y ∷ ys) zero (suc j) x n = refl
set_other (y ∷ ys) (suc i) zero x n = refl
set_other (y ∷ ys) (suc i) (suc j) x n = set_other ys i j x (λ e. n (ap suc e))

module _ (packs_as : ℕ → Plain → Bool) (t : Table) (c : ComponentPlan) (now k i : ℕ) (machine : Machine) (r : Reacting) (other : ℕ) (n : other ≡ i → ⊥) where
  one_reacts : slice_get (machine_reacts packs_as t c now (trigger.Timer k) [] i machine r).machines other ≡ slice_get r.machines other
  unfolding machine_reacts
  one_reacts = go (taken t c machine (standing r.machines i).at (trigger.Timer k) [] r.world.variables r.world.waiting)
    where
      go : (o : Option Transition) → slice_get (goes_or_stays packs_as t c now (trigger.Timer k) [] i machine (standing r.machines i).at o r).machines other ≡ slice_get r.machines other
      go None = set_other r.machines i other (record { at = (standing r.machines i).at; entered = (standing r.machines i).entered; passed = now }) n
      go (Some x) =
          ap (λ ms. slice_get (slice_set ms i (record { at = x.to; entered = now; passed = now })) other) (moves_same packs_as t c [] i machine (standing r.machines i).at x r)
          ∙ set_other r.machines i other (record { at = x.to; entered = now; passed = now }) n

pub timers_reach_one : TimersReachOne
unfolding reacted
timers_reach_one t plan comp machine now s other n = go (slice_get c.machines machine)
  where
    c : ComponentPlan
    c = component_at plan comp

    go : (o : Option Machine) → slice_get (fires_in (packs t) t c now machine o (at_event comp s)).machines other ≡ slice_get s.machines other
    go None = refl
    go (Some m) = one_reacts (packs t) t c now (now - (standing s.machines machine).entered) machine m (at_event comp s) other n

pub untaken_timers_pass : UntakenTimersPass
unfolding reacted machine_reacts
untaken_timers_pass t plan comp i now s machine at none =
    ap (λ o. outcome (fires_in (packs t) t (component_at plan comp) now i o (at_event comp s))) at
    ∙ ap (λ o. outcome (goes_or_stays (packs t) t (component_at plan comp) now (trigger.Timer (now - (standing s.machines i).entered)) [] i machine (standing s.machines i).at o (at_event comp s))) none

pub others_stay : OthersStay
unfolding settles
others_stay sys comp e w other n = set_other w.states comp other _ n
