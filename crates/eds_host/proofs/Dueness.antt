-- What is due, seen from the function that finds it.
use Rattle.std.proofs.Common.{◌≡◌, ◌≤◌, ◌<◌, ◌+◌, ◌^◌, ℕ, zero, suc, List, [], ◌∷◌, Option, Some, None, sym, ap, subst, ◌∙◌, arith, length}
use Rattle.std.specs.Prelude.{IfSome, IsSome, slice_get, unwrap_or}
use Rattle.eds_types.specs.Rows.{Table}
use Rattle.eds_plan.specs.declared.component.ComponentPlan.{ComponentPlan}
use Rattle.eds_plan.specs.States.{StateNow}
use Rattle.eds_host.specs.declared.due.Due.{Due}
use Rattle.eds_host.specs.Plans.{AreStates}
use Rattle.eds_host.specs.Laws.{NotBefore}
use Rattle.eds_host.specs.Settings.{bound, state_in}
use Rattle.eds_host.specs.Systems.{System, first_due, has_come, no_state}
use Rattle.eds_host.proofs.Adapted.{state_later}
use Rattle.eds_host.proofs.Moments.{ComesBy, IsWaited, due_waited, first_late, none_before, rest_later}

shorter : {A : Type 0} (ys : List A) (i : ℕ) (x : A) → slice_get ys i ≡ Some x → i < length ys
shorter [] i x e = absurd cc
shorter (y ∷ ys) zero x e = omega arith
shorter (y ∷ ys) (suc i) x e = let h = shorter ys i x e in omega (arith, h)

module _ (sys : System) (xs : List StateNow) (least d : Option Due) (l : least ≡ first_due sys 0 xs) (same : IfSome d (λ x. least ≡ Some x)) where
  found : (x : Due) → least ≡ Some x → IsWaited sys 0 xs x
  found x e = due_waited sys xs x (sym l ∙ e)

  pub due_known : (n : ℕ) → length xs ≡ n → IfSome d (λ x. x.comp < n)
  due_known n e = go d same
    where
      go : (o : Option Due) → IfSome o (λ x. least ≡ Some x) → IfSome o (λ x. x.comp < n)
      go None h = tt
      go (Some x) h = let w = found x h in let lt = shorter xs w.at w.state w.there in omega (arith, w.comp, lt, e)

  pub due_waits : IfSome d (λ x. sys.waits x.comp (state_in xs x.comp) ≡ Some (x.moment, x.machine))
  due_waits = go d same
    where
      go : (o : Option Due) → IfSome o (λ x. least ≡ Some x) → IfSome o (λ x. sys.waits x.comp (state_in xs x.comp) ≡ Some (x.moment, x.machine))
      go None h = tt
      go (Some x) h =
          let w = found x h in
          let at : x.comp ≡ w.at = omega (arith, w.comp) in
          ap (λ i. sys.waits x.comp (state_in xs i)) at ∙ ap (λ o. sys.waits x.comp (unwrap_or o no_state)) w.there ∙ w.waits

  pub due_later : (b : ℕ) → ((i : ℕ) (s : StateNow) → slice_get xs i ≡ Some s → NotBefore b (sys.waits i s)) → IfSome d (λ x. b ≤ x.moment)
  due_later b h = go d same
    where
      go : (o : Option Due) → IfSome o (λ x. least ≡ Some x) → IfSome o (λ x. b ≤ x.moment)
      go None h2 = tt
      go (Some x) h2 = subst (ComesBy b) (sym l ∙ h2) (first_late sys b xs h)

  pub due_before : IfSome d (λ x. (i : ℕ) (s : StateNow) → slice_get xs i ≡ Some s → NotBefore x.moment (sys.waits i s))
  due_before = go d same
    where
      go : (o : Option Due) → IfSome o (λ x. least ≡ Some x) → IfSome o (λ x. (i : ℕ) (s : StateNow) → slice_get xs i ≡ Some s → NotBefore x.moment (sys.waits i s))
      go None h = tt
      go (Some x) h = none_before sys x.moment xs (subst (ComesBy x.moment) (sym h ∙ l) (omega arith))

  pub due_states : (t : Table) (plan : List ComponentPlan) (until : Option ℕ) (now : ℕ) → IfSome d (λ x. now ≤ x.moment) → IfSome d (λ x. IfSome until (λ u. x.moment ≤ u)) → IfSome d (λ x. IsSome until) → IfSome until (λ u. u < 2 ^ 63) → AreStates t plan now xs → IfSome d (λ x. AreStates t plan x.moment xs)
  due_states t plan until now le until_ some near h = go d le until_ some
    where
      near_by : (u : Option ℕ) (m : ℕ) → IfSome u (λ v. m ≤ v) → IsSome u → IfSome u (λ v. v < 2 ^ 63) → m < 2 ^ 63
      near_by None m a b k = absurd (let f = b in cc)
      near_by (Some v) m a b k = below (2 ^ 63) k
        where
          below : (z : ℕ) → v < z → m < z
          below z lt = omega (arith, a)

      go : (o : Option Due) → IfSome o (λ x. now ≤ x.moment) → IfSome o (λ x. IfSome until (λ u. x.moment ≤ u)) → IfSome o (λ x. IsSome until) → IfSome o (λ x. AreStates t plan x.moment xs)
      go None a b k = tt
      go (Some x) a b k = record { all = h.all; each = λ i s e. state_later t plan i now x.moment s a (near_by until x.moment b k near) (h.each i s e) }

pub bound_late : (until : Option ℕ) (now : ℕ) → now ≤ bound until now
bound_late None now = omega arith
bound_late (Some u) now = omega arith

pub bound_soon : (until : Option ℕ) (now : ℕ) → bound until now ≤ now + 1
bound_soon None now = omega arith
bound_soon (Some u) now = omega arith

pub weaker : (o : Option Due) (a b : ℕ) → a ≤ b → IfSome o (λ x. b ≤ x.moment) → IfSome o (λ x. a ≤ x.moment)
weaker None a b le h = tt
weaker (Some x) a b le h = omega (arith, h)

pub due_rests : (sys : System) (until : Option ℕ) (xs : List StateNow) (least d : Option Due) → least ≡ first_due sys 0 xs → d ≡ has_come until least → d ≡ None → IfSome until (λ u. (i : ℕ) (s : StateNow) → slice_get xs i ≡ Some s → NotBefore (u + 1) (sys.waits i s))
due_rests sys None xs least d l c e = tt
due_rests sys (Some u) xs least d l c e = rest_later sys u xs (ap (has_come (Some u)) (sym l) ∙ sym c ∙ e)
