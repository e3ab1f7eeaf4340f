-- The states of components.
use Rattle.std.proofs.Common.{◌≡◌, ◌<◌, ℕ, zero, suc, List, [], ◌∷◌, Some, refl, sym, ap, subst, ◌∙◌, arith, length, inl, inr}
use Rattle.std.specs.Prelude.{slice_set, slice_get, unwrap_or, ◌⊎◌}
use Rattle.eds_types.specs.Rows.{Table}
use Rattle.eds_plan.specs.declared.component.ComponentPlan.{ComponentPlan}
use Rattle.eds_plan.specs.States.{StateNow}
use Rattle.eds_host.specs.Machines.{IsStateOf, waits_of}
use Rattle.eds_host.specs.Plans.{AreStates, NoneBefore}
use Rattle.eds_host.specs.Laws.{NotBefore}
use Rattle.eds_host.specs.Settings.{state_in}
use Rattle.eds_host.specs.Systems.{Reaction, no_state}
use Rattle.eds_plan.specs.Sends.{Sent}

-- ---- lists

got : {A : Type 0} (a b : A) → Some a ≡ Some b → a ≡ b
got a b e = cc

pub get_set : {A : Type 0} (xs : List A) (c i : ℕ) (s x : A) → slice_get (slice_set xs c s) i ≡ Some x → ((i ≡ c) × (s ≡ x)) ⊎ (slice_get xs i ≡ Some x)
get_set [] c i s x e = inr e
get_set (y ∷ ys) zero zero s x e = inl (refl, got s x e)
get_set (y ∷ ys) zero (suc i) s x e = inr e
get_set (y ∷ ys) (suc c) zero s x e = inr e
get_set (y ∷ ys) (suc c) (suc i) s x e = elim (get_set ys c i s x e) [ inl h ↦ inl (ap suc h.0, h.1) | inr h ↦ inr h ]

pub set_length : {A : Type 0} (xs : List A) (c : ℕ) (s : A) → length (slice_set xs c s) ≡ length xs
set_length [] c s = refl
set_length (y ∷ ys) zero s = refl
set_length (y ∷ ys) (suc c) s = ap suc (set_length ys c s)

pub some_at : (xs : List StateNow) (c : ℕ) → c < length xs → slice_get xs c ≡ Some (state_in xs c)
some_at [] c lt = absurd (omega arith)
some_at (y ∷ ys) zero lt = refl
some_at (y ∷ ys) (suc c) lt = some_at ys c (omega arith)

-- ---- states

pub state_fits : (t : Table) (plan : List ComponentPlan) (now : ℕ) (xs : List StateNow) (c : ℕ) → AreStates t plan now xs → c < length plan → IsStateOf t plan c now (state_in xs c)
state_fits t plan now xs c h lt = h.each c (state_in xs c) (some_at xs c (omega (arith, h.all)))

pub states_set : (t : Table) (plan : List ComponentPlan) (now : ℕ) (xs : List StateNow) (c : ℕ) (s : StateNow) → AreStates t plan now xs → IsStateOf t plan c now s → AreStates t plan now (slice_set xs c s)
states_set t plan now xs c s h k = record {
  all = set_length xs c s ∙ h.all;
  each = λ i x e. elim (get_set xs c i s x e) [ inl q ↦ subst (λ n. IsStateOf t plan n now x) (sym q.0) (subst (λ (y : StateNow). IsStateOf t plan c now y) q.1 k) | inr q ↦ h.each i x q ];
}

pub none_before_set : (plan : List ComponentPlan) (b : ℕ) (xs : List StateNow) (c : ℕ) (s : StateNow) → NoneBefore plan b xs → NotBefore b (waits_of plan c s) → NoneBefore plan b (slice_set xs c s)
none_before_set plan b xs c s h k i x e = elim (get_set xs c i s x e) [ inl q ↦ subst (λ n. NotBefore b (waits_of plan n x)) (sym q.0) (subst (λ (y : StateNow). NotBefore b (waits_of plan c y)) q.1 k) | inr q ↦ h i x q ]

-- ---- a component reacts

module _ (xs : List StateNow) (i : ℕ) (old new : StateNow) (is : slice_get xs i ≡ Some old) where
  pub old_is : old ≡ state_in xs i
  old_is = ap (λ o. unwrap_or o no_state) (sym is)

  pub reacted_state : (f : StateNow → Reaction) → new ≡ (f old).state → slice_set xs i new ≡ slice_set xs i (f (state_in xs i)).state
  reacted_state f e = ap (slice_set xs i) (e ∙ ap (λ s. (f s).state) old_is)

  pub reacted_sends : (f : StateNow → Reaction) (ss : List Sent) → ss ≡ (f old).sends → ss ≡ (f (state_in xs i)).sends
  reacted_sends f ss e = e ∙ ap (λ s. (f s).sends) old_is

  pub reacted_later : (plan : List ComponentPlan) (b : ℕ) → NoneBefore plan b xs → (NotBefore b (waits_of plan i old) → NotBefore b (waits_of plan i new)) → NoneBefore plan b (slice_set xs i new)
  reacted_later plan b h k = none_before_set plan b xs i new h (k (h i old is))
