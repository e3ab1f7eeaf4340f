-- Values that pack.
use Rattle.std.proofs.Common.{◌≡◌, ℕ, zero, suc, ◌+◌, ◌<◌, ◌≤◌, ◌==◌, ◌&&◌, subst, map, take, ◌++◌, Bool, true, false, List, [], ◌∷◌, drop, length, Some, None, slice_get, refl, sym, ap, ◌∙◌, arith}
use Rattle.eds_base.specs.declared.ids.TypeId.{TypeId}
use Rattle.eds_types.specs.PackedSizes.{packs}
use Rattle.eds_types.specs.Plain.{Plain, plain}
use Rattle.eds_types.specs.Rows.{Table}
use Rattle.std.proofs.lemmas.Bool.Decides.{nat_tests}
use Rattle.std.proofs.lemmas.List.{map-append}
use Rattle.eds_types.specs.declared.value.Value.{Value}
use Rattle.eds_script.specs.Given.{all_pack}
use Rattle.eds_script.specs.Known.{AreFieldsKnown}

-- no value is left for a field
pub all_pack-none : (t : Table) (f : List ℕ × TypeId) (rest fs : List (List ℕ × TypeId)) (i : ℕ) (vs : List Plain) → rest ≡ f ∷ fs → slice_get vs i ≡ None → all_pack t rest (drop i vs) ≡ false
all_pack-none t f rest fs i vs is e = ap (λ xs. all_pack t xs (drop i vs)) is ∙ go i vs e
  where
    go : (i : ℕ) (vs : List Plain) → slice_get vs i ≡ None → all_pack t (f ∷ fs) (drop i vs) ≡ false
    go zero [] e = refl
    go zero (v ∷ vs) e = cc
    go (suc i) [] e = refl
    go (suc i) (v ∷ vs) e = go i vs e

-- no field is left for a value
left-over : (t : Table) (i : ℕ) (vs : List Plain) → i < length vs → all_pack t [] (drop i vs) ≡ false
left-over t i [] lt = absurd (omega (arith, lt))
left-over t zero (v ∷ vs) lt = refl
left-over t (suc i) (v ∷ vs) lt = left-over t i vs (omega (arith, lt))

none-over : (t : Table) (vs : List Plain) → all_pack t [] (drop (length vs) vs) ≡ true
none-over t [] = refl
none-over t (v ∷ vs) = none-over t vs

pub all_pack-end : (t : Table) (rest : List (List ℕ × TypeId)) (i : ℕ) (vs : List Plain) (b : Bool) → length rest ≡ 0 → i ≤ length vs → b ≡ (i == length vs) → b ≡ all_pack t rest (drop i vs)
all_pack-end t (f ∷ fs) i vs b none within is = absurd (omega (arith, none))
all_pack-end t [] i vs b none within is = is ∙ test (i == length vs) refl
  where
    test : (x : Bool) → (i == length vs) ≡ x → (i == length vs) ≡ all_pack t [] (drop i vs)
    test true e = let all : i ≡ length vs = grind (arith, nat_tests) in e ∙ sym (ap (λ k. all_pack t [] (drop k vs)) all ∙ none-over t vs)
    test false e = let some : i < length vs = grind (arith, nat_tests) in e ∙ sym (left-over t i vs some)

-- a value that is there is within
pub there-within : (vs : List Plain) (i : ℕ) (v : Plain) → slice_get vs i ≡ Some v → i + 1 ≤ length vs
there-within [] zero v e = cc
there-within [] (suc i) v e = cc
there-within (w ∷ vs) zero v e = omega arith
there-within (w ∷ vs) (suc i) v e = omega (arith, there-within vs i v e)

-- one value more
pub all_pack-some : (t : Table) (f : List ℕ × TypeId) (fs : List (List ℕ × TypeId)) (i : ℕ) (vs : List Plain) (v : Plain) → slice_get vs i ≡ Some v → all_pack t (f ∷ fs) (drop i vs) ≡ (packs t f.1.0 v && all_pack t fs (drop (i + 1) vs))
all_pack-some t f fs zero [] v e = cc
all_pack-some t f fs zero (w ∷ vs) v e = let is : w ≡ v = cc in rw is refl
all_pack-some t f fs (suc i) [] v e = cc
all_pack-some t f fs (suc i) (w ∷ vs) v e = let next : suc i + 1 ≡ suc (i + 1) = omega arith in rw next (all_pack-some t f fs i vs v e)

-- a value that doesn't pack
pub all_pack-stop : (t : Table) (f : List ℕ × TypeId) (rest fs : List (List ℕ × TypeId)) (i : ℕ) (vs : List Plain) (v : Plain) (b : Bool)
    → rest ≡ f ∷ fs → slice_get vs i ≡ Some v → b ≡ packs t f.1.0 v → b ≡ false → all_pack t rest (drop i vs) ≡ false
all_pack-stop t f rest fs i vs v b is e p n = ap (λ xs. all_pack t xs (drop i vs)) is ∙ all_pack-some t f fs i vs v e ∙ ap (λ c. c && all_pack t fs (drop (i + 1) vs)) (sym p ∙ n)

-- a value that does
pub all_pack-step : (t : Table) (f : List ℕ × TypeId) (rest fs : List (List ℕ × TypeId)) (i j : ℕ) (vs : List Plain) (v : Plain) (b : Bool)
    → rest ≡ f ∷ fs → slice_get vs i ≡ Some v → b ≡ packs t f.1.0 v → b ≡ true → j ≡ i + 1 → all_pack t fs (drop j vs) ≡ all_pack t rest (drop i vs)
all_pack-step t f rest fs i j vs v b is e p y next =
    ap (λ k. all_pack t fs (drop k vs)) next ∙ sym (ap (λ xs. all_pack t xs (drop i vs)) is ∙ all_pack-some t f fs i vs v e ∙ ap (λ c. c && all_pack t fs (drop (i + 1) vs)) (sym p ∙ y))

-- what is known of all fields is known of those behind the first
pub known-behind : (t : Table) (f : List ℕ × TypeId) (rest fs : List (List ℕ × TypeId)) → rest ≡ f ∷ fs → AreFieldsKnown t rest → AreFieldsKnown t fs
known-behind t f rest fs is known = (subst (AreFieldsKnown t) is known).1

-- ---- values once more

take-more : (vs : List Plain) (i : ℕ) (v : Plain) → slice_get vs i ≡ Some v → take (i + 1) vs ≡ take i vs ++ v ∷ []
take-more [] zero v e = cc
take-more [] (suc i) v e = cc
take-more (w ∷ vs) zero v e = let is : w ≡ v = cc in rw is refl
take-more (w ∷ vs) (suc i) v e = let next : suc i + 1 ≡ suc (i + 1) = omega arith in rw next (ap (λ xs. w ∷ xs) (take-more vs i v e))

pub copied-step : (vs : List Plain) (i : ℕ) (old new : List Value) (x : Value) (v : Plain) → new ≡ old ++ x ∷ [] → plain x ≡ v → slice_get vs i ≡ Some v → map plain old ≡ take i vs → map plain new ≡ take (i + 1) vs
copied-step vs i old new x v last is e so_far = ap (map plain) last ∙ map-append plain old (x ∷ []) ∙ ap (λ xs. xs ++ plain x ∷ []) so_far ∙ ap (λ w. take i vs ++ w ∷ []) is ∙ sym (take-more vs i v e)

pub not-missing : (vs : List Plain) (i : ℕ) → i < length vs → slice_get vs i ≡ None → ⊥
not-missing [] i h none = absurd (omega arith)
not-missing (v ∷ vs) zero h none = cc none
not-missing (v ∷ vs) (suc i) h none = not-missing vs i (omega arith) none
