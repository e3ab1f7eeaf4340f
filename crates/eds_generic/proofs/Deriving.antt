-- A type derives from another one, step by step.
use Rattle.std.proofs.Common.{◌≡◌, ℕ, zero, suc, ◌-◌, ◌<◌, Bool, true, false, ◌==◌, ◌||◌, List, Option, refl, sym, ap, ◌∙◌, arith}
use Rattle.std.proofs.lemmas.Bool.{eq-eqb, eqb-true}
use Rattle.eds_base.specs.declared.ids.TypeId.{TypeId}
use Rattle.eds_generic.specs.NameRules.{derives, derived_by, base_of}

module _ (n : ℕ) (types : List (Option TypeId)) (from id : ℕ) where
  pub derives-zero : n ≡ 0 → false ≡ derives n types from id
  unfolding derives
  derives-zero e = rw e refl

  derives-next : 0 < n → derives n types from id ≡ ((id == from) || derived_by (derives (n - 1) types from) (base_of types id))
  unfolding derives
  derives-next h = go n h
    where
      go : (m : ℕ) → 0 < m → derives m types from id ≡ ((id == from) || derived_by (derives (m - 1) types from) (base_of types id))
      go zero k = absurd (omega arith)
      go (suc m) k = let back : suc m - 1 ≡ m = omega arith in rw back refl

  pub derives-same : 0 < n → id ≡ from → true ≡ derives n types from id
  derives-same h e = sym (derives-next h ∙ ap (λ b. b || derived_by (derives (n - 1) types from) (base_of types id)) (eq-eqb id from e))

  differ : (id ≡ from → ⊥) → (id == from) ≡ false
  differ h = go (id == from) refl
    where
      go : (b : Bool) → (id == from) ≡ b → b ≡ false
      go true e = absurd (h (eqb-true id from e))
      go false e = refl

  pub derives-other : (found : Option TypeId) → 0 < n → (id ≡ from → ⊥) → base_of types id ≡ found → derived_by (derives (n - 1) types from) found ≡ derives n types from id
  derives-other found h d e =
      ap (derived_by (derives (n - 1) types from)) (sym e) ∙ sym (derives-next h ∙ ap (λ b. b || derived_by (derives (n - 1) types from) (base_of types id)) (differ d))
