-- Chains of bases and lists of length entries, one item at a time.
use Rattle.std.proofs.Common.{◌≡◌, ℕ, zero, suc, arith, ◌+◌, ◌<◌, ◌-◌, ◌||◌, Bool, true, false, List, [], ◌∷◌, length, map, get_or, drop, Option, Some, None, refl, sym, ap, ◌∙◌, drop-cons, add-one}
use Rattle.std.specs.List.{list_any}
use Rattle.std.proofs.lemmas.List.Folds.{list_any-append}
use Rattle.eds_base.specs.declared.ids.Place.{Place}
use Rattle.eds_base.specs.declared.refusal.Refusal.{Refusal}
use Rattle.eds_base.specs.declared.rule.Rule.TheVariants.{LengthField}
use Rattle.eds_base.specs.Refusals.{first_of, least}
use Rattle.eds_base.proofs.LeastLaws.{first_assoc}
use Rattle.eds_types.specs.Rows.{Table, base_of, chain_before, chain_within}
use Rattle.eds_read_types.specs.Breaks.{broken}

-- `found` stands for what came before, `x` is the element at `i`
pub next_length : (xs : List Place) (i : ℕ) (x : Place) (found : Option Refusal) (here : Refusal) (next whole : Option Refusal)
    → i < length xs → here ≡ broken LengthField (get_or xs i x) → next ≡ first_of found (Some here) → first_of found (least (map (broken LengthField) (drop i xs))) ≡ whole
    → first_of next (least (map (broken LengthField) (drop (i + 1) xs))) ≡ whole
next_length xs i x found here next whole lt h n e =
    let this : least (map (broken LengthField) (drop i xs)) ≡ first_of (Some here) (least (map (broken LengthField) (drop (i + 1) xs))) =
    ap (λ ys. least (map (broken LengthField) ys)) (drop-cons xs i x lt) ∙ rw (add-one, ← h) refl in
    rw n (first_assoc found (Some here) (least (map (broken LengthField) (drop (i + 1) xs))) ∙ ap (first_of found) (sym this) ∙ e)

-- ---- some type of a chain passes a test

module _ (p : ℕ → Bool) (t : Table) where
  or_false : (b : Bool) → (b || false) ≡ b
  or_false true = refl
  or_false false = refl

  or_true : (b : Bool) → (b || true) ≡ true
  or_true true = refl
  or_true false = refl

  -- one of its base's chain, or the type itself
  pub any_in_chain : (n id : ℕ) → list_any p (chain_within (suc n) t id) ≡ (list_any p (chain_before (chain_within n t) (base_of t id)) || p id)
  unfolding chain_within
  any_in_chain n id = list_any-append p (chain_before (chain_within n t) (base_of t id)) (id ∷ []) ∙ ap (λ b. list_any p (chain_before (chain_within n t) (base_of t id)) || b) (or_false (p id))

  pub any_none : (n id : ℕ) → n ≡ 0 → false ≡ list_any p (chain_within n t id)
  unfolding chain_within
  any_none zero id e = refl
  any_none (suc n) id e = absurd (omega (arith, e))

  pub any_hit : (n id : ℕ) → 0 < n → p id ≡ true → true ≡ list_any p (chain_within n t id)
  any_hit zero id lt h = absurd (omega (arith, lt))
  any_hit (suc n) id lt h = sym (any_in_chain n id ∙ (ap (λ b. list_any p (chain_before (chain_within n t) (base_of t id)) || b) h ∙ or_true (list_any p (chain_before (chain_within n t) (base_of t id)))))

  above_is : (n id : ℕ) (o : Option ℕ) → p id ≡ false → base_of t id ≡ o → list_any p (chain_within (suc n) t id) ≡ list_any p (chain_before (chain_within n t) o)
  above_is n id o h e = any_in_chain n id ∙ (ap (λ b. list_any p (chain_before (chain_within n t) (base_of t id)) || b) h ∙ (or_false (list_any p (chain_before (chain_within n t) (base_of t id))) ∙ ap (λ q. list_any p (chain_before (chain_within n t) q)) e))

  pub any_end : (n id : ℕ) → 0 < n → p id ≡ false → base_of t id ≡ None → false ≡ list_any p (chain_within n t id)
  any_end zero id lt h e = absurd (omega (arith, lt))
  any_end (suc n) id lt h e = sym (above_is n id None h e)

  pub any_on : (n id base : ℕ) → 0 < n → p id ≡ false → base_of t id ≡ Some base → list_any p (chain_within (n - 1) t base) ≡ list_any p (chain_within n t id)
  any_on zero id base lt h e = absurd (omega (arith, lt))
  any_on (suc n) id base lt h e = let back : suc n - 1 ≡ n = omega arith in rw back (sym (above_is n id (Some base) h e))
