-- The members of a family that a selector leaves are those that may be chosen.
use Rattle.std.proofs.Common.{◌≡◌, ℕ, ℤ, Bool, true, false, cond, not, List, [], ◌∷◌, Some, refl, sym, ap, subst, ◌∙◌, inl, inr}
use Rattle.std.specs.Prelude.{◌==◌}
use Rattle.std.specs.List.{AllByRecursion, list_all, flat_map}
use Rattle.std.proofs.lemmas.Bool.{and_parts}
use Rattle.eds_base.specs.declared.ids.TypeId.{TypeId}
use Rattle.eds_base.specs.Spans.{IsWithin, Lies}
use Rattle.eds_types.specs.declared.row.Constraint.{Constraint}
use Rattle.eds_types.specs.Choices.{meets, fits_choice}
use Rattle.eds_types.specs.Families.{first_of}
use Rattle.eds_types.specs.Fields.{Field, number_on, constraints_along}
use Rattle.eds_types.specs.Reading.{holds, starts_above}
use Rattle.eds_types.specs.Rows.{Table, chain, constraints_of, numbers_of}
use Rattle.eds_types.proofs.AllOf.{All-both}
use Rattle.eds_types.proofs.ReadingTests.{holds_from}
use Rattle.eds_overlap.specs.Pairs.{Steps}
use Rattle.eds_unpack.specs.declared.known.Known.{Known}
use Rattle.eds_unpack.specs.declared.selector.Stretch.{Stretch}
use Rattle.eds_unpack.specs.Choices.{TellsOn, TellsAbove, TellsChoice}
use Rattle.eds_unpack.specs.Selectors.{Allows, MayBe, Keeps, IsStretchOf}

-- those that are kept are as good as all
first_kept : (P : TypeId → Type 0) (p : ℕ → Bool) (ids left : List TypeId) → ((id : TypeId) → p id.0 ≡ true → P id) → Keeps P ids left → first_of p (numbers_of left) ≡ first_of p (numbers_of ids)
unfolding first_of
first_kept P p [] left may k = ap (λ xs. first_of p (numbers_of xs)) k
first_kept P p (id ∷ ids) left may (inl h) = ap (λ xs. first_of p (numbers_of xs)) h.1 ∙ ap (cond (p id.0) (Some id.0)) (first_kept P p ids h.0 may h.2)
first_kept P p (id ∷ ids) left may (inr h) = go (p id.0) refl (first_kept P p ids left may h.1)
  where
    go : (b : Bool) → p id.0 ≡ b → first_of p (numbers_of left) ≡ first_of p (numbers_of ids) → first_of p (numbers_of left) ≡ cond (p id.0) (Some id.0) (first_of p (numbers_of ids))
    go true e f = absurd (h.0 (may id e))
    go false e f = f ∙ sym (ap (λ b. cond b (Some id.0) (first_of p (numbers_of ids))) e)

module _ (t : Table) (x : ℕ) (fs : List Field) (k : Known) (path : Steps) (above : starts_above t x path ≡ true) (told : TellsChoice t x fs k) (n : ℤ) (is : TellsOn t fs k path → Some n ≡ number_on t fs path) where
  -- a constraint that is met allows the number of the fields
  allows : (c : Constraint) → TellsAbove t x fs k c → meets t x fs c ≡ true → Allows path n c
  allows c tells met e =
      let starts : starts_above t x c.path ≡ true = ap (starts_above t x) e ∙ above in
      let found = holds_from t fs c (sym (ap (λ b. cond b (holds t fs c) true) starts) ∙ met) in
      let same : Some n ≡ Some found.number = is (subst (TellsOn t fs k) e (tells starts)) ∙ ap (number_on t fs) (sym e) ∙ found.is in
      let number : found.number ≡ n = cc in
      subst (IsWithin c.set) number found.within

  all_allow : (cs : List Constraint) → AllByRecursion (TellsAbove t x fs k) cs → list_all (meets t x fs) cs ≡ true → AllByRecursion (Allows path n) cs
  all_allow [] tells met = tt
  all_allow (c ∷ cs) tells met =
      let parts = and_parts (meets t x fs c) (list_all (meets t x fs) cs) met in
      (allows c tells.0 parts.0, all_allow cs tells.1 parts.1)

  along : (ys : List ℕ) → AllByRecursion (TellsAbove t x fs k) (flat_map (constraints_of t) ys)
  along [] = tt
  along (y ∷ ys) = All-both (TellsAbove t x fs k) (constraints_of t y) (flat_map (constraints_of t) ys) (told y) (along ys)

  -- a container that may be chosen may have it
  fits_may : (id : TypeId) → fits_choice t x fs id.0 ≡ true → MayBe t x path n id
  fits_may id fits =
      let parts = and_parts (not (id.0 == x)) (list_all (meets t x fs) (constraints_along t id.0)) fits in
      (parts.0, all_allow (constraints_along t id.0) (along (chain t id.0)) parts.1)

  -- the members of a stretch are as good as all of whom it is one, where the number lies in it
  pub first_in : (ids : List TypeId) (s : Stretch) → IsStretchOf t x path ids s → Lies s.numbers n → first_of (fits_choice t x fs) (numbers_of s.members) ≡ first_of (fits_choice t x fs) (numbers_of ids)
  first_in ids s stretch lies = first_kept (MayBe t x path n) (fits_choice t x fs) ids s.members fits_may (stretch n lies)
