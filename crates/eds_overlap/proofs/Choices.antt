-- Two candidates of one choice are under one child, where no two containers overlap.
use Rattle.std.proofs.Common.{◌≡◌, ℕ, ℤ, List, [], ◌∷◌, ◌++◌, Option, Some, sym, ap, subst, ◌∙◌, inl, inr}
use Rattle.std.specs.List.{AllByRecursion}
use Rattle.std.proofs.lemmas.Bool.{cases_eq}
use Rattle.eds_base.specs.declared.ids.TypeId.{TypeId}
use Rattle.eds_base.specs.Spans.{IsWithin}
use Rattle.eds_bits.specs.Lists.{HasOne}
use Rattle.eds_types.specs.declared.row.Constraint.{Constraint as Condition}
use Rattle.eds_types.specs.Fields.{Field, number_on, Holds, IsAtOrUnder, StartsInEntries, constraints_along, IsCandidate}
use Rattle.eds_types.specs.Overlap.{IsClear}
use Rattle.eds_types.specs.Overlap.Reaches.{itself}
use Rattle.eds_types.specs.Rows.{Table, chain}
use Rattle.eds_types.specs.Spelling.{Progress}
use Rattle.eds_types.proofs.AllOf.{All-weaker, All-both}
use Rattle.eds_types.proofs.FieldTypes.{Fits, number_in_domain}

some_is : (a b : ℤ) → ◌≡◌ {A = Option ℤ} (Some a) (Some b) → a ≡ b
some_is a b e = cc

module _ (t : Table) where
  abbrev Apply : ℕ → List Field → Condition → Type 0
  Apply y fs c = StartsInEntries t y c.path → Holds t fs c

  number_there : (y : ℕ) (fs : List Field) (path : List (TypeId × ℕ)) (cs : List Condition) → StartsInEntries t y path → HasOne (λ (c : Condition). c.path ≡ path) cs → AllByRecursion (Apply y fs) cs → (m : ℤ) × (number_on t fs path ≡ Some m)
  number_there y fs path [] s h a = absurd h
  number_there y fs path (c ∷ cs) s (inl h) a = let k = a.0 (subst (StartsInEntries t y) (sym h) s) in (k.number, sym (ap (number_on t fs) h) ∙ k.is)
  number_there y fs path (c ∷ cs) s (inr h) a = number_there y fs path cs s h a.1

  all_within : (y : ℕ) (fs : List Field) (path : List (TypeId × ℕ)) (m : ℤ) → number_on t fs path ≡ Some m → StartsInEntries t y path → (cs : List Condition) → AllByRecursion (Apply y fs) cs → AllByRecursion (λ (c : Condition). c.path ≡ path → IsWithin c.set m) cs
  all_within y fs path m e s cs a = All-weaker (Apply y fs) (λ (c : Condition). c.path ≡ path → IsWithin c.set m) (λ c g h. let k = g (subst (StartsInEntries t y) (sym h) s) in subst (IsWithin c.set) (some_is k.number m (sym k.is ∙ ap (number_on t fs) h ∙ e)) k.within) cs a

  pub one_child : (top : ℕ) → IsClear t top → (n y k l one other : ℕ) (more rest : List ℕ) (s : Progress) → IsAtOrUnder t top y → Fits t n s → chain t k ≡ chain t y ++ one ∷ more → chain t l ≡ chain t y ++ other ∷ rest → IsCandidate t y k s.fields → IsCandidate t y l s.fields → one ≡ other
  one_child top clear n y k l one other more rest s un fit ek el ck cl = elim (cases_eq one other) [
    | inl e ↦ e
    | inr ne ↦ absurd (clear.apart y k l (record {
      first = ck.concrete;
      second = cl.concrete;
      one = one;
      other = other;
      differ = ne;
      to_first = (more, ek);
      to_second = (rest, el);
      used = (top, itself, un);
      common = λ path st one_c. let m = number_there y s.fields path (constraints_along t k ++ constraints_along t l) st one_c (All-both (Apply y s.fields) (constraints_along t k) (constraints_along t l) ck.holds cl.holds) in
          (m.0, record { domain = number_in_domain t path n s.fields m.0 fit m.1; constraints = all_within y s.fields path m.0 m.1 st (constraints_along t k ++ constraints_along t l) (All-both (Apply y s.fields) (constraints_along t k) (constraints_along t l) ck.holds cl.holds) });
    }))
  ]
