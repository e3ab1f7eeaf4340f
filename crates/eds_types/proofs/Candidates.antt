-- The candidates of a choice, by the families of containers and by what chains ask.
use Rattle.std.proofs.Common.{◌≡◌, ℕ, Bool, true, false, List, [], ◌∷◌, ◌++◌, map, refl, sym, ap, ◌∙◌}
use Rattle.std.specs.Prelude.{◌&&◌}
use Rattle.std.specs.List.{flat_map, list_all}
use Rattle.std.proofs.lemmas.Grind.{flat_map-append}
use Rattle.std.proofs.lemmas.List.Folds.{list_all-append}
use Rattle.eds_base.specs.declared.ids.TypeId.{TypeId}
use Rattle.eds_types.specs.declared.row.Constraint.{Constraint}
use Rattle.eds_types.specs.Choices.{meets, fits_choice}
use Rattle.eds_types.specs.Fields.{Field, constraints_along}
use Rattle.eds_types.specs.Families.{first_of}
use Rattle.eds_types.specs.Reading.{candidate_under}
use Rattle.eds_types.specs.Rows.{Table, id_of, numbers_of, base_of, constraints_of, chain_before, chain_within, family}
use Rattle.eds_types.proofs.FamilyChoice.{first_in_family}

-- ---- numbers of chains

numbers_map : (xs : List ℕ) → numbers_of (map id_of xs) ≡ xs
numbers_map [] = refl
numbers_map (x ∷ xs) = ap (λ ys. x ∷ ys) (numbers_map xs)

pub numbers_are : (ids : List TypeId) (xs : List ℕ) → ids ≡ map id_of xs → numbers_of ids ≡ xs
numbers_are ids xs e = ap numbers_of e ∙ numbers_map xs

-- ---- candidates

both_again : (a b : Bool) → (b && (a && (b && true))) ≡ (a && (b && true))
both_again a true = refl
both_again true false = refl
both_again false false = refl

-- a container's own constraints are among those of its chain
pub own_along : (t : Table) (m : Constraint → Bool) (u : ℕ) → (list_all m (constraints_of t u) && list_all m (constraints_along t u)) ≡ list_all m (constraints_along t u)
unfolding chain_within
own_along t m u = ap (λ b. list_all m (constraints_of t u) && b) split ∙ both_again (list_all m (flat_map (constraints_of t) front)) (list_all m (constraints_of t u)) ∙ sym split
  where
    front : List ℕ
    front = chain_before (chain_within 15 t) (base_of t u)

    split : list_all m (constraints_along t u) ≡ (list_all m (flat_map (constraints_of t) front) && (list_all m (constraints_of t u) && true))
    split = ap (list_all m) (flat_map-append (constraints_of t) front (u ∷ [])) ∙ list_all-append m (flat_map (constraints_of t) front) (constraints_of t u ++ []) ∙ ap (λ b. list_all m (flat_map (constraints_of t) front) && b) (list_all-append m (constraints_of t u) [])

-- the candidates are looked for in the family
pub candidate_is_first : (t : Table) (x : ℕ) (fs : List Field) (ids : List TypeId) → ids ≡ map id_of (family t x) → first_of (fits_choice t x fs) (numbers_of ids) ≡ candidate_under t x fs
candidate_is_first t x fs ids e = ap (first_of (fits_choice t x fs)) (numbers_are ids (family t x) e) ∙ sym (first_in_family t x (λ l. list_all (meets t x fs) (constraints_along t l)))
