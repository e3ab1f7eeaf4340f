-- The common numbers that are worked out are the least of all paths that are judged, in the order of the paths' texts.
use Rattle.std.proofs.Common.{◌≡◌, ℕ, Bool, true, false, cond, List, [], ◌∷◌, ◌++◌, map, Option, Some, None, refl, sym, ap, subst, inl, inr}
use Rattle.std.specs.Prelude.{ℤ, filter, flat_map, not}
use Rattle.std.specs.List.{AllByRecursion}
use Rattle.std.proofs.lemmas.Bool.{both_ways}
use Rattle.eds_bits.specs.Lists.{Has, HasOne}
use Rattle.eds_types.specs.declared.row.Constraint.{Constraint}
use Rattle.eds_types.specs.Fields.{StartsInEntries}
use Rattle.eds_types.specs.Overlap.{IsConstrained, Overlapping}
use Rattle.eds_types.specs.Reading.{starts_above}
use Rattle.eds_types.specs.Rows.{Table}
use Rattle.eds_types.specs.Rules.{AreDistinct}
use Rattle.eds_types.proofs.AllOf.{one_of}
use Rattle.eds_types.proofs.ReadingTests.{starts_from, starts_in}
use Rattle.eds_overlap.specs.declared.common.Common.{Common}
use Rattle.eds_overlap.specs.Common.{IsOn, paths_of, each_once, numbered, constrained_paths, judged_paths, common_on, common_of, constraints_of_both, IsLeastSolution, AreLeastCommon}
use Rattle.eds_overlap.specs.LeastNumbers.{least_on}
use Rattle.eds_overlap.specs.Pairs.{Steps, same_path}
use Rattle.eds_overlap.proofs.CommonFound.{from_part, in_part, once_from, once_in, on_judged, judged_on}
use Rattle.eds_overlap.proofs.Gathering.{has_on, sorted_all, sorted_new, sorted_once, sorted_order}
use Rattle.eds_overlap.proofs.LeastInAll.{on_none, on_found}
use Rattle.eds_overlap.proofs.Meeting.{has_of_one}
use Rattle.eds_overlap.proofs.Solutions.{same_self}

abbrev Among : List Steps → Steps → Type 0
Among paths p = HasOne (λ q. q ≡ p) paths

among_has : (paths : List Steps) (p : Steps) → Among paths p → Has paths p
among_has paths p h = let k = has_of_one (λ q. q ≡ p) paths h in subst (Has paths) k.2 k.1

has_among : (paths : List Steps) (p : Steps) → Has paths p → Among paths p
has_among paths p h = subst (λ ps. Among ps p) (sym h.is) (one_of (λ q. q ≡ p) h.before p h.after refl)

-- ---- paths that stand once

part_distinct : (test : Steps → Bool) (paths : List Steps) → AreDistinct paths → AreDistinct (filter test paths)
part_distinct test [] d = tt
part_distinct test (q ∷ paths) d = go (test q) (part_distinct test paths d.1)
  where
    go : (b : Bool) → AreDistinct (filter test paths) → AreDistinct (cond b (q ∷ filter test paths) (filter test paths))
    go true rest = (λ h. d.0 (among_has paths q (from_part test paths q (has_among (filter test paths) q h)).0), rest)
    go false rest = rest

once_distinct : (paths : List Steps) → AreDistinct (each_once paths)
once_distinct [] = tt
once_distinct (q ∷ paths) = (
  λ h. both_ways (not (same_path q q)) (ap not (same_self q)) (from_part (λ r. not (same_path q r)) (each_once paths) q (has_among (filter (λ r. not (same_path q r)) (each_once paths)) q h)).1,
  part_distinct (λ r. not (same_path q r)) (each_once paths) (once_distinct paths),
)

-- ---- the numbers on some paths

module _ (t : Table) (x : ℕ) (least : Steps → Option ℤ) where
  abbrev numbers : List Steps → List Common
  numbers paths = flat_map (λ p. numbered p (least p)) paths

  each_number : (P : Common → Type 0) (paths : List Steps) → ((p : Steps) (n : ℤ) → Among paths p → least p ≡ Some n → P (record { path = p; number = n })) → AllByRecursion P (numbers paths)
  each_number P [] h = tt
  each_number P (q ∷ paths) h = go (least q) refl (each_number P paths (λ p n a e. h p n (inr a) e))
    where
      go : (o : Option ℤ) → least q ≡ o → AllByRecursion P (numbers paths) → AllByRecursion P (numbered q o ++ numbers paths)
      go None e rest = rest
      go (Some n) e rest = (h q n (inl refl) e, rest)

  numbers_once : (paths : List Steps) → AreDistinct paths → AreDistinct (paths_of (numbers paths))
  numbers_once [] d = tt
  numbers_once (q ∷ paths) d = go (least q) (numbers_once paths d.1)
    where
      go : (o : Option ℤ) → AreDistinct (paths_of (numbers paths)) → AreDistinct (paths_of (numbered q o ++ numbers paths))
      go None rest = rest
      go (Some n) rest = (λ h. d.0 (among_has paths q (on_judged t x least paths q (has_on (numbers paths) q h))), rest)

-- ---- of two containers

path_constrained : (cs : List Constraint) (p : Steps) → Among (map (λ (c : Constraint). c.path) cs) p → IsConstrained cs p
path_constrained [] p h = absurd h
path_constrained (c ∷ cs) p (inl h) = inl h
path_constrained (c ∷ cs) p (inr h) = inr (path_constrained cs p h)

constrained_path : (cs : List Constraint) (p : Steps) → IsConstrained cs p → Among (map (λ (c : Constraint). c.path) cs) p
constrained_path [] p h = absurd h
constrained_path (c ∷ cs) p (inl h) = inl h
constrained_path (c ∷ cs) p (inr h) = inr (constrained_path cs p h)

judged : (t : Table) (x : ℕ) (cs : List Constraint) (p : Steps) → Among (judged_paths t x cs) p → StartsInEntries t x p × IsConstrained cs p
judged t x cs p h =
    let k = from_part (starts_above t x) (constrained_paths cs) p h in
    (starts_from t x p k.1, path_constrained cs p (once_from (map (λ (c : Constraint). c.path) cs) p k.0))

is_judged : (t : Table) (x : ℕ) (cs : List Constraint) (p : Steps) → StartsInEntries t x p → IsConstrained cs p → Among (judged_paths t x cs) p
is_judged t x cs p st con = in_part (starts_above t x) (constrained_paths cs) p (once_in (map (λ (c : Constraint). c.path) cs) p (constrained_path cs p con)) (starts_in t x p st)

pub common_least : (t : Table) (Used : ℕ → Type 0) (x k l : ℕ) → Overlapping t Used x k l → AreLeastCommon t x k l (common_of t x k l)
common_least t Used x k l o = record {
  judged = sorted_all t (λ c. StartsInEntries t x c.path × IsConstrained cs c.path) [] found tt (each_number t x (least_on t cs) (λ c. StartsInEntries t x c.path × IsConstrained cs c.path) paths (λ p n a e. judged t x cs p a));
  least = sorted_all t (IsLeastSolution t cs) [] found tt (each_number t x (least_on t cs) (IsLeastSolution t cs) paths (λ p n a e. let s = on_found t cs p n e in record { solves = s.0; least = s.1 }));
  all = λ path st con. number path st con (least_on t cs path) refl;
  once = sorted_once t [] found tt (numbers_once t x (least_on t cs) paths (part_distinct (starts_above t x) (constrained_paths cs) (once_distinct (map (λ (c : Constraint). c.path) cs)))) (λ path h a. h);
  in_order = sorted_order t [] found tt;
}
  where
    cs : List Constraint
    cs = constraints_of_both t k l

    paths : List Steps
    paths = judged_paths t x cs

    found : List Common
    found = flat_map (common_on t cs) paths

    number : (path : Steps) → StartsInEntries t x path → IsConstrained cs path → (n : Option ℤ) → least_on t cs path ≡ n → IsOn (common_of t x k l) path
    number path st con None e = let n = o.common path st con in absurd (on_none t cs path e n.0 n.1)
    number path st con (Some n) e = sorted_new t [] found path (judged_on t x (least_on t cs) paths path n (is_judged t x cs path st con) e)
