-- The least numbers that the entries of two containers that overlap can have in both.
use Rattle.std.specs.Prelude.{◌≡◌, ℕ, ℤ, ◌≤ℤ◌, List, [], ◌∷◌, ◌++◌, map, filter, fold, insert, flat_map, unwrap_or, String, string_bytes, Bool, false, not, if◌then◌else◌, true, Option, Some, None}
use Rattle.std.specs.Cmp.Lexicographic.{slice_cmp}
use Rattle.std.specs.declared.alloc.Global.{Global}
use Rattle.std.specs.List.{AllByRecursion}
use Rattle.std.specs.List.Sorted.{IsStrictlySortedBy}
use Rattle.std.specs.Map.{lookup}
use Rattle.std.specs.Ordering.{is_eq, nat_cmp}
use Rattle.std.specs.String.{string_cmp}
use Rattle.eds_base.specs.declared.spans.Span.{Span}
use Rattle.eds_bits.specs.Lists.{HasOne}
use Rattle.eds_types.specs.declared.row.Constraint.{Constraint}
use Rattle.eds_types.specs.declared.sets.PathSet.{PathSet}
use Rattle.eds_types.specs.Fields.{StartsInEntries, constraints_along}
use Rattle.eds_types.specs.Overlap.{IsSolution, IsConstrained}
use Rattle.eds_types.specs.Rows.{Table}
use Rattle.eds_types.specs.Rules.{AreDistinct}
use Rattle.eds_overlap.specs.declared.common.Common.{Common}
use Rattle.eds_types.specs.Reading.{starts_above}
use Rattle.eds_overlap.specs.LeastNumbers.{least_in_all, least_on}
use Rattle.eds_overlap.specs.Pairs.{Steps, same_path, set_on}
use Rattle.eds_overlap.specs.PathTexts.{path_text, count_up_to, AreInOrder}

-- the paths that the numbers are on
abbrev pub paths_of : List Common → List Steps
paths_of common = map (λ (c : Common). c.path) common

-- the texts of the paths that the numbers are on
abbrev pub texts_of : Table → List Common → List (List ℕ)
texts_of t common = map (λ (c : Common). path_text t c.path) common

-- a number is on this path
abbrev pub IsOn : List Common → Steps → Type 0
IsOn common path = HasOne (λ (c : Common). c.path ≡ path) common

-- a number is on this path, as a test
abbrev pub is_on : List Common → Steps → Bool
is_on [] path = false
is_on (c ∷ common) path = if same_path c.path path then true else is_on common path

-- some paths, each where it comes first
abbrev pub each_once : List Steps → List Steps
each_once [] = []
each_once (p ∷ paths) = p ∷ filter (λ q. not (same_path p q)) (each_once paths)

-- ---- of two containers

-- the constraints of two containers
abbrev pub constraints_of_both : Table → ℕ → ℕ → List Constraint
constraints_of_both t k l = constraints_along t k ++ constraints_along t l

-- it is the least number that all constraints on its path, and the path's domain, have
pub record IsLeastSolution (t : Table) (cs : List Constraint) (c : Common) : Type 0 where
  pub solves : IsSolution t cs c.path c.number
  pub least : (n : ℤ) → IsSolution t cs c.path n → c.number ≤ℤ n

-- for each path that starts above the choice at x and that a constraint of k or l is on, and for no other, the least
-- common number; in the order of the paths' texts
pub record AreLeastCommon (t : Table) (x k l : ℕ) (common : List Common) : Type 0 where
  pub judged : AllByRecursion (λ c. StartsInEntries t x c.path × IsConstrained (constraints_of_both t k l) c.path) common
  pub least : AllByRecursion (IsLeastSolution t (constraints_of_both t k l)) common
  pub all : (path : Steps) → StartsInEntries t x path → IsConstrained (constraints_of_both t k l) path → IsOn common path
  pub once : AreDistinct (paths_of common)
  pub in_order : AreInOrder (texts_of t common)

-- ---- worked out

-- the paths that some constraints are on, each where the first of them is
abbrev pub constrained_paths : List Constraint → List Steps
constrained_paths cs = each_once (map (λ (c : Constraint). c.path) cs)

-- those that start above the choice at x
abbrev pub judged_paths : Table → (x : ℕ) → List Constraint → List Steps
judged_paths t x cs = filter (starts_above t x) (constrained_paths cs)

-- a number that may be there on a path, as a list
abbrev pub numbered : Steps → Option ℤ → List Common
numbered path None = []
numbered path (Some n) = record { path = path; number = n } ∷ []

-- the least number that constraints and the domain leave on a path, if there is one
abbrev pub common_on : Table → List Constraint → Steps → List Common
common_on t cs path = numbered path (least_on t cs path)

-- a number put among others that stand in the order of their paths' texts: behind those whose texts come no later
abbrev pub put_in_order : Table → List Common → Common → List Common
put_in_order t common c = insert common (count_up_to (texts_of t common) (path_text t c.path)) c

-- some numbers in the order of their paths' texts
abbrev pub sorted_by_text : Table → List Common → List Common
sorted_by_text t cs = fold (put_in_order t) [] cs

-- the least common numbers of two containers that part at x
abbrev pub common_of : Table → (x k l : ℕ) → List Common
common_of t x k l = sorted_by_text t (flat_map (common_on t (constraints_of_both t k l)) (judged_paths t x (constraints_of_both t k l)))

-- ---- by the sets of two containers

-- the least number of two sets that may be there
abbrev pub least_of_sets : Option (List Span) → Option (List Span) → Option ℤ
least_of_sets None None = None
least_of_sets None (Some theirs) = least_in_all (theirs ∷ [])
least_of_sets (Some ours) None = least_in_all (ours ∷ [])
least_of_sets (Some ours) (Some theirs) = least_in_all (ours ∷ theirs ∷ [])

-- the least number of the sets on a path in both lists
abbrev pub least_of_both : List PathSet → List PathSet → Steps → Option ℤ
least_of_both ours theirs path = least_of_sets (set_on ours path) (set_on theirs path)

-- ---- one path after another

-- the number on a path put among others, where there is one
abbrev pub put_found : Table → List Common → Steps → Option ℤ → List Common
put_found t common path None = common
put_found t common path (Some n) = put_in_order t common (record { path = path; number = n })

-- the least number on a path put among others, where the path starts above the choice at x and no number is on it
abbrev pub with_path : Table → (x : ℕ) → (Steps → Option ℤ) → List Common → Steps → List Common
with_path t x least common path = if starts_above t x path then (if is_on common path then common else put_found t common path (least path)) else common

-- the same with the paths of some constraints, one after another
abbrev pub with_paths : Table → (x : ℕ) → (Steps → Option ℤ) → List Common → List Constraint → List Common
with_paths t x least common some = fold (λ old (c : Constraint). with_path t x least old c.path) common some

-- ---- under texts

-- all numbers of a map by texts, in the order of the texts
abbrev pub all_under : List (String Global × List Common) → List Common
all_under entries = flat_map (λ (e : String Global × List Common). e.1) entries

-- the numbers under a text
abbrev pub numbers_under : List (String Global × List Common) → List ℕ → List Common
numbers_under entries text = unwrap_or (lookup (λ (k : String Global). is_eq (slice_cmp nat_cmp text (string_bytes k))) entries) []

-- the texts rise, and each number is under the text of its path
pub record AreUnderTexts (t : Table) (entries : List (String Global × List Common)) : Type 0 where
  pub rise : IsStrictlySortedBy string_cmp (map (λ (e : String Global × List Common). e.0) entries)
  pub own : AllByRecursion (λ (e : String Global × List Common). AllByRecursion (λ (c : Common). path_text t c.path ≡ string_bytes e.0) e.1) entries
