-- The first two containers that overlap, worked out: a function, of which a law says that it finds what the relations of
-- overlap say.
use Rattle.std.specs.Prelude.{◌≡◌, ℕ, ℤ, ◌≤ℤ◌, List, [], ◌∷◌, map, length, Bool, true, ◌==◌, ◌&&◌, if◌then◌else◌, is_some, Option, Some, None, option_map}
use Rattle.std.specs.List.{list_all, range_with_len}
use Rattle.eds_base.specs.Reading.{◌>>=◌}
use Rattle.eds_base.specs.declared.ids.TypeId.{TypeId}
use Rattle.eds_types.specs.declared.row.Constraint.{Constraint}
use Rattle.eds_types.specs.Reading.{starts_above}
use Rattle.eds_types.specs.Overlap.{IsSolution, Overlapping}
use Rattle.eds_types.specs.Rows.{Table, id_of, chain, is_concrete}
use Rattle.eds_types.specs.Rules.{KeepsRules}
use Rattle.eds_overlap.specs.declared.find.Overlap.{Overlap}
use Rattle.eds_overlap.specs.Common.{constraints_of_both, common_of, AreLeastCommon}
use Rattle.eds_overlap.specs.LeastNumbers.{least_on}
use Rattle.eds_overlap.specs.Pairs.{Steps, has_used, Named, IsFirstPair}

-- ---- pairs

-- the constraints leave a number on each path that starts above the choice at x and that one of some constraints is on
abbrev pub leave_numbers : Table → ℕ → (all : List Constraint) → List Constraint → Bool
leave_numbers t x all cs = list_all (λ (c : Constraint). if starts_above t x c.path then is_some (least_on t all c.path) else true) cs

-- the last type that two lists have in common at their front, where both go on; base is the one before them
abbrev pub parting_after : Option ℕ → List ℕ → List ℕ → Option ℕ
parting_after base [] others = None
parting_after base (x ∷ ids) [] = None
parting_after base (x ∷ ids) (y ∷ others) = if x == y then parting_after (Some x) ids others else base

-- the nearest common base of two types, neither of which derives from the other
abbrev pub parting_of : Table → ℕ → ℕ → Option ℕ
parting_of t k l = parting_after None (chain t k) (chain t l)

-- the type is used, or derives from a used one
abbrev pub is_read_through : Table → List TypeId → ℕ → Bool
is_read_through t used x = has_used used (map id_of (chain t x))

-- two containers that part at x overlap there
abbrev pub meets_at : Table → List TypeId → ℕ → ℕ → ℕ → Bool
meets_at t used k l x = is_read_through t used x && leave_numbers t x (constraints_of_both t k l) (constraints_of_both t k l)

-- where two types overlap, if they do
abbrev pub overlap_at : Table → List TypeId → ℕ → ℕ → Option ℕ
overlap_at t used k l = if is_concrete t k && is_concrete t l then (parting_of t k l >>= λ x. if meets_at t used k l x then Some x else None) else None

-- ---- the first pair

-- two containers that overlap at a third
pub record Pair : Type 0 where
  pub ancestor : ℕ
  pub first : ℕ
  pub second : ℕ

-- two types as a pair, where they overlap
abbrev pub pair_at : ℕ → ℕ → Option ℕ → Option Pair
pair_at k l None = None
pair_at k l (Some x) = Some (record { ancestor = x; first = k; second = l })

-- the first that is there of some that may be
abbrev pub first_there : {A B : Type 0} → (A → Option B) → List A → Option B
first_there f [] = None
first_there f (x ∷ xs) = if is_some (f x) then f x else first_there f xs

-- the first type before another one with which it overlaps
abbrev pub first_with : Table → List TypeId → ℕ → Option Pair
first_with t used l = first_there (λ k. pair_at k l (overlap_at t used k l)) (range_with_len 0 l)

-- of the pairs that overlap the one with the least second, and of these that with the least first
abbrev pub first_pair : Table → List TypeId → Option Pair
first_pair t used = first_there (first_with t used) (range_with_len 0 (length t))

-- two containers that overlap, with their least common numbers
abbrev pub overlap_of : Table → Pair → Overlap
overlap_of t p = record { first = id_of p.first; second = id_of p.second; ancestor = id_of p.ancestor; common = common_of t p.ancestor p.first p.second }

-- the first two that overlap where these types are used, with their least common numbers
abbrev pub first_overlap : Table → List TypeId → Option Overlap
first_overlap t used = option_map (overlap_of t) (first_pair t used)

-- ---- the law

-- what the functions find is so, and where they find nothing there is nothing
pub record FindsOverlaps (t : Table) (used : List TypeId) : Type 0 where
  pub least : (cs : List Constraint) (path : Steps) (n : ℤ) → least_on t cs path ≡ Some n → IsSolution t cs path n × ((m : ℤ) → IsSolution t cs path m → n ≤ℤ m)
  pub unsolved : (cs : List Constraint) (path : Steps) → least_on t cs path ≡ None → (n : ℤ) → IsSolution t cs path n → ⊥
  pub found : (p : Pair) → first_pair t used ≡ Some p → IsFirstPair t (Named used) p.ancestor p.first p.second
  pub common : (p : Pair) → first_pair t used ≡ Some p → AreLeastCommon t p.ancestor p.first p.second (common_of t p.ancestor p.first p.second)
  pub nothing : first_pair t used ≡ None → (x k l : ℕ) → Overlapping t (Named used) x k l → ⊥

-- in a table that keeps the rules the functions find what overlaps, and no more, whatever types are used
abbrev pub OverlapsAreFound : Type 0
OverlapsAreFound = (t : Table) (used : List TypeId) → KeepsRules t → FindsOverlaps t used
