-- The numbers that constraints leave on their paths, and the first pair of containers that overlap.
use Rattle.std.specs.Prelude.{◌≡◌, ◌≢◌, ℕ, suc, length, slice_get, ◌++◌, ◌<◌, ◌≤◌, ◌⊎◌, ℤ, List, [], ◌∷◌, map, Bool, true, false, ◌==◌, ◌&&◌, if◌then◌else◌, Option, Some, None}
use Rattle.std.specs.Cmp.Lexicographic.{slice_cmp}
use Rattle.std.specs.declared.cmp.Ordering.{Ordering}
use Rattle.std.specs.declared.cmp.Ordering.TheVariants.{Less}
use Rattle.std.specs.List.{AllByRecursion, flat_map}
use Rattle.std.specs.Ordering.{is_lt, nat_cmp, ordering_then}
use Rattle.eds_base.specs.declared.ids.TypeId.{TypeId}
use Rattle.eds_base.specs.declared.spans.Span.{Span}
use Rattle.eds_base.specs.Spans.{IsWithin}
use Rattle.eds_bits.specs.Lists.{Has, HasOne}
use Rattle.eds_types.specs.declared.row.Constraint.{Constraint}
use Rattle.eds_types.specs.declared.sets.PathSet.{PathSet}
use Rattle.eds_types.specs.Rows.{Table, id_of, numbers_of, constraints_of, chain, list_has}
use Rattle.eds_types.specs.Fields.{StartsInEntries, IsAtOrUnder, constraints_along, type_on}
use Rattle.eds_types.specs.Domains.{int_domain}
use Rattle.eds_types.specs.Rules.{AreDistinct}
use Rattle.eds_types.specs.Overlap.{IsSolution, IsConstrained, Overlapping}

-- a path to an entry, step by step: a container in whose entries or trailers a part stands, and the part's place there
abbrev pub Steps : Type 0
Steps = List (TypeId × ℕ)

-- ---- solution sets

-- the set has just the numbers that meet all constraints on its path and lie in the path's domain
pub record IsSolved (t : Table) (cs : List Constraint) (s : PathSet) : Type 0 where
  pub constrained : IsConstrained cs s.path
  pub solves : (n : ℤ) → IsWithin s.set n → IsSolution t cs s.path n
  pub all : (n : ℤ) → IsSolution t cs s.path n → IsWithin s.set n

-- a set for each path that a constraint is on, and one alone
pub record AreSets (t : Table) (cs : List Constraint) (sets : List PathSet) : Type 0 where
  pub each : AllByRecursion (IsSolved t cs) sets
  pub all : (path : Steps) → IsConstrained cs path → HasOne (λ s. s.path ≡ path) sets
  pub once : AreDistinct (map (λ (s : PathSet). s.path) sets)

-- the constraints of some types, one after the other
abbrev pub constraints_among : Table → List TypeId → List Constraint
constraints_among t ids = flat_map (λ (id : TypeId). constraints_of t id.0) ids

-- the constraint is one of the table's
abbrev pub IsDeclared : Table → Constraint → Type 0
IsDeclared t c = (k : ℕ) × Has (constraints_of t k) c

-- the domain of an integer type or sub-range, where the path leads to one
abbrev pub int_domain_by : Table → Option ℕ → Option (List Span)
int_domain_by t None = None
int_domain_by t (Some id) = int_domain t id

-- the domain of the integer type or sub-range that a path leads to
abbrev pub int_domain_on : Table → Steps → Option (List Span)
int_domain_on t path = int_domain_by t (type_on t path)

-- ---- paths

-- whether two paths are one
abbrev pub same_path : Steps → Steps → Bool
same_path [] [] = true
same_path [] (q ∷ qs) = false
same_path (p ∷ ps) [] = false
same_path (p ∷ ps) (q ∷ qs) = if (p.0).0 == (q.0).0 && p.1 == q.1 then same_path ps qs else false

-- the first set on a path
abbrev pub set_on : List PathSet → Steps → Option (List Span)
set_on [] path = None
set_on (s ∷ sets) path = if same_path s.path path then Some s.set else set_on sets path

-- ---- the order of paths

-- the order of steps: by their containers, then by their positions
abbrev pub step_cmp : TypeId × ℕ → TypeId × ℕ → Ordering
step_cmp p q = ordering_then (nat_cmp (p.0).0 (q.0).0) (nat_cmp p.1 q.1)

-- the order of paths, step by step
abbrev pub path_cmp : Steps → Steps → Ordering
path_cmp p q = slice_cmp step_cmp p q

-- each path comes before all behind it
abbrev pub AreRising : List Steps → Type 0
AreRising [] = Unit {0}
AreRising (p ∷ paths) = AllByRecursion (λ q. path_cmp p q ≡ Less) paths × AreRising paths

-- the sets of some constraints, in the order of their paths
abbrev pub AreSetsInOrder : Table → List Constraint → List PathSet → Type 0
AreSetsInOrder t cs sets = AreSets t cs sets × AreRising (map (λ (s : PathSet). s.path) sets)

-- the constraint's path comes before none of theirs
abbrev pub IsBehind : List Constraint → Constraint → Type 0
IsBehind cs c = AllByRecursion (λ (d : Constraint). is_lt (path_cmp c.path d.path) ≡ false) cs

-- no constraint comes before one that stands ahead of it
abbrev pub AreByPath : List Constraint → Type 0
AreByPath [] = Unit {0}
AreByPath (c ∷ cs) = AllByRecursion (λ (d : Constraint). is_lt (path_cmp d.path c.path) ≡ false) cs × AreByPath cs

-- the sets of some constraints become those of one more, which comes before none of them
abbrev pub TakesIn : Table → Constraint → List PathSet → List PathSet → Type 0
TakesIn t c old new = (cs : List Constraint) → IsBehind cs c → AreSetsInOrder t cs old → AreSetsInOrder t (cs ++ c ∷ []) new

-- ---- pairs

-- the types that a list names
abbrev pub Named : List TypeId → ℕ → Type 0
Named used u = Has used (id_of u)

-- some number is in this option, or there is none to be in
abbrev pub IsWithinOn : Option (List Span) → ℤ → Type 0
IsWithinOn None n = Unit {0}
IsWithinOn (Some set) n = IsWithin set n

-- the set has a number that the set on its path among others has too, where its path starts above a choice at x
abbrev pub Agrees : Table → ℕ → List PathSet → PathSet → Type 0
Agrees t x others s = StartsInEntries t x s.path → (n : ℤ) × IsWithin s.set n × IsWithinOn (set_on others s.path) n

-- the sets of all types, each at the number of its type
pub record AllSets (t : Table) (sets : List (List PathSet)) : Type 0 where
  pub size : length sets ≡ length t
  pub each : (k : ℕ) (some : List PathSet) → slice_get sets k ≡ Some some → AreSets t (constraints_along t k) some

-- how many types two lists have in common at their front
abbrev pub shared : List TypeId → List TypeId → ℕ
shared [] others = 0
shared (x ∷ ids) [] = 0
shared (x ∷ ids) (y ∷ others) = if x.0 == y.0 then suc (shared ids others) else 0

-- k and l are under different children of x
pub record ArePartedAt (t : Table) (x k l : ℕ) : Type 0 where
  pub one : ℕ
  pub other : ℕ
  pub differ : one ≢ other
  pub to_first : (more : List ℕ) × (chain t k ≡ chain t x ++ one ∷ more)
  pub to_second : (more : List ℕ) × (chain t l ≡ chain t x ++ other ∷ more)

-- the type is used, or derives from a used one
abbrev pub IsReadThrough : Table → (ℕ → Type 0) → ℕ → Type 0
IsReadThrough t Used x = (u : ℕ) × Used u × IsAtOrUnder t u x

-- the sets of two containers agree on each path that starts above a choice at x, which is read through a used type
pub record Meets (t : Table) (Used : ℕ → Type 0) (x : ℕ) (ours theirs : List PathSet) : Type 0 where
  pub ours_agree : AllByRecursion (Agrees t x theirs) ours
  pub theirs_agree : AllByRecursion (Agrees t x ours) theirs
  pub read : IsReadThrough t Used x

-- whether some of the ids is among the used ones
abbrev pub has_used : List TypeId → List TypeId → Bool
has_used used [] = false
has_used used (x ∷ ids) = if list_has (numbers_of used) x.0 then true else has_used used ids

-- k and l overlap, k is declared before l, and no type before k overlaps with l
pub record IsFirstWith (t : Table) (Used : ℕ → Type 0) (x k l : ℕ) : Type 0 where
  pub overlapping : Overlapping t Used x k l
  pub in_order : k < l
  pub least : (y i : ℕ) → i < k → Overlapping t Used y i l → ⊥

-- k and l overlap, k is declared before l, and of all such pairs theirs has the least second, then the least first
pub record IsFirstPair (t : Table) (Used : ℕ → Type 0) (x k l : ℕ) : Type 0 where
  pub overlapping : Overlapping t Used x k l
  pub in_order : k < l
  pub least : (y i j : ℕ) → i < j → Overlapping t Used y i j → (l < j) ⊎ ((l ≡ j) × (k ≤ i))
