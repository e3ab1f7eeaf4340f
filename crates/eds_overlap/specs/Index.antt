-- Lists of the containers that may overlap, by the numbers that tell them apart.
use Rattle.std.specs.Prelude.{◌≡◌, ℕ, ◌<◌, ◌≤◌, ℤ, List, [], ◌∷◌, ◌++◌, map, codes, decimal, Option, Some, None, option_map, unwrap_or, is_some, slice_get, String, IsTrue, IfSome, if◌then◌else◌}
use Rattle.std.specs.Fmt.{signed_decimal}
use Rattle.std.specs.Ordering.{int_eq}
use Rattle.std.specs.BTreeMap.{BTreeMap, get_by_text}
use Rattle.std.specs.declared.alloc.Global.{Global}
use Rattle.eds_base.specs.declared.ids.TypeId.{TypeId}
use Rattle.eds_base.specs.declared.spans.Span.{Span}
use Rattle.eds_bits.specs.Lists.{HasOne}
use Rattle.eds_types.specs.declared.sets.PathSet.{PathSet}
use Rattle.eds_types.specs.Overlap.{Overlapping}
use Rattle.eds_types.specs.Rows.{Table, id_of, chain, is_concrete}
use Rattle.eds_overlap.specs.declared.find.Pair.{Pair}
use Rattle.eds_overlap.specs.Pairs.{Steps, set_on}

-- ---- lone numbers

-- the number of an interval that has no other one
abbrev pub lone_in : Span → Option ℤ
lone_in s = if int_eq s.low s.high then Some s.low else None

-- the number of a set of one such interval
abbrev pub lone : List Span → Option ℤ
lone [] = None
lone (s ∷ []) = lone_in s
lone (s ∷ r ∷ set) = None

-- the lone number of a set, where there is a set and it has one
abbrev pub lone_by : Option (List Span) → Option ℤ
lone_by None = None
lone_by (Some set) = lone set

-- the number to which the sets hold a path
abbrev pub lone_on : List PathSet → Steps → Option ℤ
lone_on sets path = lone_by (set_on sets path)

-- ---- marks

-- a number in front of others, where it and they are there
abbrev pub before : Option ℤ → Option (List ℤ) → Option (List ℤ)
before None more = None
before (Some n) more = option_map (λ ns. n ∷ ns) more

-- the numbers to which the sets hold those paths that a model's sets hold to one number, where they hold each of them
abbrev pub marks_on : List PathSet → List PathSet → Option (List ℤ)
marks_on [] sets = Some []
marks_on (s ∷ model) sets = if is_some (lone s.set) then before (lone_on sets s.path) (marks_on model sets) else marks_on model sets

-- the first of some types, or another one where there is none
abbrev pub first_or : List TypeId → TypeId → TypeId
first_or [] id = id
first_or (x ∷ ids) id = x

-- the last base of a type, which names its family
abbrev pub family : Table → ℕ → TypeId
family t k = first_or (map id_of (chain t k)) (id_of k)

-- the sets of a type
abbrev pub sets_of : List (List PathSet) → ℕ → List PathSet
sets_of sets k = unwrap_or (slice_get sets k) []

-- the model of a family, which may be any type
abbrev pub model_of : List TypeId → TypeId → TypeId
model_of models f = unwrap_or (slice_get models f.0) f

-- the numbers of a type by the model of its family
abbrev pub mark : Table → List (List PathSet) → List TypeId → ℕ → Option (List ℤ)
mark t sets models k = marks_on (sets_of sets (model_of models (family t k)).0) (sets_of sets k)

-- ---- lists

-- lists of types by texts
abbrev pub Places : Type 0
Places = BTreeMap (String Global) (List TypeId)

-- the types that are listed under a text
abbrev pub listed : Places → List ℕ → List TypeId
listed places key = unwrap_or (get_by_text places key) []

-- the numbers, each behind a space
abbrev pub numbers_text : List ℤ → List ℕ
numbers_text [] = []
numbers_text (n ∷ ns) = (codes " " ++ signed_decimal n) ++ numbers_text ns

-- under which all containers of a family are listed
abbrev pub all_key : TypeId → List ℕ
all_key f = decimal f.0 ++ codes " all"

-- under which those are that have no mark
abbrev pub free_key : TypeId → List ℕ
free_key f = decimal f.0 ++ codes " free"

-- under which those with these numbers are
abbrev pub held_key : TypeId → List ℤ → List ℕ
held_key f ns = decimal f.0 ++ codes " held" ++ numbers_text ns

-- under which one is by its mark
abbrev pub own_key : TypeId → Option (List ℤ) → List ℕ
own_key f None = free_key f
own_key f (Some ns) = held_key f ns

-- the type is listed under the text
abbrev pub IsListed : Places → List ℕ → ℕ → Type 0
IsListed places key k = HasOne (λ id. id ≡ id_of k) (listed places key)

-- each of the first n types that is a concrete container is listed in its family, and by its mark
pub record AreListed (t : Table) (sets : List (List PathSet)) (models : List TypeId) (n : ℕ) (places : Places) : Type 0 where
  pub all : (k : ℕ) → k < n → IsTrue (is_concrete t k) → IsListed places (all_key (family t k)) k
  pub own : (k : ℕ) → k < n → IsTrue (is_concrete t k) → IsListed places (own_key (family t k) (mark t sets models k)) k

-- ---- the best pair so far

-- what was found is the type, or comes before it
abbrev pub IsReached : Option Pair → ℕ → Type 0
IsReached None k = ⊥
IsReached (Some p) k = p.first.0 ≤ k

-- what was found overlaps with l, and comes before it
abbrev pub OverlapsWith : Table → (ℕ → Type 0) → ℕ → Option Pair → Type 0
OverlapsWith t Used l best = IfSome best (λ p. (p.second ≡ id_of l) × (p.first.0 < l) × Overlapping t Used p.ancestor.0 p.first.0 l)

-- the type comes no earlier than what was found, where it comes before l and overlaps with it
abbrev pub IsMetWith : Table → (ℕ → Type 0) → ℕ → Option Pair → ℕ → Type 0
IsMetWith t Used l best k = k < l → (x : ℕ) → Overlapping t Used x k l → IsReached best k

-- some types were met, and what was found before stands or gave way to an earlier one
pub record AreMetWith (t : Table) (Used : ℕ → Type 0) (l : ℕ) (ids : List TypeId) (old new : Option Pair) : Type 0 where
  pub sound : OverlapsWith t Used l old → OverlapsWith t Used l new
  pub kept : (k : ℕ) → IsReached old k → IsReached new k
  pub met : (k : ℕ) → HasOne (λ id. id ≡ id_of k) ids → IsMetWith t Used l new k

-- ---- which containers may overlap

-- the lists of the containers that may overlap with l: those with its numbers and those without a mark; or, where it has no
-- mark, its whole family
abbrev pub MayMeetBy : Table → Places → ℕ → Option (List ℤ) → List TypeId → List TypeId → Type 0
MayMeetBy t places l None near others = (near ≡ listed places (all_key (family t l))) × (others ≡ [])
MayMeetBy t places l (Some ns) near others = (near ≡ listed places (held_key (family t l) ns)) × (others ≡ listed places (free_key (family t l)))

-- the same by the mark of l
abbrev pub MayMeet : Table → List (List PathSet) → List TypeId → Places → ℕ → List TypeId → List TypeId → Type 0
MayMeet t sets models places l near others = MayMeetBy t places l (mark t sets models l) near others
