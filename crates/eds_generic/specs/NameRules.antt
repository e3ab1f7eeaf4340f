-- The rules that keep a generic name, or the name of a member.
use Rattle.std.specs.Prelude.{◌≡◌, ℕ, zero, suc, List, [], ◌∷◌, ◌++◌, length, map, codes, Bool, true, false, ◌||◌, ◌==◌, nat_lt, if◌then◌else◌, Option, Some, None, slice_get}
use Rattle.std.specs.List.{flat_map}
use Rattle.eds_base.specs.declared.ids.Place.{Place}
use Rattle.eds_base.specs.declared.ids.TypeId.{TypeId}
use Rattle.eds_base.specs.declared.refusal.Refusal.{Refusal}
use Rattle.eds_base.specs.declared.refusal.Kept.TheVariants.{Word}
use Rattle.eds_base.specs.declared.rule.Rule.{Rule}
use Rattle.eds_base.specs.declared.rule.Rule.TheVariants.{Limit, DuplicateMember, Unmapped, UnknownGeneric, GenericBase}
use Rattle.eds_plan.specs.declared.instance.Member.{Member}
use Rattle.eds_generic.specs.declared.face.Face.{Face}
use Rattle.eds_generic.specs.declared.face.Generic.{Generic}
use Rattle.eds_generic.specs.declared.pair.Bound.{Bound}
use Rattle.eds_generic.specs.declared.pair.Bound.TheVariants as bound
use Rattle.eds_generic.specs.declared.pair.Pair.{Pair}
use Rattle.eds_generic.specs.Faces.{generics}
use Rattle.eds_generic.specs.Pairs.{reached, most, is_among, same_pair}
use Rattle.eds_generic.specs.Members.{repeated}

-- a refusal that keeps a name
abbrev pub keeping : Rule → Place → List ℕ → Refusal
keeping rule at word = record { rule = rule; place = at; kept = Word word }

-- the first of some
abbrev pub first : {A : Type 0} → List A → Option A
first [] = None
first (x ∷ xs) = Some x

-- ---- a generic name is in no map

-- a generic name that no map gives a type
abbrev pub is_unmapped : Bound → Bool
is_unmapped bound.Unmapped = true
is_unmapped (bound.Unknown face k) = false
is_unmapped (bound.Sort id) = false

-- the generic names, each with what it stands for, that no map gives a type
abbrev pub unmapped_of : List Generic → List Bound → List (List ℕ)
unmapped_of [] bounds = []
unmapped_of (g ∷ gs) [] = []
unmapped_of (g ∷ gs) (b ∷ bs) = (if is_unmapped b then g.name ∷ [] else []) ++ unmapped_of gs bs

-- the own generic names of a pair that its map leaves out, in document order
abbrev pub unmapped_at : List Face → List (Option TypeId) → Pair → List (List ℕ)
unmapped_at faces types p = unmapped_of (generics faces p.face.0) p.types

-- ---- a map names what is no generic name of its interface

-- the names of a map that are no generic names of its interface, in the order of the map
abbrev pub unknown_at : List Face → List (Option TypeId) → Pair → List (List ℕ)
unknown_at faces types p = map (λ f. f.name) p.further

-- ---- a type is not admitted by the type that its generic name is to derive from

-- what a type derives from, where there is such a type
abbrev pub base_by : Option (Option TypeId) → Option TypeId
base_by None = None
base_by (Some base) = base

-- the type that a type derives from, where for each type the one is given that it derives from
abbrev pub base_of : List (Option TypeId) → ℕ → Option TypeId
base_of types id = base_by (slice_get types id)

-- a test of the type that a type derives from, false where it derives from none
abbrev pub derived_by : (ℕ → Bool) → Option TypeId → Bool
derived_by up None = false
derived_by up (Some base) = up base.0

-- a type is another one or derives from it over fewer than n steps
unfoldable pub derives : ℕ → List (Option TypeId) → ℕ → ℕ → Bool
derives zero types from id = false
derives (suc n) types from id = (id == from) || derived_by (derives n types from) (base_of types id)

-- a chain of types has at most 16
abbrev pub refuses : List (Option TypeId) → Option TypeId → Bound → Bool
refuses types (Some from) (bound.Sort id) = if derives 16 types from.0 id.0 then false else true
refuses types (Some from) bound.Unmapped = false
refuses types (Some from) (bound.Unknown face k) = false
refuses types None b = false

-- the generic names, each with what it stands for, that stand for a type which they do not admit
abbrev pub refused_of : List (Option TypeId) → List Generic → List Bound → List (List ℕ)
refused_of types [] bounds = []
refused_of types (g ∷ gs) [] = []
refused_of types (g ∷ gs) (b ∷ bs) = (if refuses types g.base b then g.name ∷ [] else []) ++ refused_of types gs bs

-- the same of a pair, in document order
abbrev pub refused_at : List Face → List (Option TypeId) → Pair → List (List ℕ)
refused_at faces types p = refused_of types (generics faces p.face.0) p.types

-- ---- breaks

-- all names in the order in which the members are gathered: the map of an interface before the maps of its bases
abbrev pub names_under : (List Face → List (Option TypeId) → Pair → List (List ℕ)) → List Face → List (Option TypeId) → Pair → List (List ℕ)
names_under names faces types p = flat_map (names faces types) (reached (most faces) faces p)

-- a generic name of an interface that is reached has no type
abbrev pub breaks_unmapped : List Face → List (Option TypeId) → Place → Pair → List Refusal
breaks_unmapped faces types at p = map (keeping Unmapped at) (names_under unmapped_at faces types p)

-- a map that is reached names what is no generic name of its interface
abbrev pub breaks_unknown : List Face → List (Option TypeId) → Place → Pair → List Refusal
breaks_unknown faces types at p = map (keeping UnknownGeneric at) (names_under unknown_at faces types p)

-- a map that is reached gives a generic name a type that it does not admit
abbrev pub breaks_generic_base : List Face → List (Option TypeId) → Place → Pair → List Refusal
breaks_generic_base faces types at p = map (keeping GenericBase at) (names_under refused_at faces types p)

-- ---- members

-- another member of a name that is there
abbrev pub duplicates_of : Place → List Member → List Refusal
duplicates_of at ms = map (keeping DuplicateMember at) (repeated ms)

-- an instance has at most 1,024 members
abbrev pub limit_of : Place → List Member → List Refusal
limit_of at ms = if nat_lt 1024 (length ms) then keeping Limit at (codes "members") ∷ [] else []

-- ---- what is judged already

-- a rule says what names it keeps of a pair
abbrev pub Names : Type 0
Names = List Face → List (Option TypeId) → Pair → List (List ℕ)

-- some pairs at and under which a rule is not broken
abbrev pub AreClean : Names → List Face → List (Option TypeId) → List Pair → Type 0
AreClean names faces types clean = (p : Pair) → is_among clean p ≡ true → names_under names faces types p ≡ []

-- where a rule is not broken by one of two that are the same, it is not by the other
abbrev pub IsAlike : Names → Type 0
IsAlike names = (faces : List Face) (types : List (Option TypeId)) (p q : Pair) → same_pair p q ≡ true → names faces types q ≡ [] → names faces types p ≡ []
