-- The names of a sheet, and what a reference finds.
use Rattle.std.specs.Prelude.{◌≡◌, ℕ, false, List, [], ◌∷◌, ◌++◌, map, if◌then◌else◌, nat_eq, count_by, Bool, Option, Some, None, slice_get, unwrap_or, IsSomeAnd, Result, Ok, Err}
pub use Rattle.std.specs.Option.{option_or as or_else}
use Rattle.eds_base.specs.Reading.{same}
use Rattle.eds_base.specs.declared.ids.Place.{Place}
use Rattle.eds_base.specs.declared.refusal.Refusal.{Refusal}
use Rattle.eds_base.specs.Refusals.{least}
use Rattle.eds_tree.specs.declared.tree.Node.{Node}
use Rattle.eds_names.specs.declared.declared.Item.{Item}
use Rattle.eds_names.specs.declared.declared.Declared.{Declared}
use Rattle.eds_names.specs.Standings.{joined, arounds_of}
use Rattle.eds_names.specs.Around.{name_by}
use Rattle.eds_names.specs.Repeats.{is_among, repeats, repeats_from}
use Rattle.eds_names.specs.Declarations.{declared_in, named_of}

-- the declared items of a sheet in order, and for each file and element the name around it
pub record Names : Type 0 where
  pub declared : List Declared
  pub arounds : List (List (Option (List ℕ)))

-- no name stands twice
abbrev pub AreApart : List (List ℕ) → Type 0
AreApart [] = Unit {0}
AreApart (name ∷ names) = (is_among names name ≡ false) × AreApart names

-- no two declared items have one qualified name
abbrev pub NamesDiffer : List Declared → Type 0
NamesDiffer declared = AreApart (map (λ d. d.name) declared)

-- ---- the names under which a reference is looked up

-- the fronts of a name that end before a slash, the longest first
abbrev pub fronts : List ℕ → List (List ℕ)
fronts [] = []
fronts (c ∷ cs) = map (λ front. c ∷ front) (fronts cs) ++ (if nat_eq c 47 then [] ∷ [] else [])

-- the first of the names, which is the longest
abbrev pub longest : List (List ℕ) → Option (List ℕ)
longest [] = None
longest (front ∷ fronts) = Some front

-- how many slashes a name has
abbrev pub slashes : List ℕ → ℕ
slashes name = count_by (λ c. nat_eq c 47) name

-- the number is marked in a table
abbrev pub is_marked : List Bool → ℕ → Bool
is_marked table k = unwrap_or (slice_get table k) false

-- A reference below the name around it: below the component, where it stands in one, below the package, below each
-- shorter front of the package's name, and by itself.
abbrev pub candidates : Option (List ℕ) → List ℕ → List (List ℕ)
candidates None text = text ∷ []
candidates (Some around) text = map (λ front. joined front text) (around ∷ fronts around) ++ text ∷ []

-- ---- what is found

-- a declared item, where this is its name
abbrev pub entry_named : Declared → List ℕ → Option Item
entry_named d name = if same name d.name then Some d.item else None

-- the first declared item of a name
abbrev pub item_named : List Declared → List ℕ → Option Item
item_named [] name = None
item_named (d ∷ ds) name = or_else (entry_named d name) (item_named ds name)

-- the item of the first of some names that is declared
abbrev pub first_found : List Declared → List (List ℕ) → Option Item
first_found declared [] = None
first_found declared (name ∷ names) = or_else (item_named declared name) (first_found declared names)

-- the name around the element at a place
abbrev pub around_at : Names → Place → Option (List ℕ)
around_at names place = name_by (slice_get names.arounds place.file) place.node

-- what a reference from a place finds; from a place where no element is it is looked up by itself
unfoldable pub look_up : Names → Place → List ℕ → Option Item
look_up names from text = first_found names.declared (candidates (around_at names from) text)

-- ---- the names of a sheet

-- all names that are given twice
abbrev pub duplicates : List (List Node) → List Refusal
duplicates trees = repeats [] (map named_of (declared_in trees)) ++ repeats_from 0 trees

-- the names of a sheet
abbrev pub names_of : List (List Node) → Names
names_of trees = record { declared = declared_in trees; arounds = map arounds_of trees }

-- the names, unless a rule is broken
abbrev pub unless : Option Refusal → Names → Result Names Refusal
unless None names = Ok names
unless (Some r) names = Err r

-- the names of a sheet, or the first that is given twice
unfoldable pub names_in : List (List Node) → Result Names Refusal
names_in trees = unless (least (duplicates trees)) (names_of trees)

-- each of some declared items is found under its qualified name, as the one of its position
abbrev pub AreFound : (ℕ → Item) → List Declared → List Declared → Type 0
AreFound item_at rows declared = (k : ℕ) (d : Declared) → slice_get rows k ≡ Some d → item_named declared d.name ≡ Some (item_at k)

-- a name that leads to the item of a position is the name of the row there
abbrev pub LeadsToRow : (ℕ → Item) → List Declared → List Declared → Type 0
LeadsToRow item_at rows declared = (name : List ℕ) (k : ℕ) → item_named declared name ≡ Some (item_at k) → IsSomeAnd (slice_get rows k) (λ d. d.name ≡ name)
