-- Names that are given twice: among the declared items of a sheet, and in one owner.
use Rattle.std.specs.Prelude.{ℕ, ◌+◌, List, [], ◌∷◌, ◌++◌, map, filter, codes, Bool, if◌then◌else◌}
use Rattle.std.specs.List.{flat_map, list_any}
use Rattle.eds_base.specs.Reading.{same}
use Rattle.eds_base.specs.declared.ids.Place.{Place}
use Rattle.eds_base.specs.declared.refusal.Refusal.{Refusal}
use Rattle.eds_base.specs.declared.refusal.Kept.TheVariants.{Word}
use Rattle.eds_base.specs.declared.rule.Rule.TheVariants.{Duplicate}
use Rattle.eds_tree.specs.declared.tree.Node.{Node}
use Rattle.eds_tree.specs.Trees.{name_at, children_at}
use Rattle.eds_names.specs.declared.standing.Standing.{Standing}
use Rattle.eds_names.specs.declared.owned.Ownership.{Ownership}
use Rattle.eds_names.specs.Standings.{own_name, standings_of}

-- ---- repeats in a list

-- a name as it must differ from others, the element's own name, and its place
pub record Named : Type 0 where
  pub key : List ℕ
  pub own : List ℕ
  pub place : Place

-- the name is among some
abbrev pub is_among : List (List ℕ) → List ℕ → Bool
is_among names name = list_any (same name) names

-- the refusal of an element whose name another has
abbrev pub duplicate : Named → Refusal
duplicate n = record { rule = Duplicate; place = n.place; kept = Word n.own }

-- the refusal, where the name is among those before it
abbrev pub repeat_of : List (List ℕ) → Named → List Refusal
repeat_of before n = if is_among before n.key then duplicate n ∷ [] else []

-- each element whose name an earlier one has, or is among some names before them
abbrev pub repeats : List (List ℕ) → List Named → List Refusal
repeats before [] = []
repeats before (n ∷ ns) = repeat_of before n ++ repeats (n.key ∷ before) ns

-- ---- what one owner holds

-- the elements of some names that an owner holds, in the sets of some names, or itself where no set is named
pub record Holding : Type 0 where
  pub owner : List ℕ
  pub sets : List (List ℕ)
  pub held : List (List ℕ)

-- an owner with the sets and the items whose names must differ
abbrev pub row : List ℕ → List (List ℕ) → List (List ℕ) → Holding
row owner sets held = record { owner = owner; sets = sets; held = held }

-- the elements whose names must differ in one owner
abbrev pub holdings : List Holding
holdings =
    row (codes "Interface") (codes "GenericTypeSet" ∷ []) (codes "GenericType" ∷ [])
    ∷ row (codes "Interface") (codes "ParameterSet" ∷ codes "CommandSet" ∷ []) (codes "Parameter" ∷ codes "Command" ∷ [])
    ∷ row (codes "Interface") (codes "GenericTypeMapSet" ∷ []) (codes "GenericTypeMap" ∷ [])
    ∷ row (codes "Base") (codes "GenericTypeMapSet" ∷ []) (codes "GenericTypeMap" ∷ [])
    ∷ row (codes "Command") [] (codes "Argument" ∷ [])
    ∷ row (codes "Activity") [] (codes "Argument" ∷ [])
    ∷ row (codes "Component") (codes "ProvidedInterfaceSet" ∷ codes "RequiredInterfaceSet" ∷ []) (codes "Interface" ∷ [])
    ∷ row (codes "Implementation") (codes "VariableSet" ∷ []) (codes "Variable" ∷ [])
    ∷ row (codes "Implementation") (codes "ActivitySet" ∷ []) (codes "Activity" ∷ [])
    ∷ row (codes "Implementation") (codes "StateMachineSet" ∷ []) (codes "StateMachine" ∷ [])
    ∷ row (codes "StateMachine") [] (codes "EntryState" ∷ codes "State" ∷ codes "ExitState" ∷ [])
    ∷ []

-- the children of an element that have one of some names, in document order
abbrev pub children_among : List Node → List (List ℕ) → ℕ → List ℕ
children_among t names n = filter (λ child. is_among names (name_at t child)) (children_at t n)

-- the owner and the sets in it
abbrev pub sets_in : List Node → List (List ℕ) → ℕ → List ℕ
sets_in t [] owner = owner ∷ []
sets_in t (set ∷ sets) owner = children_among t (set ∷ sets) owner

-- what an owner holds, in document order
abbrev pub held_by : List Node → Holding → ℕ → List ℕ
held_by t o owner = flat_map (children_among t o.held) (sets_in t o.sets owner)

-- an element by its name and place
abbrev pub named_at : List Node → ℕ → ℕ → Named
named_at t file n = record { key = own_name t n; own = own_name t n; place = record { file = file; node = n } }

-- the repeats that an element holds by one row
abbrev pub repeats_by : List Node → ℕ → ℕ → Holding → List Refusal
repeats_by t file owner o = if same (name_at t owner) o.owner then repeats [] (map (named_at t file) (held_by t o owner)) else []

-- all repeated names of one owner
abbrev pub repeats_at : List Node → ℕ → Standing → List Refusal
repeats_at t file s = flat_map (repeats_by t file s.node) holdings

-- the repeats in the owners of one file
abbrev pub repeats_in : ℕ → List Node → List Refusal
repeats_in file t = flat_map (repeats_at t file) (standings_of t)

-- the same in some files, of which the first has this number
abbrev pub repeats_from : ℕ → List (List Node) → List Refusal
repeats_from file [] = []
repeats_from file (t ∷ ts) = repeats_in file t ++ repeats_from (file + 1) ts

-- ---- the rows as the code has them

-- such a row of the code's table
abbrev pub holding_of : Ownership → Holding
holding_of o = record { owner = o.owner.now; sets = map (λ s. s.now) o.sets.now; held = map (λ h. h.now) o.held.now }
