-- What a sheet breaks of which two containers overlap.
use Rattle.std.specs.Prelude.{◌≡◌, ℕ, ◌-◌, List, [], ◌∷◌, ◌==◌, if◌then◌else◌, Option, Some, None, option_map, Result}
use Rattle.eds_base.specs.declared.ids.Place.{Place}
use Rattle.eds_base.specs.declared.ids.TypeId.{TypeId}
use Rattle.eds_base.specs.declared.refusal.Refusal.{Refusal}
use Rattle.eds_base.specs.Refusals.{least}
use Rattle.eds_tree.specs.ShapeCheck.{unless_broken}
use Rattle.eds_names.specs.Declarations.{is_sort}
use Rattle.eds_names.specs.LookUp.{Names}
use Rattle.eds_names.specs.declared.declared.Declared.{Declared}
use Rattle.eds_types.specs.Overlap.{IsClear}
use Rattle.eds_types.specs.Rows.{Table}
use Rattle.eds_types.specs.Sizes.{open_of}
use Rattle.eds_overlap.specs.declared.find.Overlap.{Overlap}
use Rattle.eds_overlap.specs.FirstOverlap.{first_overlap}
use Rattle.eds_overlap.specs.Notes.{refusal_of}
use Rattle.eds_overlap.specs.Pairs.{Named}
use Rattle.eds_read_types.specs.declared.table.SheetTypes.{SheetTypes}

-- the root of the first file
abbrev pub first_root : Place
first_root = record { file = 0; node = 0 }

-- the element of the type that has n types before it, among some declared items
abbrev pub place_among : List Declared → (n : ℕ) → Place
place_among [] n = first_root
place_among (d ∷ ds) n = if is_sort d.item then (if n == 0 then d.place else place_among ds (n - 1)) else place_among ds n

-- the element of a declared type; types are numbered in the order of files and elements
abbrev pub type_place : Names → ℕ → Place
type_place names id = place_among names.declared id

-- two containers that overlap are refused at the element of the later one
abbrev pub overlap_refused : Table → Names → Overlap → Refusal
overlap_refused table names o = refusal_of table o (type_place names o.second.0)

-- a refusal that may be there, as a list
abbrev pub broken_by : Option Refusal → List Refusal
broken_by None = []
broken_by (Some r) = r ∷ []

-- What the containers of a sheet break: of all that overlap under its used types, the two with the least later one, and of
-- these those with the least earlier one.
abbrev pub overlap_breaks : Names → SheetTypes → List Refusal
overlap_breaks names typed = broken_by (option_map (overlap_refused typed.table names) (first_overlap typed.table typed.used))

-- nothing, unless two containers overlap
abbrev pub overlap_verdict : Names → SheetTypes → Result (Unit {0}) Refusal
overlap_verdict names typed = unless_broken (least (overlap_breaks names typed))

-- no two containers overlap that are read through one of these types, open binaries excepted
abbrev pub AreClear : Table → List TypeId → Type 0
AreClear table used = (id : ℕ) → Named used id → open_of table id ≡ None → IsClear table id
