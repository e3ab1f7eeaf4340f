-- Rules that are judged over the rows of a sheet: at each type, and at each part of its container.
use Rattle.std.specs.Prelude.{ℕ, List, [], ◌++◌, Option, Some, None, slice_get}
use Rattle.eds_base.specs.declared.ids.Place.{Place}
use Rattle.eds_base.specs.declared.refusal.Refusal.{Refusal}
use Rattle.eds_tree.specs.declared.tree.Node.{Node}
use Rattle.eds_names.specs.LookUp.{Names}
use Rattle.eds_types.specs.declared.row.Container.{Container}
use Rattle.eds_types.specs.declared.row.Part.{Part}
use Rattle.eds_types.specs.Rows.{Table, container_of, entries_in, trailers_in, Placed}
use Rattle.eds_type_rows.specs.Places.{type_places}
use Rattle.eds_read_types.specs.Breaks.{breaks_over}
use Rattle.eds_type_rows.specs.Entries.{own_parts_at}
use Rattle.eds_type_rows.specs.TableRows.{table_rows}

-- ---- at each type

-- what breaks a rule at the type of a number and a place
abbrev pub RowJudgement : Type 0
RowJudgement = List (List Node) → Table → ℕ → Place → List Refusal

-- at all types
abbrev pub at_rows : RowJudgement → List (List Node) → Names → List Refusal
at_rows judge trees names = breaks_over (judge trees (table_rows trees names)) 0 (type_places names)

-- ---- at each part

-- the parts of a container: its entries, and then its trailers
abbrev pub parts_in : Option Container → List Part
parts_in c = entries_in c ++ trailers_in c

-- what breaks a rule at a part of a container, whose element is at a place
abbrev pub PartJudgement : Type 0
PartJudgement = Table → Placed → Place → List Refusal

-- what breaks a rule at the part of a position in a container, and nothing where there is none
abbrev pub judged_part_by : PartJudgement → Table → (container i : ℕ) → Place → Option Part → List Refusal
judged_part_by judge t container i at None = []
judged_part_by judge t container i at (Some part) = judge t (record { container = container; place = i; part = part }) at

-- at the part of a position
abbrev pub judged_part : PartJudgement → Table → (container i : ℕ) → Place → List Refusal
judged_part judge t container i at = judged_part_by judge t container i at (slice_get (parts_in (container_of t container)) i)

-- at the parts of a type, if it is a container; their elements stand in the same order
abbrev pub judged_parts : PartJudgement → RowJudgement
judged_parts judge trees t id at = breaks_over (judged_part judge t id) 0 (own_parts_at trees at)

-- at the parts of all types
abbrev pub at_parts : PartJudgement → List (List Node) → Names → List Refusal
at_parts judge trees names = at_rows (judged_parts judge) trees names
