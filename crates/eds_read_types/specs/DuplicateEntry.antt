-- No entry of a container has the name of one before it, or of a part of the container's bases.
use Rattle.std.specs.Prelude.{ℕ, zero, suc, List, [], ◌∷◌, ◌++◌, if◌then◌else◌, Option, Some, None}
use Rattle.std.specs.List.{filter_map}
use Rattle.eds_base.specs.declared.ids.Place.{Place}
use Rattle.eds_base.specs.declared.refusal.Refusal.{Refusal}
use Rattle.eds_base.specs.declared.rule.Rule.TheVariants.{DuplicateEntry}
use Rattle.eds_tree.specs.declared.tree.Node.{Node}
use Rattle.eds_names.specs.Repeats.{is_among}
use Rattle.eds_names.specs.LookUp.{Names}
use Rattle.eds_types.specs.declared.row.Container.{Container}
use Rattle.eds_types.specs.Rows.{Table, container_of, base_of}
use Rattle.eds_types.specs.Rules.{name_of}
use Rattle.eds_type_rows.specs.Places.{own_name, is_container}
use Rattle.eds_read_types.specs.Breaks.{broken_with}
use Rattle.eds_read_types.specs.Parts.{RowJudgement, at_rows, parts_in}
use Rattle.eds_type_rows.specs.Entries.{parts_at, named_among}

-- an entry's name is none of those before it
abbrev pub repeat_of : List (List ℕ) → Place → List ℕ → List Refusal
repeat_of before at name = if is_among before name then broken_with DuplicateEntry at name ∷ [] else []

-- each entry whose name an earlier one has, or is among some names before them
abbrev pub repeats : List (List Node) → List (List ℕ) → List Place → List Refusal
repeats trees before [] = []
repeats trees before (at ∷ ats) = repeat_of before at (own_name trees at) ++ repeats trees (own_name trees at ∷ before) ats

-- the names of the parts of a container
abbrev pub names_in : Option Container → List (List ℕ)
names_in c = filter_map name_of (parts_in c)

-- those of the parts of a type's bases, of which the first is given, and no more than n are
abbrev pub names_above : ℕ → Table → Option ℕ → List (List ℕ)
names_above zero t base = []
names_above (suc n) t None = []
names_above (suc n) t (Some base) = names_in (container_of t base) ++ names_above n t (base_of t base)

-- at the parts of a type, in document order: no chain has more than 16 types
abbrev pub duplicates_at : RowJudgement
duplicates_at trees t id at = if is_container trees at then repeats trees (names_above 16 t (base_of t id)) (named_among trees (parts_at trees at)) else []

-- at those of all types
abbrev pub breaks_duplicate : List (List Node) → Names → List Refusal
breaks_duplicate trees names = at_rows duplicates_at trees names
