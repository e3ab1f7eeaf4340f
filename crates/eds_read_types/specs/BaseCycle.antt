-- No type is its own base.
use Rattle.std.specs.Prelude.{ℕ, List, [], ◌∷◌, if◌then◌else◌, Option}
use Rattle.eds_base.specs.declared.ids.Place.{Place}
use Rattle.eds_base.specs.declared.ids.TypeId.{TypeId}
use Rattle.eds_base.specs.declared.refusal.Refusal.{Refusal}
use Rattle.eds_base.specs.declared.rule.Rule.TheVariants.{BaseCycle}
use Rattle.eds_tree.specs.declared.tree.Node.{Node}
use Rattle.eds_names.specs.LookUp.{Names}
use Rattle.eds_type_rows.specs.Places.{type_places}
use Rattle.eds_read_types.specs.Breaks.{broken, breaks_over}
use Rattle.eds_type_rows.specs.Bases.{bases_of, is_in_cycle}

-- at one type, by its number
abbrev pub cycle_at : List (Option TypeId) → ℕ → Place → List Refusal
cycle_at bases id at = if is_in_cycle bases id then broken BaseCycle at ∷ [] else []

-- at all types
abbrev pub breaks_cycle : List (List Node) → Names → List Refusal
breaks_cycle trees names = breaks_over (cycle_at (bases_of trees names)) 0 (type_places names)
