-- No type reaches itself, or a type of its family, by items and by the types of the parts of a family's containers. The rule is
-- judged where no type that is its own base is reached.
use Rattle.std.specs.Prelude.{List, [], ◌∷◌, not, ◌&&◌, if◌then◌else◌}
use Rattle.eds_base.specs.declared.refusal.Refusal.{Refusal}
use Rattle.eds_base.specs.declared.rule.Rule.TheVariants.{TypeCycle}
use Rattle.eds_tree.specs.declared.tree.Node.{Node}
use Rattle.eds_names.specs.LookUp.{Names}
use Rattle.eds_graph.specs.Ways.{is_circular}
use Rattle.eds_read_types.specs.Breaks.{broken}
use Rattle.eds_read_types.specs.Parts.{RowJudgement, at_rows}
use Rattle.eds_read_types.specs.Nesting.{course_of, meets_base_cycle}

-- at one type, by its number
abbrev pub type_cycle_at : RowJudgement
type_cycle_at trees t id at = if is_circular (course_of t id) && not (meets_base_cycle t id) then broken TypeCycle at ∷ [] else []

-- at all types
abbrev pub breaks_type_cycle : List (List Node) → Names → List Refusal
breaks_type_cycle trees names = at_rows type_cycle_at trees names
