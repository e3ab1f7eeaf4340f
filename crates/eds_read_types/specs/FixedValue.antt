-- The text of a fixed value stands for a value of its type, which is neither an array nor a container. Nothing is kept.
use Rattle.std.specs.Prelude.{List, codes, not, ◌&&◌, is_some}
use Rattle.eds_base.specs.declared.refusal.Refusal.{Refusal}
use Rattle.eds_base.specs.declared.rule.Rule.TheVariants.{FixedValue}
use Rattle.eds_tree.specs.declared.tree.Node.{Node}
use Rattle.eds_names.specs.LookUp.{Names}
use Rattle.eds_type_rows.specs.Places.{is_element}
use Rattle.eds_read_types.specs.Breaks.{broken_where}
use Rattle.eds_type_rows.specs.FixedValues.{fixed_value}
use Rattle.eds_type_rows.specs.PartRows.{entry_id}
use Rattle.eds_read_types.specs.PartElements.{ElementJudgement, at_part_elements}

-- at one part
abbrev pub fixed_value_at : ElementJudgement
fixed_value_at trees names at = broken_where (is_element trees (codes "FixedValueEntry") at && not (is_some (fixed_value trees names (entry_id trees names at).0 at))) FixedValue at

-- at the parts of all containers
abbrev pub breaks_fixed : List (List Node) → Names → List Refusal
breaks_fixed trees names = at_part_elements fixed_value_at trees names
