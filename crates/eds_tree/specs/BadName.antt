-- An attribute that should be a name is one.
use Rattle.std.specs.Prelude.{ℕ, List, Option, Some, None}
use Rattle.eds_base.specs.Reading.{◌>>=◌}
use Rattle.eds_base.specs.declared.rule.Rule.TheVariants.{BadName}
use Rattle.eds_tree.specs.ByteOrder.{first_in_order}
use Rattle.eds_tree.specs.Rows.{ElementShape}
use Rattle.eds_tree.specs.Trees.{attributes_at, text_among}
use Rattle.eds_tree.specs.Shapes.{shape_at}
use Rattle.eds_tree.specs.Attributes.{failing_in, has_bad_name}
use Rattle.eds_tree.specs.Breaks.{Judgement, refusal_if}

-- the text of the first attribute in byte order that should be a name and is none
abbrev pub bad_name : Option ElementShape → List (List ℕ × List ℕ) → Option (List ℕ)
bad_name None held = None
bad_name (Some shape) held = first_in_order (failing_in (has_bad_name held) shape) >>= λ name. text_among held name

-- the breaks of BadName at an element, of which the text is kept
abbrev pub breaks_name : Judgement
breaks_name file t link = refusal_if BadName file link.node (bad_name (shape_at t link) (attributes_at t link.node))
