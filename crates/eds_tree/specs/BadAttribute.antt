-- The text of an attribute has the form that the table asks for.
use Rattle.std.specs.Prelude.{ℕ, List, Option, Some, None}
use Rattle.eds_base.specs.declared.rule.Rule.TheVariants.{BadAttribute}
use Rattle.eds_tree.specs.ByteOrder.{first_in_order}
use Rattle.eds_tree.specs.Rows.{ElementShape}
use Rattle.eds_tree.specs.Trees.{attributes_at}
use Rattle.eds_tree.specs.Shapes.{shape_at}
use Rattle.eds_tree.specs.Attributes.{failing_in, has_bad_text}
use Rattle.eds_tree.specs.Breaks.{Judgement, refusal_if}

-- the first attribute in byte order whose text hasn't its form
abbrev pub bad_attribute : Option ElementShape → List (List ℕ × List ℕ) → Option (List ℕ)
bad_attribute None held = None
bad_attribute (Some shape) held = first_in_order (failing_in (has_bad_text held) shape)

-- the breaks of BadAttribute at an element, of which the attribute is kept
abbrev pub breaks_attribute : Judgement
breaks_attribute file t link = refusal_if BadAttribute file link.node (bad_attribute (shape_at t link) (attributes_at t link.node))
