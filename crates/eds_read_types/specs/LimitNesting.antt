-- At most 32 types are nested, counted with the type and on the longest way by items and by the types of the parts of a family's
-- containers. The rule is judged where no type is reached that reaches itself or is its own base.
use Rattle.std.specs.Prelude.{List, [], ◌∷◌, codes, nat_lt, Bool, false, if◌then◌else◌}
use Rattle.eds_base.specs.declared.refusal.Refusal.{Refusal}
use Rattle.eds_base.specs.declared.rule.Rule.TheVariants.{Limit}
use Rattle.eds_tree.specs.declared.tree.Node.{Node}
use Rattle.eds_names.specs.LookUp.{Names}
use Rattle.eds_graph.specs.declared.course.Course.{Course}
use Rattle.eds_graph.specs.declared.course.Course.TheVariants.{OnCircle, ToCircle, Ends}
use Rattle.eds_read_types.specs.Breaks.{broken_with}
use Rattle.eds_read_types.specs.Parts.{RowJudgement, at_rows}
use Rattle.eds_read_types.specs.Nesting.{course_of}

-- all ways end, and the longest has more than 32 types
abbrev pub is_too_deep : Course → Bool
is_too_deep OnCircle = false
is_too_deep ToCircle = false
is_too_deep (Ends n) = nat_lt 32 n

-- at one type, by its number
abbrev pub nesting_at : RowJudgement
nesting_at trees t id at = if is_too_deep (course_of t id) then broken_with Limit at (codes "nesting") ∷ [] else []

-- at all types
abbrev pub breaks_nesting : List (List Node) → Names → List Refusal
breaks_nesting trees names = at_rows nesting_at trees names
