-- No family has more than 512 containers. The rule is judged where no type is reached that reaches itself or is its own base.
use Rattle.std.specs.Prelude.{ℕ, nat_lt, List, [], ◌∷◌, codes, not, ◌&&◌, if◌then◌else◌, slice_get, unwrap_or}
use Rattle.eds_base.specs.declared.refusal.Refusal.{Refusal}
use Rattle.eds_base.specs.declared.rule.Rule.TheVariants.{Limit}
use Rattle.eds_tree.specs.declared.tree.Node.{Node}
use Rattle.eds_names.specs.LookUp.{Names}
use Rattle.eds_types.specs.Rows.{Table}
use Rattle.eds_graph.specs.Ways.{is_endless}
use Rattle.eds_nesting.specs.Families.{families, family_sizes}
use Rattle.eds_read_types.specs.Breaks.{broken_with}
use Rattle.eds_read_types.specs.Parts.{RowJudgement, at_rows}
use Rattle.eds_read_types.specs.Nesting.{course_of}

-- how many containers the family of a type has
abbrev pub family_size : Table → ℕ → ℕ
family_size t id = unwrap_or (slice_get (family_sizes t (families t)) id) 0

-- at one type, by its number
abbrev pub family_at : RowJudgement
family_at trees t id at = if nat_lt 512 (family_size t id) && not (is_endless (course_of t id)) then broken_with Limit at (codes "family") ∷ [] else []

-- at all types
abbrev pub breaks_family : List (List Node) → Names → List Refusal
breaks_family trees names = at_rows family_at trees names
