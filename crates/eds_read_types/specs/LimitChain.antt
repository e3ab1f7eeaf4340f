-- No chain of bases is longer than 16 types. The rule is judged where no type is reached that reaches itself or is its own base.
use Rattle.std.specs.Prelude.{ℕ, nat_le, List, [], ◌∷◌, length, codes, Bool, not, ◌&&◌, if◌then◌else◌}
use Rattle.eds_base.specs.declared.refusal.Refusal.{Refusal}
use Rattle.eds_base.specs.declared.rule.Rule.TheVariants.{Limit}
use Rattle.eds_tree.specs.declared.tree.Node.{Node}
use Rattle.eds_names.specs.LookUp.{Names}
use Rattle.eds_types.specs.Rows.{Table, chain_within}
use Rattle.eds_graph.specs.Ways.{is_endless}
use Rattle.eds_read_types.specs.Breaks.{broken_with}
use Rattle.eds_read_types.specs.Parts.{RowJudgement, at_rows}
use Rattle.eds_read_types.specs.Nesting.{course_of}

-- the type and its bases are more than 16 types
abbrev pub is_long : Table → ℕ → Bool
is_long t id = nat_le 17 (length (chain_within 17 t id))

-- at one type, by its number
abbrev pub chain_at : RowJudgement
chain_at trees t id at = if is_long t id && not (is_endless (course_of t id)) then broken_with Limit at (codes "chain") ∷ [] else []

-- at all types
abbrev pub breaks_chain : List (List Node) → Names → List Refusal
breaks_chain trees names = at_rows chain_at trees names
