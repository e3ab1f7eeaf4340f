-- The type of an entry or of a list's items, that of an array's items, and the type that the TYPE word names have bits. Nothing is
-- kept. An open binary may be the type of an entry, and of nothing else. The rule is judged for a type from which no part is
-- reached that breaks a rule on parts.
use Rattle.std.specs.Prelude.{ℕ, List, [], ◌∷◌, ◌++◌, Bool, ◌&&◌, if◌then◌else◌, Option, Some, None}
use Rattle.eds_base.specs.declared.ids.Place.{Place}
use Rattle.eds_base.specs.declared.ids.TypeId.{TypeId}
use Rattle.eds_base.specs.declared.refusal.Refusal.{Refusal}
use Rattle.eds_base.specs.declared.rule.Rule.TheVariants.{EmptyType}
use Rattle.eds_tree.specs.declared.tree.Node.{Node}
use Rattle.eds_names.specs.LookUp.{Names}
use Rattle.eds_types.specs.Fields.{type_by}
use Rattle.eds_types.specs.Rows.{Table}
use Rattle.eds_read_types.specs.Breaks.{broken}
use Rattle.eds_type_rows.specs.Places.{word_place}
use Rattle.eds_type_rows.specs.ReadTypes.{word_type}
use Rattle.eds_type_rows.specs.TableRows.{table_rows}
use Rattle.eds_read_types.specs.Emptiness.{item_of, may_be_empty, is_empty_part}
use Rattle.eds_read_types.specs.Faults.{passes_type, is_judged}
use Rattle.eds_read_types.specs.Parts.{RowJudgement, PartJudgement, at_rows, at_parts}

-- the break of EmptyType at a place, where the type there may be empty
abbrev pub empty_where : Bool → Place → List Refusal
empty_where empty at = if empty then broken EmptyType at ∷ [] else []

module _ (judged : ℕ → Bool) where
  -- ---- at one part

  -- what breaks EmptyType at one part of a container, by its type, where the rule is judged for that
  abbrev pub empty_part_at : PartJudgement
  empty_part_at t p at = empty_where (passes_type judged (type_by (Some p.part)) && is_empty_part t p.part) at

  -- ---- at one array

  -- what breaks EmptyType at an array, by the type of its items, and nothing where there are no items
  abbrev pub empty_item_by : Table → Place → Option ℕ → List Refusal
  empty_item_by t at None = []
  empty_item_by t at (Some item) = empty_where (judged item && may_be_empty t item) at

  -- what breaks EmptyType at one type, where it is an array
  abbrev pub empty_item_at : RowJudgement
  empty_item_at trees t id at = empty_item_by t at (item_of t id)

  -- ---- at the TYPE word

  -- what breaks EmptyType at a place by the type that is named there, and nothing where none is
  abbrev pub empty_by : Table → Place → Option TypeId → List Refusal
  empty_by t at None = []
  empty_by t at (Some id) = empty_where (judged id.0 && may_be_empty t id.0) at

  -- what breaks EmptyType at the TYPE word, where there is one
  abbrev pub empty_word : List (List Node) → Names → (word : Option (List ℕ)) → List Refusal
  empty_word trees names word = empty_by (table_rows trees names) (word_place trees) (word_type trees names word)

  -- ---- at all of them

  -- what breaks EmptyType at the parts of all containers, at all arrays, and at the TYPE word
  abbrev pub empties : List (List Node) → Names → (word : Option (List ℕ)) → List Refusal
  empties trees names word = at_parts empty_part_at trees names ++ (at_rows empty_item_at trees names ++ empty_word trees names word)

-- what breaks EmptyType in a sheet, of the types for which it is judged
abbrev pub breaks_empty : List (List Node) → Names → (word : Option (List ℕ)) → List Refusal
breaks_empty trees names word = empties (is_judged trees names) trees names word
