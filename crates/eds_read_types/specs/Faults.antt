-- What the rules on parts and constraints find at one container, and the types from which no such fault is reached.
use Rattle.std.specs.Prelude.{ℕ, zero, suc, List, [], ◌++◌, length, Bool, false, not, is_some, ◌&&◌, ◌||◌, nat_lt, Option, Some, None, slice_get}
use Rattle.std.specs.List.{list_any}
use Rattle.eds_base.specs.declared.ids.Place.{Place}
use Rattle.eds_base.specs.declared.refusal.Refusal.{Refusal}
use Rattle.eds_base.specs.Refusals.{least}
use Rattle.eds_tree.specs.declared.tree.Node.{Node}
use Rattle.eds_names.specs.LookUp.{Names}
use Rattle.eds_types.specs.declared.row.TypeRow.{TypeRow}
use Rattle.eds_types.specs.Rows.{Table, container_of}
use Rattle.eds_constraints.specs.Broken.{is_broken}
use Rattle.eds_graph.specs.Reaching.{mark}
use Rattle.eds_nesting.specs.Families.{types_in}
use Rattle.eds_type_rows.specs.Places.{type_places}
use Rattle.eds_read_types.specs.ConstraintElements.{asked_lists}
use Rattle.eds_type_rows.specs.TableRows.{table_rows}
use Rattle.eds_read_types.specs.Parts.{parts_in, judged_parts}
use Rattle.eds_read_types.specs.PartElements.{judged_elements}
use Rattle.eds_read_types.specs.DuplicateEntry.{duplicates_at}
use Rattle.eds_read_types.specs.ListField.{list_field_at}
use Rattle.eds_read_types.specs.LengthField.{length_field_at, scale_at, second_length_at}
use Rattle.eds_read_types.specs.FixedValue.{fixed_value_at}
use Rattle.eds_read_types.specs.ErrorControl.{error_control_at}
use Rattle.eds_read_types.specs.Emptiness.{is_empty_part}
use Rattle.eds_read_types.specs.Kin.{passes_near}

-- ---- faults

-- what breaks LengthField at the parts of one type
abbrev pub length_breaks : List (List Node) → Names → ℕ → Place → List Refusal
length_breaks trees names id at =
    judged_parts length_field_at trees (table_rows trees names) id at
    ++ (judged_elements scale_at trees names at ++ second_length_at trees (table_rows trees names) id at)

-- what breaks the rules on the texts and the checks of parts at those of one type
abbrev pub element_breaks : List (List Node) → Names → Place → List Refusal
element_breaks trees names at = judged_elements fixed_value_at trees names at ++ judged_elements error_control_at trees names at

-- what breaks the rules on parts at those of one type, EmptyType apart
abbrev pub part_breaks : List (List Node) → Names → ℕ → Place → List Refusal
part_breaks trees names id at =
    duplicates_at trees (table_rows trees names) id at
    ++ (judged_parts list_field_at trees (table_rows trees names) id at
    ++ (length_breaks trees names id at ++ element_breaks trees names at))

-- an entry or a list of a type names a type that may be empty
abbrev pub has_empty_part : Table → ℕ → Bool
has_empty_part t id = list_any (is_empty_part t) (parts_in (container_of t id))

-- a constraint of a type breaks one of the rules on constraints
abbrev pub is_constraint_broken : List (List Node) → Names → ℕ → Bool
is_constraint_broken trees names id = is_broken (table_rows trees names) (asked_lists trees names) id

-- a part or a constraint of the type at a place breaks one of these rules, or a part breaks EmptyType where that is judged for each
-- type
abbrev pub is_faulty_at : List (List Node) → Names → ℕ → Place → Bool
is_faulty_at trees names id at =
    is_some (least (part_breaks trees names id at)) || (is_constraint_broken trees names id || has_empty_part (table_rows trees names) id)

-- the same of the type at a place, if there is one
abbrev pub is_faulty_if : List (List Node) → Names → ℕ → Option Place → Bool
is_faulty_if trees names id None = false
is_faulty_if trees names id (Some at) = is_faulty_at trees names id at

-- the same of the type of a number
abbrev pub is_faulty : List (List Node) → Names → ℕ → Bool
is_faulty trees names id = is_faulty_if trees names id (slice_get (type_places names) id)

-- ---- what is reached

-- the types of the parts, or that of the items, of the type of a row
abbrev pub types_on : Option TypeRow → List ℕ
types_on None = []
types_on (Some row) = types_in row.kind

-- what types a type names so
abbrev pub types_at : Table → ℕ → List ℕ
types_at t id = types_on (slice_get t id)

-- a number passes a test, and there is such a type
abbrev pub passes_there : Table → (ℕ → Bool) → ℕ → Bool
passes_there t test id = nat_lt id (length t) && test id

-- A faulty type is reached over less than n others: the type itself, a base of it or one that derives from it is faulty, or
-- names a type from which one is reached.
unfoldable pub reaches_fault : ℕ → Table → (faulty : ℕ → Bool) → ℕ → Bool
reaches_fault zero t faulty id = false
reaches_fault (suc n) t faulty id = passes_near t (λ k. faulty k || list_any (passes_there t (reaches_fault n t faulty)) (types_at t k)) id

-- no faulty type is reached from a type; no more than 32 types are nested
abbrev pub is_judged : List (List Node) → Names → ℕ → Bool
is_judged trees names id = not (passes_there (table_rows trees names) (reaches_fault 32 (table_rows trees names) (is_faulty trees names)) id)

-- ---- tests of types

-- a type is not marked
abbrev pub is_unmarked : List Bool → ℕ → Bool
is_unmarked marks id = not (mark marks id)

-- a type passes a test, if there is one
abbrev pub passes_type : (ℕ → Bool) → Option ℕ → Bool
passes_type test None = false
passes_type test (Some id) = test id
