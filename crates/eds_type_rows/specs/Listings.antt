-- The labels and values of enumerated types.
use Rattle.std.specs.Prelude.{ℕ, ℤ, pos, int_le, List, [], ◌∷◌, map, codes, Bool, true, false, not, ◌&&◌, Option, Some, None}
use Rattle.std.specs.Option.{unwrap_or}
use Rattle.std.specs.Ordering.{int_eq}
use Rattle.std.specs.List.{list_any, list_all}
use Rattle.eds_base.specs.Reading.{same}
use Rattle.eds_bits.specs.declared.forms.IntForm.{IntForm}
use Rattle.eds_bits.specs.IntForms.{least, greatest}
use Rattle.eds_tree.specs.declared.tree.Node.{Node}
use Rattle.eds_tree.specs.Trees.{attribute_at}
use Rattle.eds_type_rows.specs.Held.{child_named, number_at, held}

-- ---- what a type lists

-- the label and the value of an enumeration
abbrev pub entry_at : List Node → ℕ → List ℕ × ℤ
entry_at t n = (unwrap_or (attribute_at t n (codes "label")) [], unwrap_or (number_at t n (codes "value")) (pos 0))

-- the enumerations that a list holds
abbrev pub enumerations : List Node → Option ℕ → List ℕ
enumerations t None = []
enumerations t (Some list) = held t list (codes "Enumeration")

-- the labels of an enumerated type with their values, in document order
abbrev pub listing_of : List Node → ℕ → List (List ℕ × ℤ)
listing_of t n = map (entry_at t) (enumerations t (child_named t n (codes "EnumerationList")))

-- ---- what may be listed

-- the label of an enumeration
abbrev pub label : List ℕ × ℤ → List ℕ
label e = e.0

-- the value of an enumeration
abbrev pub value : List ℕ × ℤ → ℤ
value e = e.1

-- there is nothing in a list
abbrev pub is_empty : {A : Type 0} → List A → Bool
is_empty [] = true
is_empty (x ∷ xs) = false

-- no two items are the same by a test
abbrev pub all_differ : {A : Type 0} → (A → A → Bool) → List A → Bool
all_differ test [] = true
all_differ test (x ∷ xs) = not (list_any (test x) xs) && all_differ test xs

-- the form has the number
abbrev pub has_number : IntForm → ℤ → Bool
has_number form n = int_le (least form) n && int_le n (greatest form)

-- the label is not empty, and the form has the value
abbrev pub is_entry : IntForm → List ℕ × ℤ → Bool
is_entry form e = not (is_empty (label e)) && has_number form (value e)

-- There is an enumeration, no label or value stands twice, no label is empty, and the form has all values.
abbrev pub is_listing : IntForm → List (List ℕ × ℤ) → Bool
is_listing form listing =
    not (is_empty listing) && (list_all (is_entry form) listing && (all_differ same (map label listing) && all_differ int_eq (map value listing)))
