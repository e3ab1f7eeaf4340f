-- Attributes that fail a test, and the first of them in byte order.
use Rattle.std.specs.Prelude.{ℕ, List, ◌++◌, map, filter, Bool, false, not, Option, Some, None, is_some}
use Rattle.eds_tree.specs.Rows.{AttributeRow, ElementShape}
use Rattle.eds_tree.specs.Trees.{text_among}
use Rattle.eds_tree.specs.AttributeTexts.{has_form, has_name_form}

-- the name of an attribute
abbrev pub attribute_name : AttributeRow → List ℕ
attribute_name row = row.name

-- there is an attribute of a name
abbrev pub has_attribute : List (List ℕ × List ℕ) → List ℕ → Bool
has_attribute held name = is_some (text_among held name)

-- the names of the rows that fail a test
abbrev pub failing : (AttributeRow → Bool) → List AttributeRow → List (List ℕ)
failing test rows = map attribute_name (filter test rows)

-- the names of an element's rows that fail a test
abbrev pub failing_in : (AttributeRow → Bool) → ElementShape → List (List ℕ)
failing_in test shape = failing test shape.required ++ failing test shape.optional

-- an attribute is missing
abbrev pub lacks_attribute : List (List ℕ × List ℕ) → AttributeRow → Bool
lacks_attribute held row = not (has_attribute held row.name)

-- a text that is there and hasn't the form of a row
abbrev pub is_malformed : AttributeRow → Option (List ℕ) → Bool
is_malformed row None = false
is_malformed row (Some text) = not (has_form row.form text)

-- an attribute is there, and its text hasn't the form that the table asks for
abbrev pub has_bad_text : List (List ℕ × List ℕ) → AttributeRow → Bool
has_bad_text held row = is_malformed row (text_among held row.name)

-- a text that is there and should be a name and is none
abbrev pub is_misnamed : AttributeRow → Option (List ℕ) → Bool
is_misnamed row None = false
is_misnamed row (Some text) = not (has_name_form row.form text)

-- an attribute is there that should be a name, and its text is none
abbrev pub has_bad_name : List (List ℕ × List ℕ) → AttributeRow → Bool
has_bad_name held row = is_misnamed row (text_among held row.name)
