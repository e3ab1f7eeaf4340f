-- Elements that the profile names and doesn't support.
use Rattle.std.specs.Prelude.{ℕ, ℤ, pos, ◌&&◌, ◌||◌, not, nat_eq, List, [], ◌∷◌, ◌++◌, map, codes, Bool, true, false, if◌then◌else◌, Option, Some, None, is_some}
use Rattle.std.specs.Ordering.{int_eq}
use Rattle.eds_base.specs.Reading.{same}
use Rattle.eds_base.specs.declared.rule.Rule.TheVariants.{Unsupported}
use Rattle.eds_tree.specs.declared.tree.Node.{Node}
use Rattle.eds_tree.specs.declared.link.Link.{Link}
use Rattle.eds_tree.specs.ByteOrder.{first_in_order}
use Rattle.eds_tree.specs.Trees.{name_at, attributes_at, text_among}
use Rattle.eds_tree.specs.Shapes.{is_among}
use Rattle.eds_base.specs.Numbers.{whole_number, is_decimal_fraction, flag_value}
use Rattle.eds_tree.specs.Attributes.{has_attribute}
use Rattle.eds_tree.specs.Breaks.{Judgement, refusal_if}

-- ---- by the element's name

-- an element that the profile leaves out, and a calibrator anywhere but in a length entry
abbrev pub is_named_unsupported : (parent name : List ℕ) → Bool
is_named_unsupported parent name =
    is_among (map codes ("FloatDataType" ∷ "FloatDataEncoding" ∷ "SplineCalibrator" ∷ "Calibration" ∷ "ParameterActivityMap" ∷ "ParameterActivityMapSet" ∷ "AlternateSet" ∷ "OverArray" ∷ "PrecisionRange" ∷ "EnumeratedRange" ∷ [])) name
    || (same name (codes "PolynomialCalibrator") && not (same parent (codes "LengthEntry")))

-- ---- by the text of an attribute

-- the numbers 0 and 1
abbrev pub is_zero_or_one : Option ℤ → Bool
is_zero_or_one None = false
is_zero_or_one (Some z) = int_eq z (pos 0) || int_eq z (pos 1)

-- an exponent other than 0 and 1
abbrev pub is_other_exponent : Option (List ℕ) → Bool
is_other_exponent None = false
is_other_exponent (Some text) = not (is_zero_or_one (whole_number text))

-- a text that is there and is a decimal fraction
abbrev pub is_fractional : Option (List ℕ) → Bool
is_fractional None = false
is_fractional (Some text) = is_decimal_fraction text

-- a word that isn't one of these
abbrev pub is_other_word : List (List ℕ) → Option (List ℕ) → Bool
is_other_word words None = false
is_other_word words (Some text) = not (is_among words text)

-- a term that isn't linear with whole coefficients, a kind of error control, or an operator, that the profile doesn't name
abbrev pub has_unsupported_text : (name : List ℕ) → List (List ℕ × List ℕ) → Bool
has_unsupported_text name held =
    if same name (codes "Term") then is_other_exponent (text_among held (codes "exponent")) || is_fractional (text_among held (codes "coefficient")) else
    if same name (codes "ErrorControlEntry") then is_other_word (map codes ("CHECKSUM" ∷ "CHECKSUM_LONGITUDINAL" ∷ "CRC8" ∷ "CRC16_CCITT" ∷ [])) (text_among held (codes "errorControlType")) else
    if same name (codes "Operator") then is_other_word (map codes ("add" ∷ "subtract" ∷ "multiply" ∷ [])) (text_among held (codes "operator")) else false

-- ---- by an attribute

-- the truth value that is wanted
abbrev pub is_flag : Bool → Option Bool → Bool
is_flag wanted None = false
is_flag true (Some b) = b
is_flag false (Some b) = not b

-- a text that is there and spells it
abbrev pub spells_flag : Bool → Option (List ℕ) → Bool
spells_flag wanted None = false
spells_flag wanted (Some text) = is_flag wanted (flag_value text)

-- the events, and transitions
abbrev pub may_fail : (name : List ℕ) → Bool
may_fail name = is_among (map codes ("OnCommandPrimitive" ∷ "OnParameterPrimitive" ∷ "OnTimer" ∷ "Transition" ∷ [])) name

-- an event or transition that waits for a failure
abbrev pub has_failed : (name : List ℕ) → List (List ℕ × List ℕ) → Bool
has_failed name held = may_fail name && spells_flag true (text_among held (codes "failed"))

-- a generic type that stands for one value
abbrev pub has_fixed_value : (name : List ℕ) → List (List ℕ × List ℕ) → Bool
has_fixed_value name held = same name (codes "GenericTypeMap") && has_attribute held (codes "fixedValue")

-- ---- the rule

-- a word, where a test holds
abbrev pub word_if : Bool → List ℕ → List (List ℕ)
word_if b word = if b then word ∷ [] else []

-- the element itself isn't supported
abbrev pub is_element_unsupported : (parent name : List ℕ) → List (List ℕ × List ℕ) → Bool
is_element_unsupported parent name held = is_named_unsupported parent name || has_unsupported_text name held

-- what isn't supported of an element: the element, or attributes of it
abbrev pub unsupported_words : (parent name : List ℕ) → List (List ℕ × List ℕ) → List (List ℕ)
unsupported_words parent name held =
    word_if (is_element_unsupported parent name held) name
    ++ (word_if (has_failed name held) (codes "failed")
    ++ word_if (has_fixed_value name held) (codes "fixedValue"))

-- the first in byte order of what isn't supported of an element below the root
abbrev pub unsupported_word : List Node → Link → Option (List ℕ)
unsupported_word t link = if nat_eq link.node 0 then None else first_in_order (unsupported_words (name_at t link.parent) (name_at t link.node) (attributes_at t link.node))

-- something of an element isn't supported
abbrev pub is_unsupported : List Node → Link → Bool
is_unsupported t link = is_some (unsupported_word t link)

-- the breaks of Unsupported at an element
abbrev pub breaks_unsupported : Judgement
breaks_unsupported file t link = refusal_if Unsupported file link.node (unsupported_word t link)
