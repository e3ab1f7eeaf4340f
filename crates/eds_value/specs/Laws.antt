-- The JSON of a value is read as that value, and so are arguments.
use Rattle.std.specs.Prelude.{◌≡◌, ℕ, ◌==◌, List, [], ◌∷◌, map, codes, false, Ok}
use Rattle.std.specs.List.{AllByRecursion, list_any}
use Rattle.std.specs.Str.{IsUtf8}
use Rattle.eds_base.specs.declared.ids.TypeId.{TypeId}
use Rattle.eds_bits.specs.Bits.{Bits}
use Rattle.eds_types.specs.Plain.{Plain}
use Rattle.eds_types.specs.Rows.{Table}
use Rattle.eds_types.specs.Rules.{AreDistinct, KeepsRules}
use Rattle.eds_types.specs.Spelling.{Canon}
use Rattle.eds_value.specs.Entries.{Entry, arguments, entries_along}
use Rattle.eds_value.specs.ValueOfJson.{arguments_of_json, value_of_json}
use Rattle.eds_value.specs.Json.{value_in}
use Rattle.eds_value.specs.JsonOfValue.{arguments_data, json_of_value, json_text}

-- no entry has the name under which an object names its container. In a sheet none has, since names have no `$`
abbrev pub HasNoTypeEntry : Table → Type 0
HasNoTypeEntry t = (k : ℕ) → AllByRecursion (λ (e : Entry). e.name ≡ codes "$type" → ⊥) (entries_along t k)

-- the value is one of the type: it has a canonical spelling
abbrev pub IsOfType : Table → ℕ → Plain → Type 0
IsOfType t id v = (b : Bits) × Canon t id v b

-- the JSON of a value of a type is read, where that type is declared, as that value
abbrev pub ReadsBack : Type 0
ReadsBack = (t : Table) (id : ℕ) (v : Plain) → KeepsRules t → HasNoTypeEntry t → IsOfType t id v → value_of_json t id (json_of_value t v) ≡ Ok v

-- ---- arguments

-- each value is one of its argument's type
abbrev pub AreOfTypes : Table → List (List ℕ × TypeId) → List Plain → Type 0
AreOfTypes t [] [] = Unit {0}
AreOfTypes t [] (v ∷ vs) = ⊥
AreOfTypes t (f ∷ fs) [] = ⊥
AreOfTypes t (f ∷ fs) (v ∷ vs) = IsOfType t f.1.0 v × AreOfTypes t fs vs

-- arguments have different names
abbrev pub AreNamed : List (List ℕ × TypeId) → Type 0
AreNamed fs = AreDistinct (map (λ f. f.0) fs)

-- the JSON of values of the arguments' types is read, where these are declared, as those values
abbrev pub ArgumentsReadBack : Type 0
ArgumentsReadBack = (t : Table) (fs : List (List ℕ × TypeId)) (vs : List Plain) → KeepsRules t → HasNoTypeEntry t → AreNamed fs → AreOfTypes t fs vs
    → arguments_of_json t (arguments fs) (arguments_data t (arguments fs) vs) ≡ Ok vs

-- ---- texts

-- no line feed stands in a text
abbrev pub IsOneLine : List ℕ → Type 0
IsOneLine text = list_any (λ octet. octet == 10) text ≡ false

-- the text of a value of a type is one line
abbrev pub TextsAreOneLine : Type 0
TextsAreOneLine = (t : Table) (id : ℕ) (v : Plain) → KeepsRules t → IsOfType t id v → IsOneLine (json_text t v)

-- it is read, where that type is declared, as that value, if it is UTF-8: its texts and the names of the table are
abbrev pub TextsReadBack : Type 0
TextsReadBack = (t : Table) (id : ℕ) (v : Plain) → KeepsRules t → HasNoTypeEntry t → IsOfType t id v → IsUtf8 (json_text t v) → value_in t id (json_text t v) ≡ Ok v
