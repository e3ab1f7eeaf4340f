-- Layouts: the texts between the values of a container's object.
use Rattle.std.specs.Prelude.{◌≡◌, ◌<◌, ℕ, List, [], ◌∷◌, ◌++◌, length, map, get_or, All, Contains, Option, Some, None, slice_get}
use Rattle.serde_json.specs.Data.{Data, null, string}
use Rattle.serde_json.specs.Written.{compact_text}
use Rattle.eds_types.specs.Rows.{Table}
use Rattle.eds_value.specs.declared.layout.Layout.{Layout}
use Rattle.eds_value.specs.declared.layout.Piece.{Piece}
use Rattle.eds_value.specs.Entries.{entries_along}
use Rattle.eds_value.specs.JsonOfValue.{fields_data, type_name}

-- the content at a name: the container's own name, or the value at a position
abbrev pub content_at : List ℕ → List Data → Option ℕ → Data
content_at name ds None = string name
content_at name ds (Some i) = get_or ds i null

-- the texts of some pieces, each with that of its value behind it
abbrev pub pieces_text : List Data → List Piece → List ℕ
pieces_text ds [] = []
pieces_text ds (p ∷ ps) = p.text ++ (compact_text (get_or ds p.position null) ++ pieces_text ds ps)

-- the text of a layout with these values
abbrev pub laid_text : List Data → Layout → List ℕ
laid_text ds l = pieces_text ds l.pieces.items ++ l.end

-- the value at the position is one of those that stand in the text
abbrev pub HasPosition : List Piece → ℕ → Type 0
HasPosition ps i = Contains (map (λ (p : Piece). p.position) ps) i

-- it is that of a container: with any values, one for each entry, it has the text of the container's object, in which each value
-- stands
pub record IsLayoutOf (t : Table) (id : ℕ) (l : Layout) : Type 0 where
  pub within : All (λ (p : Piece). p.position < l.count) l.pieces.items
  pub each : (i : ℕ) → i < l.count → HasPosition l.pieces.items i
  pub text : (ds : List Data) → length ds ≡ l.count → laid_text ds l ≡ compact_text (fields_data (type_name t id) (entries_along t id) ds)

-- each layout is that of the container whose number is its place
abbrev pub AreLayouts : Table → List (Option Layout) → Type 0
AreLayouts t each = (id : ℕ) (l : Layout) → slice_get each id ≡ Some (Some l) → IsLayoutOf t id l
