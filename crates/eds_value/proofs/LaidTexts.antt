-- The text of a container's object, put piece by piece.
use Rattle.std.proofs.Common.{◌≡◌, ℕ, suc, zero, ◌+◌, ◌<◌, List, [], ◌∷◌, ◌++◌, length, map, drop, get_or, sym, ap, refl, ◌∙◌, arith}
use Rattle.std.proofs.lemmas.List.{length-map}
use Rattle.serde_json.specs.Data.{Data, null}
use Rattle.serde_json.specs.Written.{compact_text}
use Rattle.eds_types.specs.Plain.{Plain, fields, plains_of}
use Rattle.eds_types.specs.Rows.{Table}
use Rattle.eds_value.specs.declared.layout.Layout.{Layout}
use Rattle.eds_value.specs.declared.layout.Piece.{Piece}
use Rattle.eds_value.specs.Entries.{entries_along}
use Rattle.eds_value.specs.JsonOfValue.{fields_data, json_of_value, json_text, type_name}
use Rattle.eds_value.specs.Layouts.{IsLayoutOf, laid_text, pieces_text}
use Rattle.eds_value.proofs.Pushed.{piece_first}
use Rattle.eds_value.proofs.WithValues.{all_listed}

-- the JSON of a value by its position
json_at : (t : Table) (vs : List Plain) (i : ℕ) (v : Plain) → i < length vs → v ≡ get_or vs i v → get_or (map (json_of_value t) vs) i null ≡ json_of_value t v
json_at t vs i v lt is = by vs i lt ∙ ap (json_of_value t) (sym is)
  where
    by : (vs : List Plain) (i : ℕ) → i < length vs → get_or (map (json_of_value t) vs) i null ≡ json_of_value t (get_or vs i v)
    by [] i lt = absurd (omega arith)
    by (w ∷ ws) zero lt = refl
    by (w ∷ ws) (suc i) lt = by ws i (omega arith)

-- one piece with the text of its value, before those that stand there already
pub piece_put : (t : Table) (vs : List Plain) (ps : List Piece) (i at : ℕ) (p : Piece) (v : Plain) (end old line first second : List ℕ) → i < length ps → at ≡ i + 1 → p ≡ get_or ps i p → p.position < length vs → v ≡ get_or vs p.position v
    → line ≡ (pieces_text (map (json_of_value t) vs) (drop at ps) ++ end) ++ old → first ≡ json_text t v ++ line → second ≡ p.text ++ first → second ≡ (pieces_text (map (json_of_value t) vs) (drop i ps) ++ end) ++ old
piece_put t vs ps i at p v end old line first second lt next is within at_position stands put named =
    piece_first (map (json_of_value t) vs) ps i at p (json_of_value t v) end old line first second lt next is (json_at t vs p.position v within at_position) stands put named

-- with the values of a container, one for each entry, its layout has the container's text
pub laid_is : (t : Table) (id : ℕ) (l : Layout) (vs : List Plain) → IsLayoutOf t id l → length vs ≡ l.count → laid_text (map (json_of_value t) vs) l ≡ json_text t (fields id (plains_of vs))
laid_is t id l vs is long =
    is.text (map (json_of_value t) vs) (length-map vs (json_of_value t) ∙ long)
    ∙ ap (λ (ds : List Data). compact_text (fields_data (type_name t id) (entries_along t id) ds)) (sym (all_listed t vs))
