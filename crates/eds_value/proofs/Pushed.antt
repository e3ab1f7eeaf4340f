-- The text of values, put first one after another.
use Rattle.std.proofs.Common.{◌≡◌, ◌<◌, ◌≤◌, ◌+◌, ℕ, zero, suc, List, [], ◌∷◌, ◌++◌, Bool, true, length, map, drop, get_or, Vec, Global, refl, sym, ap, subst, ◌∙◌, arith, append_assoc, codes, false}
use Rattle.std.proofs.lemmas.List.{drop_all}
use Rattle.serde_json.specs.Data.{Data, array, null}
use Rattle.serde_json.specs.View.{items_of}
use Rattle.serde_json.specs.Written.{comma_if, compact_text, items_text}
use Rattle.eds_base.specs.declared.ids.TypeId.{TypeId}
use Rattle.eds_types.specs.declared.value.Value.{Value, Fields, Items}
use Rattle.eds_types.specs.Plain.{Plain, num, label, truth, text, bits, items, fields, Plains, none, more, plain, plains_of}
use Rattle.eds_types.specs.Rows.{Table}
use Rattle.eds_value.specs.declared.layout.Piece.{Piece}
use Rattle.eds_value.specs.Held.{AllHeld, AreHeld}
use Rattle.eds_value.specs.JsonOfValue.{json_of_value, json_text}
use Rattle.eds_value.specs.Layouts.{pieces_text}
use Rattle.eds_value.proofs.Plains.{plain-Fields, plain-Items}
use Rattle.eds_value.proofs.Steps.{drop_one}

-- ---- how many values there are in a value

abbrev mutual
  pub size : Plain → ℕ
  size (num n) = 1
  size (label l) = 1
  size (truth b) = 1
  size (text s) = 1
  size (bits n o) = 1
  size (items vs) = suc (sizes vs)
  size (fields k vs) = suc (sizes vs)

  pub sizes : Plains → ℕ
  sizes none = 0
  sizes (more v vs) = size v + sizes vs

pub size_at : (vs : List Value) (i : ℕ) (v : Value) → i < length vs → v ≡ get_or vs i v → size (plain v) ≤ sizes (plains_of (map plain vs))
size_at vs i v lt is = subst (λ (w : Value). size (plain w) ≤ sizes (plains_of (map plain vs))) (sym is) (by vs i lt)
  where
    by : (vs : List Value) (i : ℕ) → i < length vs → size (plain (get_or vs i v)) ≤ sizes (plains_of (map plain vs))
    by [] i lt = absurd (omega arith)
    by (w ∷ vs) zero lt = omega arith
    by (w ∷ vs) (suc i) lt = let later = by vs i (omega arith) in omega (arith, later)

-- ---- values

-- the values of a list, and those of fields
pub plain_items : (v : Value) (vs : Vec Value Global) (xs : List Value) → v ≡ Items vs → xs ≡ vs.items → plain v ≡ items (plains_of (map plain xs))
plain_items v vs xs is same = ap plain is ∙ plain-Items vs ∙ ap (λ (ys : List Value). items (plains_of (map plain ys))) (sym same)

pub plain_fields : (v : Value) (k : TypeId) (vs : Vec Value Global) (xs : List Value) → v ≡ Fields k vs → xs ≡ vs.items → plain v ≡ fields k.0 (plains_of (map plain xs))
plain_fields v k vs xs is same = ap plain is ∙ plain-Fields k vs ∙ ap (λ (ys : List Value). fields k.0 (plains_of (map plain ys))) (sym same)

-- the numbers of one of some values
pub held_at : (vs : List Value) (i : ℕ) (v : Value) → i < length vs → v ≡ get_or vs i v → AllHeld (plains_of (map plain vs)) → AreHeld (plain v)
held_at vs i v lt is h = subst (λ (w : Value). AreHeld (plain w)) (sym is) (by vs i lt h)
  where
    by : (vs : List Value) (i : ℕ) → i < length vs → AllHeld (plains_of (map plain vs)) → AreHeld (plain (get_or vs i v))
    by [] i lt h = absurd (omega arith)
    by (w ∷ vs) zero lt h = h.0
    by (w ∷ vs) (suc i) lt h = by vs i (omega arith) h.1

-- what is put first before what stands there already
put_first : (a b later old line first second whole : List ℕ) → whole ≡ (a ++ b) ++ later → line ≡ later ++ old → first ≡ b ++ line → second ≡ a ++ first → second ≡ whole ++ old
put_first a b later old line first second whole is stands put named = rw (named, put, stands, is) (simp append_assoc)

pub item_next : (t : Table) (later : Bool) (vs : List Value) (i : ℕ) (v : Value) → i < length vs → v ≡ get_or vs i v
    → items_text later (items_of (map (json_of_value t) (map plain (drop i vs)))) ≡ (comma_if later ++ compact_text (json_of_value t (plain v))) ++ items_text true (items_of (map (json_of_value t) (map plain (drop (i + 1) vs))))
item_next t later vs i v lt is =
    ap (λ (ws : List Value). items_text later (items_of (map (json_of_value t) (map plain ws)))) (drop_one vs i v lt is)
    ∙ sym (append_assoc (comma_if later) (compact_text (json_of_value t (plain v))) _)

pub items_over : (t : Table) (later : Bool) (vs : List Value) (i : ℕ) → length vs ≤ i → items_text later (items_of (map (json_of_value t) (map plain (drop i vs)))) ≡ 93 ∷ []
items_over t later vs i over = ap (λ (ws : List Value). items_text later (items_of (map (json_of_value t) (map plain ws)))) (drop_all i vs over)

-- no item yet, but the closing bracket
pub no_items : (t : Table) (later : Bool) (vs : List Value) (i : ℕ) (old new : List ℕ) → length vs ≤ i → new ≡ codes "]" ++ old → new ≡ items_text later (items_of (map (json_of_value t) (map plain (drop i vs)))) ++ old
no_items t later vs i old new over put = put ∙ ap (λ (s : List ℕ). s ++ old) (sym (items_over t later vs i over))

-- one item before those that stand there already
pub item_first : (t : Table) (later some : Bool) (vs : List Value) (i at : ℕ) (v : Value) (old line first second : List ℕ) → i < length vs → at ≡ i + 1 → some ≡ true → v ≡ get_or vs i v
    → line ≡ items_text some (items_of (map (json_of_value t) (map plain (drop at vs)))) ++ old → first ≡ json_text t (plain v) ++ line → second ≡ comma_if later ++ first
    → second ≡ items_text later (items_of (map (json_of_value t) (map plain (drop i vs)))) ++ old
item_first t later some vs i at v old line first second lt next is_some is stands put named =
    let text : (more : Bool) (from : ℕ) → List ℕ = λ more from. items_text more (items_of (map (json_of_value t) (map plain (drop from vs)))) in
    let behind : line ≡ text true (i + 1) ++ old = subst (λ (n : ℕ). line ≡ text true n ++ old) next (subst (λ (b : Bool). line ≡ text b at ++ old) is_some stands) in
    put_first (comma_if later) (json_text t (plain v)) (text true (i + 1)) old line first second (text later i) (item_next t later vs i v lt is) behind put named

-- all items, with the opening bracket
pub all_items : (t : Table) (some : Bool) (vs : List Value) (at : ℕ) (old line new : List ℕ) → at ≡ 0 → some ≡ false → line ≡ items_text some (items_of (map (json_of_value t) (map plain (drop at vs)))) ++ old → new ≡ codes "[" ++ line
    → new ≡ compact_text (array (items_of (map (json_of_value t) (map plain vs)))) ++ old
all_items t some vs at old line new begin is_none stands put =
    let text : (more : Bool) (from : ℕ) → List ℕ = λ more from. items_text more (items_of (map (json_of_value t) (map plain (drop from vs)))) in
    let all : line ≡ text false 0 ++ old = subst (λ (n : ℕ). line ≡ text false n ++ old) begin (subst (λ (b : Bool). line ≡ text b at ++ old) is_none stands) in
    put ∙ ap (λ (s : List ℕ). 91 ∷ s) all

-- the JSON of a value by its position
pub value_at : (t : Table) (vs : List Value) (i : ℕ) (v : Value) → i < length vs → v ≡ get_or vs i v → get_or (map (json_of_value t) (map plain vs)) i null ≡ json_of_value t (plain v)
value_at t vs i v lt is = by vs i lt ∙ ap (λ (w : Value). json_of_value t (plain w)) (sym is)
  where
    by : (vs : List Value) (i : ℕ) → i < length vs → get_or (map (json_of_value t) (map plain vs)) i null ≡ json_of_value t (plain (get_or vs i v))
    by [] i lt = absurd (omega arith)
    by (w ∷ vs) zero lt = refl
    by (w ∷ vs) (suc i) lt = by vs i (omega arith)

pub piece_next : (ds : List Data) (ps : List Piece) (i : ℕ) (p : Piece) (d : Data) (end : List ℕ) → i < length ps → p ≡ get_or ps i p → get_or ds p.position null ≡ d
    → pieces_text ds (drop i ps) ++ end ≡ (p.text ++ compact_text d) ++ (pieces_text ds (drop (i + 1) ps) ++ end)
piece_next ds ps i p d end lt is at =
    let rest = pieces_text ds (drop (i + 1) ps) in
    ap (λ (qs : List Piece). pieces_text ds qs ++ end) (drop_one ps i p lt is)
    ∙ append_assoc p.text _ end ∙ ap (λ (s : List ℕ). p.text ++ s) (append_assoc (compact_text (get_or ds p.position null)) rest end)
    ∙ ap (λ (x : Data). p.text ++ (compact_text x ++ (rest ++ end))) at ∙ sym (append_assoc p.text (compact_text d) (rest ++ end))

pub pieces_over : (ds : List Data) (ps : List Piece) (i : ℕ) (end : List ℕ) → length ps ≤ i → pieces_text ds (drop i ps) ++ end ≡ end
pieces_over ds ps i end over = ap (λ (qs : List Piece). pieces_text ds qs ++ end) (drop_all i ps over)

-- no piece yet, but the end
pub no_pieces : (ds : List Data) (ps : List Piece) (i : ℕ) (end old new : List ℕ) → length ps ≤ i → new ≡ end ++ old → new ≡ (pieces_text ds (drop i ps) ++ end) ++ old
no_pieces ds ps i end old new over put = put ∙ ap (λ (s : List ℕ). s ++ old) (sym (pieces_over ds ps i end over))

-- one piece before those that stand there already
pub piece_first : (ds : List Data) (ps : List Piece) (i at : ℕ) (p : Piece) (d : Data) (end old line first second : List ℕ) → i < length ps → at ≡ i + 1 → p ≡ get_or ps i p → get_or ds p.position null ≡ d
    → line ≡ (pieces_text ds (drop at ps) ++ end) ++ old → first ≡ compact_text d ++ line → second ≡ p.text ++ first → second ≡ (pieces_text ds (drop i ps) ++ end) ++ old
piece_first ds ps i at p d end old line first second lt next is at_position stands put named =
    let text : (from : ℕ) → List ℕ = λ from. pieces_text ds (drop from ps) ++ end in
    put_first p.text (compact_text d) (text (i + 1)) old line first second (text i) (piece_next ds ps i p d end lt is at_position) (subst (λ (n : ℕ). line ≡ text n ++ old) next stands) put named

-- all pieces
pub all_pieces : (ds : List Data) (ps qs : List Piece) (at : ℕ) (end old line : List ℕ) → at ≡ 0 → ps ≡ qs → line ≡ (pieces_text ds (drop at ps) ++ end) ++ old → line ≡ (pieces_text ds qs ++ end) ++ old
all_pieces ds ps qs at end old line begin same stands =
    subst (λ (xs : List Piece). line ≡ (pieces_text ds xs ++ end) ++ old) same (subst (λ (n : ℕ). line ≡ (pieces_text ds (drop n ps) ++ end) ++ old) begin stands)
