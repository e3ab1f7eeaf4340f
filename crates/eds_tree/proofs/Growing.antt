-- A tree that grows.
use Rattle.std.proofs.Common.{◌≡◌, ℕ, suc, ◌+◌, ◌-◌, ◌<◌, ◌≤◌, List, [], ◌∷◌, ◌++◌, length, map, set, get_or, drop, refl, sym, ap, ◌∙◌, append_assoc, arith, length-append, drop-cons, add-one}
use Rattle.std.proofs.lemmas.List.{set-append_right, map-append, length-map}
use Rattle.serde_json.specs.Data.{Data, null, boolean, number, string, array, object, Items, no_items, item}
use Rattle.serde_json.specs.View.{view, items_view}
use Rattle.serde_json.specs.declared.value.Value.{Value}
use Rattle.eds_tree.specs.declared.tree.Node.{Node}
use Rattle.eds_tree.specs.Shapes.{shape_named}
use Rattle.eds_tree.specs.Elements.{openings, openings_in, size, items_size, node_of, name_in, attributes_in, child_numbers}

-- a node put aside for its children is replaced, once they stand
pub set-grown : (parent : List ℕ) (old : List Node) (n : Node) (at : ℕ) (d : Items) (new : List Node) → at ≡ length old → new ≡ (old ++ n ∷ []) ++ map node_of (openings_in (name_in d) (at + 1) d)
    → set new at (node_of (record { parent = parent; number = at; items = d })) ≡ old ++ map node_of (openings parent at (array d))
set-grown parent old n at d new e h =
    let z : at - length old ≡ 0 = omega arith in
    let le : length old ≤ at = omega arith in
    let this : Node = node_of (record { parent = parent; number = at; items = d }) in
    let rest : List Node = map node_of (openings_in (name_in d) (at + 1) d) in
    ap (λ xs. set xs at this) (h ∙ append_assoc old (n ∷ []) rest)
    ∙ set-append_right old (n ∷ rest) (length old) at this refl le
    ∙ rw z refl

-- the same over what the calls on the way gave
pub array-grown : (parent : List ℕ) (old pushed new : List Node) (n : Node) (at : ℕ) (d : Items) (name one other : List ℕ) (attributes : List (List ℕ × List ℕ)) (children : List ℕ)
    → at ≡ length old → pushed ≡ old ++ n ∷ [] → new ≡ pushed ++ map node_of (openings_in other (length pushed) d) → name ≡ name_in d → one ≡ name → other ≡ name
    → attributes ≡ attributes_in (shape_named parent one) d → children ≡ child_numbers (length pushed) d
    → set new at (record { name = name; attributes = attributes; children = children }) ≡ old ++ map node_of (openings parent (length old) (array d))
array-grown parent old pushed new n at d name one other attributes children e p g h u v k l =
    let long : length pushed ≡ at + 1 = ap length p ∙ omega (arith, length-append old (n ∷ [])) in
    rw (k, l, long, u, h, ← e) (set-grown parent old n at d new e (g ∙ rw (v, h, long, p) refl))

mutual
  pub length-openings : (parent : List ℕ) (at : ℕ) (d : Data) → length (openings parent at d) ≡ size d
  length-openings parent at null = refl
  length-openings parent at (boolean b) = refl
  length-openings parent at (number n) = refl
  length-openings parent at (string s) = refl
  length-openings parent at (array ds) = ap suc (length-openings_in (name_in ds) (at + 1) ds)
  length-openings parent at (object ms) = refl

  pub length-openings_in : (parent : List ℕ) (at : ℕ) (ds : Items) → length (openings_in parent at ds) ≡ items_size ds
  length-openings_in parent at no_items = refl
  length-openings_in parent at (item d ds) = omega (arith, length-append (openings parent at d) (openings_in parent (at + size d) ds), length-openings parent at d, length-openings_in parent (at + size d) ds)

pub length_grown : (parent : List ℕ) (old new : List Node) (d : Data) → new ≡ old ++ map node_of (openings parent (length old) d) → length new ≡ length old + size d
length_grown parent old new d e =
    ap length e ∙ omega (arith, length-append old (map node_of (openings parent (length old) d)), length-map (openings parent (length old) d) node_of, length-openings parent (length old) d)

-- one more item
pub items-grown : (parent : List ℕ) (old new : List Node) (d : Data) (ds : Items) (whole : List Node) → new ≡ old ++ map node_of (openings parent (length old) d)
    → old ++ map node_of (openings_in parent (length old) (item d ds)) ≡ whole → new ++ map node_of (openings_in parent (length new) ds) ≡ whole
items-grown parent old new d ds whole e h =
    let long = length_grown parent old new d e in
    rw (long, e) (append_assoc old (map node_of (openings parent (length old) d)) (map node_of (openings_in parent (length old + size d) ds)) ∙ ap (λ xs. old ++ xs) (sym (map-append node_of (openings parent (length old) d) (openings_in parent (length old + size d) ds))) ∙ h)

pub items_view-drop : (vs : List Value) (i : ℕ) (v : Value) → i < length vs → v ≡ get_or vs i v → items_view (drop i vs) ≡ item (view v) (items_view (drop (i + 1) vs))
items_view-drop vs i v lt e = ap items_view (drop-cons vs i v lt) ∙ rw (add-one, ← e) refl
