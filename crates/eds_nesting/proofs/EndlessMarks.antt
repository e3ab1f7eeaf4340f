-- Marks of the families that hold one whose bases have no end.
use Rattle.std.proofs.Common.{◌≡◌, ℕ, ◌<◌, ◌≤◌, ◌==◌, ◌||◌, Bool, true, false, length, map, List, [], ◌∷◌, Option, Some, None, is_some, slice_get, refl, sym, ap, ◌∙◌, subst, arith, inl, inr}
use Rattle.std.specs.Prelude.{unwrap_or, Result, Ok, Err, IfOk}
use Rattle.std.specs.List.{list_any}
use Rattle.std.proofs.lemmas.Bool.{eqb-true}
use Rattle.std.proofs.lemmas.List.FromFn.{get_or-map-range_with_len, length-map-range_with_len}
use Rattle.std.proofs.lemmas.Option.{slice_get-get_or, slice_get_past, slice_get_within}
use Rattle.eds_types.specs.declared.row.TypeRow.{TypeRow}
use Rattle.eds_types.specs.Rows.{Table, base_in, base_of}
use Rattle.eds_graph.specs.Ways.{leads, is_met, reversed, is_reached, all_reached}
use Rattle.eds_graph.specs.Reaching.{mark}
use Rattle.eds_graph.proofs.Tests.{split}
use Rattle.eds_graph.proofs.Leading.{leads-past}
use Rattle.eds_graph.proofs.OtherWay.{met-backwards}
use Rattle.eds_nesting.specs.Families.{held_in, holding, endless}

pub map-same : {A B : Type 0} (f g : A → B) → ((x : A) → f x ≡ g x) → (xs : List A) → map f xs ≡ map g xs
map-same f g h [] = refl
map-same f g h (x ∷ xs) = rw (h x, map-same f g h xs) refl

-- what is no number leads to nothing
unmet : (g : List (List ℕ)) (a b : ℕ) → length g ≤ a → b < length g → is_met g a b ≡ false
unmet g a b past lt = go (a == b) refl
  where
    go : (c : Bool) → (a == b) ≡ c → (c || leads g a b) ≡ false
    go true e = let is = eqb-true a b e in absurd (omega arith)
    go false e = leads-past g a b past

mark-there : (g : List (List ℕ)) (from : List ℕ) (a : ℕ) → a < length g → mark (all_reached g from) a ≡ is_reached g from a
mark-there g from a lt =
    let long : length (all_reached g from) ≡ length g = length-map-range_with_len (is_reached g from) 0 (length g) in
    ap (λ o. unwrap_or o false) (slice_get-get_or (all_reached g from) a false (omega arith)) ∙ get_or-map-range_with_len (is_reached g from) 0 (length g) a a false (omega arith) (omega arith)

mark-past : (g : List (List ℕ)) (from : List ℕ) (a : ℕ) → length g ≤ a → mark (all_reached g from) a ≡ false
mark-past g from a past =
    let long : length (all_reached g from) ≡ length g = length-map-range_with_len (is_reached g from) 0 (length g) in
    ap (λ o. unwrap_or o false) (slice_get_past (all_reached g from) a (omega arith))

-- all these are numbers
abbrev AreWithin : ℕ → List ℕ → Type 0
AreWithin n [] = Unit {0}
AreWithin n (x ∷ xs) = (x < n) × AreWithin n xs

met-by : (g : List (List ℕ)) (a : ℕ) (from : List ℕ) → AreWithin (length g) from → list_any (λ b. is_met (reversed g) b a) from ≡ list_any (is_met g a) from
met-by g a [] h = refl
met-by g a (b ∷ from) h = rw (met-backwards g a b h.0, met-by g a from h.1) refl

unmet-all : (g : List (List ℕ)) (a : ℕ) (from : List ℕ) → length g ≤ a → AreWithin (length g) from → list_any (is_met g a) from ≡ false
unmet-all g a [] past h = refl
unmet-all g a (b ∷ from) past h = rw (unmet g a b past h.0, unmet-all g a from past h.1) refl

marks : (g : List (List ℕ)) (from : List ℕ) → AreWithin (length g) from → (a : ℕ) → mark (all_reached (reversed g) from) a ≡ list_any (is_met g a) from
marks g from h a = elim (split a (length g)) [
  | inl lt ↦ mark-there (reversed g) from a (omega (arith, long)) ∙ met-by g a from h
  | inr le ↦ mark-past (reversed g) from a (omega (arith, long)) ∙ sym (unmet-all g a from le h)
]
  where
    long : length (reversed g) ≡ length g
    long = length-map-range_with_len _ 0 (length g)

has_base-within : (t : Table) (name : ℕ) → is_some (base_of t name) ≡ true → name < length t
has_base-within t name e = go (slice_get t name) refl e
  where
    go : (o : Option TypeRow) → slice_get t name ≡ o → is_some (base_in o) ≡ true → name < length t
    go None q h = cc
    go (Some row) q h = slice_get_within t name row q

endless-within : (t : Table) (names : List ℕ) → AreWithin (length t) (endless t names)
endless-within t [] = tt
endless-within t (name ∷ names) = go (is_some (base_of t name)) refl (endless-within t names)
  where
    go : (b : Bool) → is_some (base_of t name) ≡ b → AreWithin (length t) (endless t names) → AreWithin (length t) (endless t (name ∷ names))
    go true e rest = rw e (has_base-within t name e, rest)
    go false e rest = rw e rest

pub endless-marks : (t : Table) (names : List ℕ) (a : ℕ) → mark (all_reached (reversed (holding t names)) (endless t names)) a ≡ list_any (is_met (holding t names) a) (endless t names)
endless-marks t names a =
    let long : length (holding t names) ≡ length t = length-map-range_with_len (held_in t names) 0 (length t) in
    marks (holding t names) (endless t names) (subst (λ n. AreWithin n (endless t names)) (sym long) (endless-within t names)) a

-- marks that are those of a list
pub marked-by : {A E : Type 0} (items : A → List Bool) (r : Result A E) (marks : List Bool) (f : ℕ → Bool) → IfOk r (λ v. items v ≡ marks) → ((a : ℕ) → mark marks a ≡ f a) → IfOk r (λ v. (a : ℕ) → mark (items v) a ≡ f a)
marked-by items (Ok v) marks f h k = λ a. ap (λ m. mark m a) h ∙ k a
marked-by items (Err e) marks f h k = tt
