-- Where the values of a container stand among the pieces of its layout.
use Rattle.std.proofs.Common.{◌≡◌, ℕ, ◌+◌, ◌<◌, ◌≤◌, List, [], ◌∷◌, ◌++◌, length, map, drop, get_or, Option, Some, sym, ap, ◌∙◌, subst, arith, ◌⊎◌, inl, inr}
use Rattle.std.proofs.lemmas.Bool.{cases_lt}
use Rattle.std.specs.Prelude.{Contains}
use Rattle.std.proofs.lemmas.List.{drop_all, map-append}
use Rattle.std.proofs.lemmas.List.Elements.{Contains-append_cases, Contains-append_left, Contains-push, Contains-push_cases}
use Rattle.eds_value.specs.declared.layout.Piece.{Piece}
use Rattle.eds_value.specs.Layouts.{HasPosition}
use Rattle.eds_value.proofs.Pieces.{Slot}
use Rattle.eds_value.proofs.Steps.{drop_one}

abbrev position : Piece → ℕ
position = λ p. p.position

abbrev pub contents : List Slot → List (Option ℕ)
contents slots = map (λ (m : Slot). m.content) slots

-- one piece more
pub position_put : (ps new : List Piece) (p : Piece) (o : Option ℕ) (i : ℕ) → new ≡ ps ++ p ∷ [] → o ≡ Some p.position → HasPosition ps i ⊎ (o ≡ Some i) → HasPosition new i
position_put ps new p o i put is h = subst (λ xs. Contains xs i) (sym (ap (map position) put ∙ map-append position ps (p ∷ []))) (go h)
  where
    go : HasPosition ps i ⊎ (o ≡ Some i) → Contains (map position ps ++ p.position ∷ []) i
    go (inl h) = Contains-append_left (map position ps) (p.position ∷ []) i h
    go (inr e) = let same : p.position ≡ i = cc in subst (λ j. Contains (map position ps ++ p.position ∷ []) j) same (Contains-push (map position ps) p.position)

-- one member more
pub content_put : (slots new : List Slot) (m : Slot) (at i : ℕ) → new ≡ slots ++ m ∷ [] → m.content ≡ Some at → ((j : ℕ) → j < at → Contains (contents slots) (Some j)) → i < at + 1 → Contains (contents new) (Some i)
content_put slots new m at i put is before lt = subst (λ xs. Contains xs (Some i)) (sym (ap contents put ∙ map-append (λ (m : Slot). m.content) slots (m ∷ []))) (go (cases_lt i at))
  where
    go : (i < at) ⊎ (at ≤ i) → Contains (contents slots ++ m.content ∷ []) (Some i)
    go (inl h) = Contains-append_left (contents slots) (m.content ∷ []) (Some i) (before i h)
    go (inr h) = let same : at ≡ i = omega arith in subst (λ o. Contains (contents slots ++ m.content ∷ []) o) (is ∙ ap Some same) (Contains-push (contents slots) m.content)

-- the next member's value has a piece
pub next_has : (slots : List Slot) (ps new : List Piece) (k i : ℕ) (m : Slot) → k < length slots → m ≡ get_or slots k m → ((i : ℕ) → HasPosition ps i ⊎ (m.content ≡ Some i) → HasPosition new i)
    → HasPosition ps i ⊎ Contains (contents (drop k slots)) (Some i) → HasPosition new i ⊎ Contains (contents (drop (k + 1) slots)) (Some i)
next_has slots ps new k i m lt is puts (inl h) = inl (puts i (inl h))
next_has slots ps new k i m lt is puts (inr h) =
    elim (Contains-append_cases (m.content ∷ []) (contents (drop (k + 1) slots)) (Some i) (subst (λ ms. Contains (contents ms) (Some i)) (drop_one slots k m lt is) h)) [
      | inl here ↦ inl (puts i (inr (elim (Contains-push_cases [] m.content (Some i) here) [ inl nowhere ↦ absurd (none_there nowhere) | inr same ↦ same ])))
      | inr later ↦ inr later
    ]
  where
    none_there : Contains [] (Some i) → ⊥
    none_there h = let lt = h.1 in omega arith

-- at the end each has one
pub all_have : (slots : List Slot) (ps : List Piece) (k i : ℕ) → length slots ≤ k → HasPosition ps i ⊎ Contains (contents (drop k slots)) (Some i) → HasPosition ps i
all_have slots ps k i over (inl h) = h
all_have slots ps k i over (inr h) =
    let none = subst (λ ms. Contains (contents ms) (Some i)) (drop_all k slots over) h in
    let lt = none.1 in
    absurd (omega arith)
