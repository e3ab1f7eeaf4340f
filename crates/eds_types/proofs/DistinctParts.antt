-- No two parts of a sequence stand at the same place of the same container.
use Rattle.std.proofs.Common.{◌≡◌, ℕ, ◌+◌, ◌<◌, ◌≤◌, List, [], ◌∷◌, ◌++◌, length, reverse, refl, sym, ap, ◌∙◌, append_assoc, arith}
use mathlib.Core.List.{reverse_aux}
use Rattle.std.specs.List.{AllByRecursion, flat_map}
use Rattle.std.proofs.lemmas.List.{length-append}
use Rattle.eds_types.specs.declared.row.Part.{Part}
use Rattle.eds_types.proofs.ChainLaws.{under_is}
use Rattle.eds_types.specs.Rows.{Table, chain, entries_of, trailers_of, Placed, placed_from, placed_entries, placed_trailers, sequence}
use Rattle.eds_types.proofs.Tables.{IsTable}
use Rattle.eds_types.proofs.AllOf.{All-weaker, All-both}

-- R holds of each element and each later one
abbrev pub Pairwise : {A : Type 0} → (A → A → Type 0) → List A → Type 0
Pairwise R [] = Unit {0}
Pairwise R (x ∷ xs) = AllByRecursion (R x) xs × Pairwise R xs

abbrev Across : {A : Type 0} → (A → A → Type 0) → List A → List A → Type 0
Across R xs ys = AllByRecursion (λ x. AllByRecursion (R x) ys) xs

both : {A : Type 0} (R : A → A → Type 0) (xs ys : List A) → Pairwise R xs → Pairwise R ys → Across R xs ys → Pairwise R (xs ++ ys)
both R [] ys h k c = k
both R (x ∷ xs) ys h k c = (All-both (R x) xs ys h.0 c.0, both R xs ys h.1 k c.1)

across : {A : Type 0} (R : A → A → Type 0) (P Q : A → Type 0) → ((x y : A) → P x → Q y → R x y) → (xs ys : List A) → AllByRecursion P xs → AllByRecursion Q ys → Across R xs ys
across R P Q g xs ys h k = All-weaker P (λ x. AllByRecursion (R x) ys) (λ x p. All-weaker Q (R x) (λ y q. g x y p q) ys k) xs h

-- ---- numbers

abbrev Unlike : ℕ → ℕ → Type 0
Unlike x y = x ≡ y → ⊥

put_on : (x : ℕ) (ys xs : List ℕ) → AllByRecursion (Unlike x) xs → Across Unlike xs ys → Across Unlike xs (x ∷ ys)
put_on x ys [] h c = tt
put_on x ys (z ∷ zs) h c = (((λ e. h.0 (sym e)), c.0), put_on x ys zs h.1 c.1)

turned_onto : (xs ys : List ℕ) → Pairwise Unlike xs → Pairwise Unlike ys → Across Unlike xs ys → Pairwise Unlike (reverse_aux xs ys)
turned_onto [] ys h k c = k
turned_onto (x ∷ xs) ys h k c = turned_onto xs (x ∷ ys) h.1 (c.0, k) (put_on x ys xs h.0 c.1)

nothing_across : (xs : List ℕ) → Across Unlike xs []
nothing_across [] = tt
nothing_across (x ∷ xs) = (tt, nothing_across xs)

turned : (xs : List ℕ) → Pairwise Unlike xs → Pairwise Unlike (reverse xs)
turned xs h = turned_onto xs [] h tt (nothing_across xs)

-- ---- parts

-- two parts, and not one
abbrev pub Apart : Placed → Placed → Type 0
Apart p q = (p.container ≡ q.container) × (p.place ≡ q.place) → ⊥

placed_after : (y i j : ℕ) → i < j → (ps : List Part) → AllByRecursion (λ (q : Placed). i < q.place) (placed_from y j ps)
placed_after y i j h [] = tt
placed_after y i j h (p ∷ ps) = (h, placed_after y i (j + 1) (omega arith) ps)

placed_apart : (y i : ℕ) (ps : List Part) → Pairwise Apart (placed_from y i ps)
placed_apart y i [] = tt
placed_apart y i (p ∷ ps) = (All-weaker (λ (q : Placed). i < q.place) (λ (q : Placed). (y ≡ q.container) × (i ≡ q.place) → ⊥) (λ q h e. let f = e.1 in omega arith) (placed_from y (i + 1) ps) (placed_after y i (i + 1) (omega arith) ps), placed_apart y (i + 1) ps)

pub placed_in : (y i : ℕ) (ps : List Part) → AllByRecursion (λ (q : Placed). q.container ≡ y) (placed_from y i ps)
placed_in y i [] = tt
placed_in y i (p ∷ ps) = (refl, placed_in y (i + 1) ps)

module _ (f : ℕ → List Placed) (inside : (y : ℕ) → AllByRecursion (λ (q : Placed). q.container ≡ y) (f y)) (own : (y : ℕ) → Pairwise Apart (f y)) where
  elsewhere : (y : ℕ) (ys : List ℕ) → AllByRecursion (Unlike y) ys → AllByRecursion (λ (q : Placed). y ≡ q.container → ⊥) (flat_map f ys)
  elsewhere y [] h = tt
  elsewhere y (z ∷ zs) h = All-both (λ (q : Placed). y ≡ q.container → ⊥) (f z) (flat_map f zs) (All-weaker (λ (q : Placed). q.container ≡ z) (λ (q : Placed). y ≡ q.container → ⊥) (λ q e k. h.0 (k ∙ e)) (f z) (inside z)) (elsewhere y zs h.1)

  each_apart : (ys : List ℕ) → Pairwise Unlike ys → Pairwise Apart (flat_map f ys)
  each_apart [] h = tt
  each_apart (y ∷ ys) h = both Apart (f y) (flat_map f ys) (own y) (each_apart ys h.1)
      (across Apart (λ (p : Placed). p.container ≡ y) (λ (q : Placed). y ≡ q.container → ⊥) (λ p q e k s. k (sym e ∙ s.0)) (f y) (flat_map f ys) (inside y) (elsewhere y ys h.0))

module _ (t : Table) where
  abbrev Among : Placed → Type 0
  Among p = p.place < length (entries_of t p.container)

  abbrev Past : Placed → Type 0
  Past p = length (entries_of t p.container) ≤ p.place

  entries_low : (y i : ℕ) (ps : List Part) → i + length ps ≤ length (entries_of t y) → AllByRecursion Among (placed_from y i ps)
  entries_low y i [] h = tt
  entries_low y i (p ∷ ps) h = (omega arith, entries_low y (i + 1) ps (omega arith))

  trailers_high : (y i : ℕ) (ps : List Part) → length (entries_of t y) ≤ i → AllByRecursion Past (placed_from y i ps)
  trailers_high y i [] h = tt
  trailers_high y i (p ∷ ps) h = (h, trailers_high y (i + 1) ps (omega arith))

  all_entries : (ys : List ℕ) → AllByRecursion Among (flat_map (placed_entries t) ys)
  all_entries [] = tt
  all_entries (y ∷ ys) = All-both Among (placed_entries t y) (flat_map (placed_entries t) ys) (entries_low y 0 (entries_of t y) (omega arith)) (all_entries ys)

  all_trailers : (ys : List ℕ) → AllByRecursion Past (flat_map (placed_trailers t) ys)
  all_trailers [] = tt
  all_trailers (y ∷ ys) = All-both Past (placed_trailers t y) (flat_map (placed_trailers t) ys) (trailers_high y (length (entries_of t y)) (trailers_of t y) (omega arith)) (all_trailers ys)

  in_two : (p q : Placed) → Among p → Past q → Apart p q
  in_two p q h k e = let l = ap (λ y. length (entries_of t y)) e.0 in let m = e.1 in omega arith

  module _ (is : IsTable t) where
    -- a container stands once in a chain
    not_again : (k w z : ℕ) (before between after : List ℕ) → chain t k ≡ before ++ w ∷ (between ++ z ∷ after) → w ≡ z → ⊥
    not_again k w z before between after e h =
        let one = (under_is t is w k before (between ++ z ∷ after) e).0 in
        let two = (under_is t is z k (before ++ w ∷ between) after (e ∙ sym (append_assoc before (w ∷ between) (z ∷ after)))).0 in
        omega (arith, ap (λ y. length (chain t y)) h, ap length one, ap length two, length-append before (w ∷ []), length-append (before ++ w ∷ between) (z ∷ []), length-append before (w ∷ between))

    none_again : (k w : ℕ) (before between after : List ℕ) → chain t k ≡ before ++ w ∷ (between ++ after) → AllByRecursion (Unlike w) after
    none_again k w before between [] e = tt
    none_again k w before between (z ∷ after) e = (not_again k w z before between after e, none_again k w before (between ++ z ∷ []) after (e ∙ ap (λ l. before ++ w ∷ l) (sym (append_assoc between (z ∷ []) after))))

    chain_unlike : (k : ℕ) (before ws : List ℕ) → chain t k ≡ before ++ ws → Pairwise Unlike ws
    chain_unlike k before [] e = tt
    chain_unlike k before (w ∷ ws) e = (none_again k w before [] ws e, chain_unlike k (before ++ w ∷ []) ws (e ∙ sym (append_assoc before (w ∷ []) ws)))

    pub sequence_apart : (k : ℕ) → Pairwise Apart (sequence t k)
    sequence_apart k =
        let once = chain_unlike k [] (chain t k) refl in
        both Apart (flat_map (placed_entries t) (chain t k)) (flat_map (placed_trailers t) (reverse (chain t k)))
        (each_apart (placed_entries t) (λ y. placed_in y 0 (entries_of t y)) (λ y. placed_apart y 0 (entries_of t y)) (chain t k) once)
        (each_apart (placed_trailers t) (λ y. placed_in y (length (entries_of t y)) (trailers_of t y)) (λ y. placed_apart y (length (entries_of t y)) (trailers_of t y)) (reverse (chain t k)) (turned (chain t k) once))
        (across Apart Among Past in_two (flat_map (placed_entries t) (chain t k)) (flat_map (placed_trailers t) (reverse (chain t k))) (all_entries (chain t k)) (all_trailers (reverse (chain t k))))
