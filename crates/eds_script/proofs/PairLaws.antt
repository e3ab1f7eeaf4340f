-- Two lists side by side, one pair after another.
use Rattle.std.proofs.Common.{◌≡◌, ℕ, zero, suc, ◌+◌, Some, None, List, [], ◌∷◌, ◌++◌, drop, slice_get, subst, refl, sym, ap, ◌∙◌, arith}
use Rattle.std.proofs.lemmas.List.{append_assoc}
use Rattle.eds_script.specs.Pairs.{AllPaired, texts_of}

-- ---- texts

module _ {A B : Type 0} (text : A → B → List ℕ) where
  -- nothing is left on the other side
  pub texts-none : (a : A) (as' : List A) (i : ℕ) (bs : List B) → slice_get bs i ≡ None → texts_of text (a ∷ as') (drop i bs) ≡ []
  texts-none a as' zero [] e = refl
  texts-none a as' zero (b ∷ bs) e = cc
  texts-none a as' (suc i) [] e = refl
  texts-none a as' (suc i) (b ∷ bs) e = texts-none a as' i bs e

  texts-some : (a : A) (as' : List A) (i : ℕ) (bs : List B) (b : B) → slice_get bs i ≡ Some b → texts_of text (a ∷ as') (drop i bs) ≡ text a b ++ texts_of text as' (drop (i + 1) bs)
  texts-some a as' zero [] b e = cc
  texts-some a as' zero (c ∷ bs) b e = let is : c ≡ b = cc in rw is refl
  texts-some a as' (suc i) [] b e = cc
  texts-some a as' (suc i) (c ∷ bs) b e = let next : suc i + 1 ≡ suc (i + 1) = omega arith in rw next (texts-some a as' i bs b e)

  -- the end of one side
  pub texts-end : (rest after : List A) (a : A) (i : ℕ) (bs : List B) (so_far whole : List ℕ) → rest ≡ a ∷ after → slice_get bs i ≡ None
      → so_far ++ texts_of text rest (drop i bs) ≡ whole → so_far ++ [] ≡ whole
  texts-end rest after a i bs so_far whole is e all =
      ap (λ xs. so_far ++ xs) (sym (ap (λ (xs : List A). texts_of text xs (drop i bs)) is ∙ texts-none a after i bs e)) ∙ all

  -- one text more
  pub texts-step : (rest after : List A) (a : A) (i j : ℕ) (bs : List B) (b : B) (so_far next line whole : List ℕ)
      → rest ≡ a ∷ after → slice_get bs i ≡ Some b → j ≡ i + 1 → line ≡ text a b → next ≡ so_far ++ line
      → so_far ++ texts_of text rest (drop i bs) ≡ whole → next ++ texts_of text after (drop j bs) ≡ whole
  texts-step rest after a i j bs b so_far next line whole is e more here added all =
      ap (λ xs. xs ++ texts_of text after (drop j bs)) (added ∙ ap (λ l. so_far ++ l) here)
      ∙ append_assoc so_far (text a b) (texts_of text after (drop j bs))
      ∙ ap (λ k. so_far ++ (text a b ++ texts_of text after (drop k bs))) more
      ∙ ap (λ xs. so_far ++ xs) (sym (ap (λ (xs : List A). texts_of text xs (drop i bs)) is ∙ texts-some a after i bs b e))
      ∙ all

-- ---- what holds of each pair

module _ {A B : Type 0} (Holds : A → B → Type 0) where
  -- of the next pair, and of those behind it
  paired-some : (a : A) (as' : List A) (i : ℕ) (bs : List B) (b : B) → slice_get bs i ≡ Some b → AllPaired Holds (a ∷ as') (drop i bs) → Holds a b × AllPaired Holds as' (drop (i + 1) bs)
  paired-some a as' zero [] b e h = absurd h
  paired-some a as' zero (c ∷ bs) b e h = let is : c ≡ b = cc in (subst (Holds a) is h.0, h.1)
  paired-some a as' (suc i) [] b e h = absurd h
  paired-some a as' (suc i) (c ∷ bs) b e h = let next : suc i + 1 ≡ suc (i + 1) = omega arith in rw next (paired-some a as' i bs b e h)

  pub paired-here : (rest after : List A) (a : A) (i : ℕ) (bs : List B) (b : B) → rest ≡ a ∷ after → slice_get bs i ≡ Some b → AllPaired Holds rest (drop i bs) → Holds a b
  paired-here rest after a i bs b is e h = (paired-some a after i bs b e (subst (λ (xs : List A). AllPaired Holds xs (drop i bs)) is h)).0

  pub paired-behind : (rest after : List A) (a : A) (i j : ℕ) (bs : List B) (b : B) → rest ≡ a ∷ after → slice_get bs i ≡ Some b → j ≡ i + 1 → AllPaired Holds rest (drop i bs) → AllPaired Holds after (drop j bs)
  paired-behind rest after a i j bs b is e more h =
      subst (λ k. AllPaired Holds after (drop k bs)) (sym more) (paired-some a after i bs b e (subst (λ (xs : List A). AllPaired Holds xs (drop i bs)) is h)).1
