-- Texts cut at separators.
use Rattle.std.proofs.Common.{◌≡◌, ℕ, zero, suc, ◌+◌, ◌-◌, ◌<◌, ◌≤◌, Bool, true, false, ◌&&◌, nat_lt, nat_eq, List, [], ◌∷◌, length, get_or, take, drop, Some, None, refl, sym, ap, ◌∙◌, arith}
use Rattle.std.specs.Prelude.{position}
use Rattle.std.specs.List.{list_all, position_or_len}
use Rattle.std.proofs.lemmas.Bool.Decides.{nat_tests}
use Rattle.std.proofs.lemmas.List.{take_rest}
use Rattle.std.proofs.lemmas.List.Quantifiers.{position-Some}
use Rattle.eds_tree.specs.AttributeTexts.{parts, is_name, are_names}

parts-cut : (sep : ℕ) (xs : List ℕ) (i : ℕ) → i < length xs → nat_eq (get_or xs i 0) sep ≡ true → ((k : ℕ) → k < i → nat_eq (get_or xs k 0) sep ≡ false) → parts sep xs ≡ take i xs ∷ parts sep (drop (i + 1) xs)
parts-cut sep [] i lt h none = absurd (omega arith)
parts-cut sep (c ∷ cs) zero lt h none = rw h refl
parts-cut sep (c ∷ cs) (suc i) lt h none =
    let first : nat_eq c sep ≡ false = none 0 (omega arith) in
    let rest = parts-cut sep cs i (omega arith) h (λ k below. none (suc k) (omega arith)) in
    let more : suc i + 1 ≡ suc (i + 1) = omega arith in
    rw (first, rest, more) refl

-- a text with a separator
pub parts-at : (sep : ℕ) (xs : List ℕ) (i : ℕ) → position (λ c. nat_eq c sep) xs ≡ Some i → parts sep xs ≡ take i xs ∷ parts sep (drop (i + 1) xs)
parts-at sep xs i e = let at = position-Some (λ c. nat_eq c sep) xs i 0 e in parts-cut sep xs i at.0 at.1 at.2

no-part : (sep : ℕ) (xs : List ℕ) → length xs ≤ position_or_len (λ c. nat_eq c sep) xs → parts sep xs ≡ xs ∷ []
no-part sep [] h = refl
no-part sep (c ∷ cs) h = go (nat_eq c sep) refl (no-part sep cs)
  where
    go : (b : Bool) → nat_eq c sep ≡ b → (length cs ≤ position_or_len (λ d. nat_eq d sep) cs → parts sep cs ≡ cs ∷ []) → parts sep (c ∷ cs) ≡ (c ∷ cs) ∷ []
    go true e more = let none : suc (length cs) ≤ 0 = rw e at h in absurd (omega arith)
    go false e more = let less : suc (length cs) ≤ 1 + position_or_len (λ d. nat_eq d sep) cs = rw e at h in rw (e, more (omega arith)) refl

past : (i n : ℕ) → nat_lt i n ≡ false → n ≤ i
past i n h = grind (arith, nat_tests)

-- a text without one
pub parts-whole : (sep : ℕ) (xs : List ℕ) → position (λ c. nat_eq c sep) xs ≡ None → parts sep xs ≡ xs ∷ []
parts-whole sep xs e = no-part sep xs (past (position_or_len (λ c. nat_eq c sep) xs) (length xs) (go (nat_lt (position_or_len (λ c. nat_eq c sep) xs) (length xs)) refl))
  where
    go : (b : Bool) → nat_lt (position_or_len (λ c. nat_eq c sep) xs) (length xs) ≡ b → b ≡ false
    go true h = let some : Some (position_or_len (λ c. nat_eq c sep) xs) ≡ None = rw h at e in absurd (cc)
    go false h = refl

and_true : (b : Bool) → (b && true) ≡ b
and_true true = refl
and_true false = refl

-- the last part
pub joined-last : (sep : ℕ) (xs : List ℕ) → position (λ c. nat_eq c sep) xs ≡ None → are_names sep xs ≡ is_name xs
joined-last sep xs e = ap (list_all is_name) (parts-whole sep xs e) ∙ and_true (is_name xs)

-- a part that is no name
pub joined-stop : (sep : ℕ) (xs : List ℕ) (i : ℕ) → position (λ c. nat_eq c sep) xs ≡ Some i → is_name (take i xs) ≡ false → are_names sep xs ≡ false
joined-stop sep xs i e h = ap (list_all is_name) (parts-at sep xs i e) ∙ rw h refl

-- a part that is one
pub joined-next : (sep : ℕ) (xs : List ℕ) (i : ℕ) → position (λ c. nat_eq c sep) xs ≡ Some i → is_name (take i xs) ≡ true → are_names sep (take (length xs - (i + 1)) (drop (i + 1) xs)) ≡ are_names sep xs
joined-next sep xs i e h = ap (are_names sep) (take_rest xs (i + 1)) ∙ sym (ap (list_all is_name) (parts-at sep xs i e) ∙ rw h refl)
