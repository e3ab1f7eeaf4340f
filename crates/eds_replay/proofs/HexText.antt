-- Hex in the lines of frames.
use Rattle.std.proofs.Common.{◌≡◌, ℕ, zero, suc, ◌-◌, ◌/◌, ◌%◌, ◌<◌, ◌≤◌, ◌==◌, Bool, true, false, ◌||◌, List, [], ◌∷◌, ◌++◌, length, get_or, take, drop, take_all, length-drop, append_assoc, slice_index, refl, sym, ap, subst, ◌∙◌, arith}
use Rattle.std.proofs.lemmas.List.{get_or-take}
use Rattle.std.proofs.lemmas.List.Folds.{list_any-append, list_any_at}
use Rattle.std.specs.List.{list_any}
use Rattle.hex.specs.Hex.{encode_lower, encode_with, lower_digits}
use Rattle.eds_replay.specs.HexText.{HasNoSpace}

-- ---- spaces

or_true : (b : Bool) → (b || true) ≡ true
or_true true = refl
or_true false = refl

or_none : (a b : Bool) → (a || b) ≡ false → (a ≡ false) × (b ≡ false)
or_none true b e = cc
or_none false b e = (refl, e)

space-inside : (head hex : List ℕ) → HasNoSpace (head ++ 32 ∷ hex) → ⊥
space-inside head hex bare =
    let wrong : false ≡ true = sym bare ∙ list_any-append (λ (c : ℕ). c == 32) head (32 ∷ hex) ∙ or_true (list_any (λ (c : ℕ). c == 32) head) in
    cc

space-at : (xs : List ℕ) (i : ℕ) → i < length xs → get_or xs i 0 ≡ 32 → HasNoSpace xs → ⊥
space-at xs i lt is bare =
    let wrong : false ≡ true = sym bare ∙ list_any_at (λ (c : ℕ). c == 32) xs i 0 lt (rw is refl) in
    cc

-- a space with none behind it parts a text from one without a space
parts : (line : List ℕ) (n : ℕ) → n < length line → get_or line n 0 ≡ 32 → HasNoSpace (drop (suc n) line) → (head hex : List ℕ) → HasNoSpace hex → line ≡ head ++ 32 ∷ hex → (take n line ≡ head) × (drop (suc n) line ≡ hex)
parts [] n lt is bare head hex without e = absurd (omega arith)
parts (x ∷ xs) zero lt is bare [] hex without e = (refl, let same : xs ≡ hex = cc in same)
parts (x ∷ xs) zero lt is bare (h ∷ head) hex without e = let same : xs ≡ head ++ 32 ∷ hex = cc in absurd (space-inside head hex (subst HasNoSpace same bare))
parts (x ∷ xs) (suc n) lt is bare [] hex without e = let same : xs ≡ hex = cc in absurd (space-at xs n (omega arith) is (subst HasNoSpace (sym same) without))
parts (x ∷ xs) (suc n) lt is bare (h ∷ head) hex without e =
    let same : xs ≡ head ++ 32 ∷ hex = cc in
    let first : x ≡ h = cc in
    let rest = parts xs n (omega arith) is bare head hex without same in
    (ap (λ ys. x ∷ ys) rest.0 ∙ ap (λ y. y ∷ head) first, rest.1)

take-front : (xs : List ℕ) (n k : ℕ) → n ≤ k → take n (take k xs) ≡ take n xs
take-front xs zero k le = refl
take-front [] (suc n) zero le = refl
take-front [] (suc n) (suc k) le = refl
take-front (x ∷ xs) (suc n) zero le = absurd (omega arith)
take-front (x ∷ xs) (suc n) (suc k) le = ap (λ ys. x ∷ ys) (take-front xs n k (omega arith))

pub parted-there : (line rest head hex : List ℕ) (n k : ℕ) → rest ≡ take (length rest) line → length rest ≤ length line → HasNoSpace (drop (length rest) line)
    → 1 ≤ length rest → n ≡ length rest - 1 → get_or rest n 0 ≡ 32 → k ≡ length line - length rest → HasNoSpace hex → line ≡ (head ++ 32 ∷ []) ++ hex
    → (take n rest ≡ head) × (take k (drop (length rest) line) ≡ hex)
parted-there line rest head hex n k front within bare some count is behind without whole =
    let next : suc n ≡ length rest = omega (arith, some, count) in
    let here : get_or line n 0 ≡ 32 = sym (get_or-take (length rest) line n 0 (omega arith)) ∙ ap (λ (xs : List ℕ). get_or xs n 0) (sym front) ∙ is in
    let both = parts line n (omega arith) here (rw next bare) head hex without (whole ∙ append_assoc head (32 ∷ []) hex) in
    (ap (take n) front ∙ take-front line n (length rest) (omega arith) ∙ both.0, take_all k (drop (length rest) line) (let l = length-drop (length rest) line in omega arith) ∙ (rw next at both.1))

-- ---- hex

digit-apart : (t : List ℕ) (i : ℕ) → HasNoSpace t → (slice_index t i == 32) ≡ false
digit-apart [] zero bare = refl
digit-apart [] (suc i) bare = refl
digit-apart (x ∷ xs) zero bare = (or_none (x == 32) _ bare).0
digit-apart (x ∷ xs) (suc i) bare = digit-apart xs i (or_none (x == 32) _ bare).1

apart-with : (t octets : List ℕ) → HasNoSpace t → HasNoSpace (encode_with t octets)
unfolding encode_with
apart-with t [] bare = refl
apart-with t (o ∷ octets) bare = rw (digit-apart t (o / 16) bare, digit-apart t (o % 16) bare) (apart-with t octets bare)

pub no-space : (octets : List ℕ) → HasNoSpace (encode_lower octets)
no-space octets = apart-with lower_digits octets refl
