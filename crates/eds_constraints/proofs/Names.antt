-- The names of a text, where it is cut at its first point.
use Rattle.std.proofs.Common.{◌≡◌, ℕ, suc, ◌+◌, ◌<◌, ◌≤◌, Bool, true, false, List, [], ◌∷◌, length, take, drop, refl, ap, arith, length-drop}
use Rattle.std.specs.List.{position_or_len, before_first, after_first}
use Rattle.eds_constraints.specs.Paths.{is_point, before_names, names_in}

take-one : (k c : ℕ) (text : List ℕ) → take (1 + k) (c ∷ text) ≡ c ∷ take k text
take-one k c text = let e : 1 + k ≡ suc k = omega arith in rw e refl

drop-one : (k c : ℕ) (text : List ℕ) → drop (1 + k + 1) (c ∷ text) ≡ drop (k + 1) text
drop-one k c text = let e : 1 + k + 1 ≡ suc (k + 1) = omega arith in rw e refl

pub names-cut : (text : List ℕ) → position_or_len is_point text < length text → names_in text ≡ before_first is_point text ∷ names_in (after_first is_point text)
names-cut [] lt = absurd (omega arith)
names-cut (c ∷ text) lt = go (is_point c) refl (names-cut text)
  where
    go : (b : Bool) → is_point c ≡ b → (position_or_len is_point text < length text → names_in text ≡ before_first is_point text ∷ names_in (after_first is_point text))
        → names_in (c ∷ text) ≡ before_first is_point (c ∷ text) ∷ names_in (after_first is_point (c ∷ text))
    go true e others = rw e refl
    go false e others = rw (e, take-one, drop-one) (ap (before_names c) (others (let here : 1 + position_or_len is_point text < length (c ∷ text) = rw e at lt in omega arith)))

pub names-whole : (text : List ℕ) → position_or_len is_point text ≡ length text → names_in text ≡ text ∷ []
names-whole [] is = refl
names-whole (c ∷ text) is = go (is_point c) refl (names-whole text)
  where
    go : (b : Bool) → is_point c ≡ b → (position_or_len is_point text ≡ length text → names_in text ≡ text ∷ []) → names_in (c ∷ text) ≡ (c ∷ text) ∷ []
    go true e others = absurd (let here : 0 ≡ length (c ∷ text) = rw e at is in omega arith)
    go false e others = rw e (ap (before_names c) (others (let here : 1 + position_or_len is_point text ≡ length (c ∷ text) = rw e at is in omega arith)))

pub after-shorter : (text : List ℕ) → position_or_len is_point text < length text → length (after_first is_point text) + 1 ≤ length text
after-shorter text lt = simp length-drop (omega arith)
