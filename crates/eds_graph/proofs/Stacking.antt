-- A stack with its top first, and its items in memory with the top last.
use Rattle.std.proofs.Common.{◌≡◌, ℕ, zero, suc, ◌<◌, ◌+◌, ◌-◌, ◌++◌, length, set, drop, get_or, reverse, add-one, drop-cons, List, [], ◌∷◌, refl, sym, ap, ◌∙◌, arith}
use Rattle.std.proofs.lemmas.List.{reverse-append, length-reverse}
use Rattle.eds_graph.specs.Stacks.{pushed, with_top}

reverse-cons : {A : Type 0} (x : A) (xs : List A) → reverse (x ∷ xs) ≡ reverse xs ++ x ∷ []
reverse-cons x xs = reverse-append (x ∷ []) xs

pub reverse-last : {A : Type 0} (xs : List A) (x : A) → reverse (xs ++ x ∷ []) ≡ x ∷ reverse xs
reverse-last xs x = reverse-append xs (x ∷ [])

with-last : {A : Type 0} (y : A) (xs ys : List A) → 0 < length xs → with_top y (xs ++ ys) ≡ with_top y xs ++ ys
with-last y [] ys h = absurd (omega arith)
with-last y (x ∷ xs) ys h = refl

pub set-last : {A : Type 0} (xs : List A) (y : A) (k : ℕ) → k + 1 ≡ length xs → reverse (set xs k y) ≡ with_top y (reverse xs)
set-last {A = A} [] y k e = absurd (omega arith)
set-last {A = A} (x ∷ xs) y zero e = go xs (omega arith)
  where
    go : (ys : List A) → length ys ≡ 0 → reverse (y ∷ ys) ≡ with_top y (reverse (x ∷ ys))
    go [] h = refl
    go (z ∷ ys) h = absurd (omega arith)
set-last {A = A} (x ∷ xs) y (suc k) e = go xs (set-last xs y k (omega arith)) (omega arith)
  where
    go : (ys : List A) → reverse (set ys k y) ≡ with_top y (reverse ys) → k + 1 ≡ length ys → reverse (x ∷ set ys k y) ≡ with_top y (reverse (x ∷ ys))
    go ys h l =
        reverse-cons x (set ys k y) ∙ ap (λ zs. zs ++ x ∷ []) h ∙ sym (with-last y (reverse ys) (x ∷ []) (some ys l)) ∙ ap (with_top y) (sym (reverse-cons x ys))
      where
        some : (zs : List A) → k + 1 ≡ length zs → 0 < length (reverse zs)
        some zs m = let long : length (reverse zs) ≡ length zs = length-reverse zs in omega arith

-- one item more
pub pushed-next : {A : Type 0} (items : List A) (i : ℕ) (x : A) (before after whole : List A) → i < length items → x ≡ get_or items i x → after ≡ before ++ x ∷ []
    → pushed (drop i items) (reverse before) ≡ whole → pushed (drop (i + 1) items) (reverse after) ≡ whole
pushed-next items i x before after whole lt is e inv =
    let opened : drop i items ≡ x ∷ drop (i + 1) items = drop-cons items i x lt ∙ rw add-one (rw (← is) refl) in
    ap (λ ys. pushed (drop (i + 1) items) ys) (ap reverse e ∙ reverse-last before x) ∙ sym (ap (λ ys. pushed ys (reverse before)) opened) ∙ inv
