-- Labels and values that differ.
use Rattle.std.proofs.Common.{◌≡◌, ℕ, ◌+◌, ◌<◌, Bool, true, false, ◌&&◌, ◌||◌, not, List, [], ◌∷◌, length, map, drop, get_or, refl, sym, ap, ◌∙◌}
use Rattle.std.specs.List.{list_any, list_all}
use Rattle.std.specs.Ordering.{int_eq}
use Rattle.std.proofs.lemmas.Bool.Decides.{Decides-int_eq}
use Rattle.eds_names.proofs.RepeatsLemmas.{opened}
use Rattle.eds_names.proofs.LookUpLemmas.{bytes_eq-sym}
use Rattle.eds_base.specs.Reading.{same}
use Rattle.eds_type_rows.specs.Listings.{all_differ}

-- none of some items is among those before them
abbrev pub are_apart : {A : Type 0} → (A → A → Bool) → List A → List A → Bool
are_apart test before xs = list_all (λ q. not (list_any (test q) before)) xs

abbrev pub IsSymmetric : {A : Type 0} → (A → A → Bool) → Type 0
IsSymmetric {A} test = (x y : A) → test x y ≡ test y x

apart-empty : {A : Type 0} (test : A → A → Bool) (xs : List A) → are_apart test [] xs ≡ true
apart-empty test [] = refl
apart-empty test (x ∷ xs) = apart-empty test xs

pub apart-nothing : {A : Type 0} (test : A → A → Bool) (before xs : List A) → before ≡ [] → are_apart test before xs ≡ true
apart-nothing test before xs e = ap (λ b. are_apart test b xs) e ∙ apart-empty test xs

-- the same with the items that were before written otherwise
apart-same : {A : Type 0} (test : A → A → Bool) (before others xs : List A) → ((q : A) → list_any (test q) before ≡ list_any (test q) others) → are_apart test before xs ≡ are_apart test others xs
apart-same test before others [] h = refl
apart-same test before others (x ∷ xs) h = rw (h x, apart-same test before others xs h) refl

-- items that are apart from one more are apart from the others, and the one is not among them
apart-more : {A : Type 0} (test : A → A → Bool) → IsSymmetric test → (x : A) (before xs : List A) → are_apart test (x ∷ before) xs ≡ (are_apart test before xs && not (list_any (test x) xs))
apart-more test symmetric x before [] = refl
apart-more test symmetric x before (y ∷ ys) =
    rw (symmetric y x, apart-more test symmetric x before ys) (swapped (test x y) (list_any (test y) before) (are_apart test before ys) (list_any (test x) ys))
  where
    swapped : (a b c d : Bool) → (not (a || b) && (c && not d)) ≡ ((not b && c) && not (a || d))
    swapped true true c d = refl
    swapped true false true d = refl
    swapped true false false d = refl
    swapped false true c d = refl
    swapped false false true d = refl
    swapped false false false d = refl

-- one item more is new
pub differ-next : {A B : Type 0} (test : A → A → Bool) → IsSymmetric test → (f : B → A) (xs : List B) (i : ℕ) (x d : B) (key : A) (before next : List A) (whole : Bool)
    → i < length xs → x ≡ get_or xs i d → key ≡ f x → true ≡ not (list_any (test key) before) → ((q : A) → list_any (test q) next ≡ list_any (test q) (key ∷ before))
    → (are_apart test before (map f (drop i xs)) && all_differ test (map f (drop i xs))) ≡ whole
    → (are_apart test next (map f (drop (i + 1) xs)) && all_differ test (map f (drop (i + 1) xs))) ≡ whole
differ-next test symmetric f xs i x d key before next whole lt is k fresh more all =
    let rest = map f (drop (i + 1) xs) in
    let split : ((not (list_any (test (f x)) before) && are_apart test before rest) && (not (list_any (test (f x)) rest) && all_differ test rest)) ≡ whole = rw (opened f xs i x d lt is) at all in
    rw (apart-same test next (key ∷ before) rest more, apart-more test symmetric key before rest) (moved (are_apart test before rest) (list_any (test key) rest) (all_differ test rest) ∙ ap (λ b. (b && are_apart test before rest) && (not (list_any (test key) rest) && all_differ test rest)) fresh ∙ rw k split)
  where
    moved : (a b c : Bool) → ((a && not b) && c) ≡ ((true && a) && (not b && c))
    moved true b c = refl
    moved false b c = refl

pub same-sym : IsSymmetric same
same-sym x y = bytes_eq-sym x y

pub int_eq-sym : IsSymmetric int_eq
int_eq-sym x y = go (int_eq x y) (int_eq y x) refl refl
  where
    go : (b c : Bool) → int_eq x y ≡ b → int_eq y x ≡ c → b ≡ c
    go true true e h = refl
    go true false e h = let is : x ≡ y = (Decides-int_eq x y).0 e in let back : int_eq y x ≡ true = (Decides-int_eq y x).1 (sym is) in sym back ∙ h
    go false true e h = let is : y ≡ x = (Decides-int_eq y x).0 h in let back : int_eq x y ≡ true = (Decides-int_eq x y).1 (sym is) in sym e ∙ back
    go false false e h = refl
