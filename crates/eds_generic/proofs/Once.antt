-- Putting pairs last, each once.
use Rattle.std.proofs.Common.{◌≡◌, Bool, true, false, ◌||◌, List, [], ◌∷◌, ◌++◌, refl, sym, ap, ◌∙◌}
use Rattle.std.specs.List.{list_all}
use Rattle.std.proofs.lemmas.List.Folds.{list_any-append}
use Rattle.eds_generic.specs.declared.pair.Pair.{Pair}
use Rattle.eds_generic.specs.Pairs.{same_pair, is_among, put, put_all}
pub use Rattle.eds_generic.specs.Sameness.{or-left, or-right, and-both, and-left, and-right}

-- a test that implies another one, over a list
pub all-implied : {A : Type 0} (f g : A → Bool) → ((x : A) → f x ≡ true → g x ≡ true) → (xs : List A) → list_all f xs ≡ true → list_all g xs ≡ true
all-implied f g h [] e = refl
all-implied f g h (x ∷ xs) e = and-both (g x) (list_all g xs) (h x (and-left (f x) (list_all f xs) e)) (all-implied f g h xs (and-right (f x) (list_all f xs) e))

pub among-more : (found : List Pair) (xs : List Pair) (q : Pair) → is_among found q ≡ true → is_among (found ++ xs) q ≡ true
among-more found xs q e = list_any-append (same_pair q) found xs ∙ or-left (is_among found q) (is_among xs q) e

-- ---- one

pub put-there : (found : List Pair) (p : Pair) → is_among found p ≡ true → put found p ≡ found
put-there found p e = rw e refl

pub put-new : (found : List Pair) (p : Pair) → is_among found p ≡ false → put found p ≡ found ++ p ∷ []
put-new found p e = rw e refl

pub put-keeps : (found : List Pair) (p q : Pair) → is_among found q ≡ true → is_among (put found p) q ≡ true
put-keeps found p q e = go (is_among found p) refl
  where
    go : (b : Bool) → is_among found p ≡ b → is_among (put found p) q ≡ true
    go true k = rw (put-there found p k) e
    go false k = rw (put-new found p k) (among-more found (p ∷ []) q e)

-- what is among them afterwards was there, or is the same
pub put-either : (found : List Pair) (p q : Pair) → is_among (put found p) q ≡ true → is_among found q ≡ false → same_pair q p ≡ true
put-either found p q e n = go (is_among found p) refl
  where
    last : (a b : Bool) → a ≡ false → (a || (b || false)) ≡ true → b ≡ true
    last true b k h = cc
    last false true k h = refl
    last false false k h = h

    go : (b : Bool) → is_among found p ≡ b → same_pair q p ≡ true
    go true k = let there : is_among found q ≡ true = sym (ap (λ xs. is_among xs q) (put-there found p k)) ∙ e in cc
    go false k = last (is_among found q) (same_pair q p) n (sym (list_any-append (same_pair q) found (p ∷ [])) ∙ sym (ap (λ xs. is_among xs q) (put-new found p k)) ∙ e)

pub put-has : (found : List Pair) (p : Pair) → same_pair p p ≡ true → is_among (put found p) p ≡ true
put-has found p s = go (is_among found p) refl
  where
    go : (b : Bool) → is_among found p ≡ b → is_among (put found p) p ≡ true
    go true k = rw (put-there found p k) k
    go false k = rw (put-new found p k) (list_any-append (same_pair p) found (p ∷ []) ∙ or-right (is_among found p) (same_pair p p || false) (or-left (same_pair p p) false s))

-- ---- some

pub put_all-append : (found xs ys : List Pair) → put_all found (xs ++ ys) ≡ put_all (put_all found xs) ys
put_all-append found [] ys = refl
put_all-append found (x ∷ xs) ys = put_all-append (put found x) xs ys

pub put_all-there : (found ps : List Pair) → list_all (is_among found) ps ≡ true → put_all found ps ≡ found
put_all-there found [] e = refl
put_all-there found (p ∷ ps) e =
    let here : put found p ≡ found = put-there found p (and-left (is_among found p) (list_all (is_among found) ps) e) in
    ap (λ fs. put_all fs ps) here ∙ put_all-there found ps (and-right (is_among found p) (list_all (is_among found) ps) e)

pub put_all-keeps : (found ps : List Pair) (q : Pair) → is_among found q ≡ true → is_among (put_all found ps) q ≡ true
put_all-keeps found [] q e = e
put_all-keeps found (p ∷ ps) q e = put_all-keeps (put found p) ps q (put-keeps found p q e)

pub put_all-has : ((p : Pair) → same_pair p p ≡ true) → (found ps : List Pair) → list_all (is_among (put_all found ps)) ps ≡ true
put_all-has s found [] = refl
put_all-has s found (p ∷ ps) =
    and-both (is_among (put_all (put found p) ps) p) (list_all (is_among (put_all (put found p) ps)) ps)
    (put_all-keeps (put found p) ps p (put-has found p (s p))) (put_all-has s (put found p) ps)
