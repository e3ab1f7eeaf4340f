-- Texts among texts.
use Rattle.std.proofs.Common.{◌≡◌, ℕ, Bool, true, false, cond, ◌||◌, List, [], ◌∷◌, ◌++◌, map, refl, sym, ap, ◌∙◌}
use Rattle.std.specs.List.{list_any}
use Rattle.std.proofs.lemmas.List.{map-append}
use Rattle.std.proofs.lemmas.Slice.Eq.{bytes_eq-Decides}
use Rattle.eds_base.specs.Reading.{same}
use Rattle.eds_script.specs.Seen.{is_among}

-- a text is among others exactly where it is among their bytes
pub among-map : {A : Type 0} (f : A → List ℕ) (xs : List A) (key : List ℕ) → is_among (map f xs) key ≡ list_any (λ x. same key (f x)) xs
among-map f [] key = refl
among-map f (x ∷ xs) key = rw (among-map f xs key) refl

-- a text that is there adds nothing
pub among-present : (before : List (List ℕ)) (key q : List ℕ) → is_among before key ≡ true → is_among before q ≡ (same q key || is_among before q)
among-present before key q h = go (same q key) refl
  where
    go : (b : Bool) → same q key ≡ b → is_among before q ≡ (same q key || is_among before q)
    go true e = let is : q ≡ key = (bytes_eq-Decides q key).0 e in ap (is_among before) is ∙ h ∙ sym (rw e refl)
    go false e = sym (rw e refl)

swapped : (a b c : Bool) → (a || (b || c)) ≡ (b || (a || c))
swapped true true c = refl
swapped true false c = refl
swapped false true c = refl
swapped false false c = refl

-- a text that goes last goes among the others as one that goes first
among-last : (before : List (List ℕ)) (key q : List ℕ) → is_among (before ++ key ∷ []) q ≡ (same q key || is_among before q)
among-last [] key q = refl
among-last (x ∷ xs) key q = ap (λ b. same q x || b) (among-last xs key q) ∙ swapped (same q x) (same q key) (is_among xs q)

-- a text that is new goes last
pub among-inserted : {A : Type 0} (f : A → List ℕ) (old new : List A) (x : A) (key q : List ℕ) → f x ≡ key → is_among (map f old) key ≡ false → new ≡ cond (list_any (λ y. same (f x) (f y)) old) old (old ++ x ∷ []) → is_among (map f new) q ≡ (same q key || is_among (map f old) q)
among-inserted f old new x key q is absent e =
    let none : list_any (λ y. same (f x) (f y)) old ≡ false = sym (among-map f old (f x)) ∙ ap (is_among (map f old)) is ∙ absent in
    let last : new ≡ old ++ x ∷ [] = e ∙ ap (λ b. cond b old (old ++ x ∷ [])) none in
    ap (λ ys. is_among (map f ys) q) last ∙ ap (λ ks. is_among ks q) (map-append f old (x ∷ []) ∙ ap (λ k. map f old ++ k ∷ []) is) ∙ among-last (map f old) key q

-- two ends of a wire
pub among-two : (a b c : Bool) → (b || (a || c)) ≡ ((a || (b || false)) || c)
among-two true true c = refl
among-two true false c = refl
among-two false true c = refl
among-two false false c = refl

-- of what is found so far, and what is to come
pub among-more : (now before here later whole : Bool) → now ≡ (here || before) → (before || (here || later)) ≡ whole → (now || later) ≡ whole
among-more now before true later whole e all = ap (λ b. b || later) e ∙ sym (or-true before later) ∙ all
  where
    or-true : (b l : Bool) → (b || (true || l)) ≡ ((true || b) || l)
    or-true true l = refl
    or-true false l = refl
among-more now before false later whole e all = ap (λ b. b || later) e ∙ all

-- two texts that were put one after the other
pub two-noted : (a b before one two : Bool) → one ≡ (a || before) → two ≡ (b || one) → two ≡ ((a || b) || before)
two-noted a b before one two e f = f ∙ ap (λ x. b || x) e ∙ turned a b
  where
    turned : (a b : Bool) → (b || (a || before)) ≡ ((a || b) || before)
    turned true true = refl
    turned true false = refl
    turned false true = refl
    turned false false = refl
