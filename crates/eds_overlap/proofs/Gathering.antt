-- Common numbers that are gathered in the order of their paths' texts.
use Rattle.std.proofs.Common.{◌≡◌, ℕ, zero, suc, Bool, true, false, cond, List, [], ◌∷◌, ◌++◌, map, take, drop, refl, sym, ap, subst, ◌∙◌, inl, inr}
use Rattle.std.specs.Prelude.{◌⊎◌, fold, insert}
use Rattle.std.proofs.Common.{Ordering, Less, Equal, Greater}
use Rattle.std.specs.Ordering.{nat_cmp, is_le, ordering_reverse}
use Rattle.std.specs.Cmp.Lexicographic.{slice_cmp}
use Rattle.std.specs.List.{AllByRecursion}
use Rattle.std.proofs.lemmas.Cmp.{nat_list_cmp_total}
use Rattle.eds_bits.specs.Lists.{Has, HasOne}
use Rattle.eds_types.specs.Rows.{Table}
use Rattle.eds_types.specs.Rules.{AreDistinct}
use Rattle.eds_types.proofs.AllOf.{All-weaker, All-both, All-front, All-back, one_of}
use Rattle.eds_overlap.specs.declared.common.Common.{Common}
use Rattle.eds_overlap.specs.Common.{paths_of, texts_of, IsOn, is_on, put_in_order}
use Rattle.eds_overlap.specs.Pairs.{Steps, same_path}
use Rattle.eds_overlap.specs.PathTexts.{path_text, count_up_to, IsUpTo, AreInOrder}
use Rattle.eds_overlap.proofs.Solutions.{same_is, same_not}

-- ---- the order of texts

order : List ℕ → List ℕ → Ordering
order = slice_cmp nat_cmp

up_to_not : (x y : List ℕ) → is_le (slice_cmp nat_cmp x y) ≡ false → IsUpTo y x
up_to_not x y h = go (slice_cmp nat_cmp x y) refl h
  where
    go : (o : Ordering) → slice_cmp nat_cmp x y ≡ o → is_le o ≡ false → IsUpTo y x
    go Less e h = absurd cc
    go Equal e h = absurd cc
    go Greater e h = ap is_le (nat_list_cmp_total.antisymm y x ∙ ap ordering_reverse e)

up_to_trans : (x y z : List ℕ) → IsUpTo x y → IsUpTo y z → IsUpTo x z
up_to_trans x y z h k = go (slice_cmp nat_cmp x y) refl h
  where
    second : (o : Ordering) → slice_cmp nat_cmp y z ≡ o → is_le o ≡ true → slice_cmp nat_cmp x y ≡ Less → IsUpTo x z
    second Less e k less = ap is_le (nat_list_cmp_total.trans x y z less e)
    second Equal e k less =
        let back : slice_cmp nat_cmp y x ≡ slice_cmp nat_cmp z x = nat_list_cmp_total.congr y z x e in
        ap is_le (nat_list_cmp_total.antisymm x z ∙ ap ordering_reverse (sym back) ∙ sym (nat_list_cmp_total.antisymm x y) ∙ less)
    second Greater e k less = absurd cc

    go : (o : Ordering) → slice_cmp nat_cmp x y ≡ o → is_le o ≡ true → IsUpTo x z
    go Less e h = second (slice_cmp nat_cmp y z) refl k e
    go Equal e h = ap is_le (nat_list_cmp_total.congr x y z e) ∙ k
    go Greater e h = absurd cc

-- ---- a list with a further item

split_list : {A : Type 0} (i : ℕ) (xs : List A) → xs ≡ take i xs ++ drop i xs
split_list zero xs = refl
split_list (suc i) [] = refl
split_list (suc i) (x ∷ xs) = ap (λ r. x ∷ r) (split_list i xs)

All-insert : {A : Type 0} (P : A → Type 0) (xs : List A) (i : ℕ) (x : A) → AllByRecursion P xs → P x → AllByRecursion P (insert xs i x)
All-insert P xs i x a h =
    let parts = subst (AllByRecursion P) (split_list i xs) a in
    All-both P (take i xs) (x ∷ drop i xs) (All-front P (take i xs) (drop i xs) parts) (h, All-back P (take i xs) (drop i xs) parts)

one_between : {A : Type 0} (P : A → Type 0) (xs ys : List A) (x : A) → HasOne P (xs ++ ys) → HasOne P (xs ++ x ∷ ys)
one_between P [] ys x h = inr h
one_between P (y ∷ xs) ys x (inl h) = inl h
one_between P (y ∷ xs) ys x (inr h) = inr (one_between P xs ys x h)

one_among : {A : Type 0} (P : A → Type 0) (xs ys : List A) (x : A) → HasOne P (xs ++ x ∷ ys) → HasOne P (xs ++ ys) ⊎ P x
one_among P [] ys x (inl h) = inr h
one_among P [] ys x (inr h) = inl h
one_among P (y ∷ xs) ys x (inl h) = inl (inl h)
one_among P (y ∷ xs) ys x (inr h) = elim (one_among P xs ys x h) [ inl k ↦ inl (inr k) | inr k ↦ inr k ]

map_insert : {A B : Type 0} (f : A → B) (xs : List A) (i : ℕ) (x : A) → map f (insert xs i x) ≡ insert (map f xs) i (f x)
map_insert f xs zero x = refl
map_insert f [] (suc i) x = refl
map_insert f (y ∷ xs) (suc i) x = ap (λ r. f y ∷ r) (map_insert f xs i x)

-- ---- in order

order_insert : (texts : List (List ℕ)) (text : List ℕ) → AreInOrder texts → AreInOrder (insert texts (count_up_to texts text) text)
order_insert [] text h = (tt, tt)
order_insert (x ∷ texts) text h = go (is_le (slice_cmp nat_cmp x text)) refl (order_insert texts text h.1)
  where
    go : (b : Bool) → is_le (slice_cmp nat_cmp x text) ≡ b → AreInOrder (insert texts (count_up_to texts text) text) → AreInOrder (insert (x ∷ texts) (cond b (suc (count_up_to texts text)) 0) text)
    go true e ih = (All-insert (IsUpTo x) texts (count_up_to texts text) text h.0 e, ih)
    go false e ih = let first = up_to_not x text e in ((first, All-weaker (IsUpTo x) (IsUpTo text) (λ y k. up_to_trans text x y first k) texts h.0), h)

-- ---- paths

pub has_on : (common : List Common) (path : Steps) → Has (paths_of common) path → IsOn common path
has_on [] path h = absurd (go h.before h.is)
  where
    go : (b : List Steps) → [] ≡ b ++ path ∷ h.after → ⊥
    go [] e = cc
    go (x ∷ b) e = cc
has_on (x ∷ common) path h = go h.before h.is (has_on common path)
  where
    go : (b : List Steps) → x.path ∷ paths_of common ≡ b ++ path ∷ h.after → (Has (paths_of common) path → IsOn common path) → IsOn (x ∷ common) path
    go [] e ih = inl cc
    go (y ∷ b) e ih = let q : paths_of common ≡ b ++ path ∷ h.after = cc in inr (ih (record { before = b; after = h.after; is = q }))

on_has : (common : List Common) (path : Steps) → IsOn common path → Has (paths_of common) path
on_has [] path h = absurd h
on_has (x ∷ common) path (inl h) = record { before = []; after = paths_of common; is = ap (λ r. r ∷ paths_of common) h }
on_has (x ∷ common) path (inr h) = let k = on_has common path h in record { before = x.path ∷ k.before; after = k.after; is = ap (λ r. x.path ∷ r) k.is }

distinct_between : (xs ys : List Common) (x : Common) → AreDistinct (paths_of (xs ++ ys)) → (IsOn (xs ++ ys) x.path → ⊥) → AreDistinct (paths_of (xs ++ x ∷ ys))
distinct_between [] ys x d new = (λ h. new (has_on ys x.path h), d)
distinct_between (y ∷ xs) ys x d new = (
  λ h. elim (one_among (λ (c : Common). c.path ≡ y.path) xs ys x (has_on (xs ++ x ∷ ys) y.path h)) [ inl k ↦ d.0 (on_has (xs ++ ys) y.path k) | inr k ↦ new (inl (sym k)) ],
  distinct_between xs ys x d.1 (λ h. new (inr h)),
)

-- ---- which paths have a number

pub is_on-one : (common : List Common) (path : Steps) → is_on common path ≡ true → IsOn common path
is_on-one [] path e = absurd cc
is_on-one (c ∷ common) path e = go (same_path c.path path) refl e (is_on-one common path)
  where
    go : (b : Bool) → same_path c.path path ≡ b → cond b true (is_on common path) ≡ true → (is_on common path ≡ true → IsOn common path) → IsOn (c ∷ common) path
    go true h e ih = inl (same_is c.path path h)
    go false h e ih = inr (ih e)

pub one-is_on : (common : List Common) (path : Steps) → IsOn common path → is_on common path ≡ true
one-is_on [] path h = absurd h
one-is_on (c ∷ common) path h = go (same_path c.path path) refl h (one-is_on common path)
  where
    go : (b : Bool) → same_path c.path path ≡ b → IsOn (c ∷ common) path → (IsOn common path → is_on common path ≡ true) → cond b true (is_on common path) ≡ true
    go true e h ih = refl
    go false e (inl h) ih = absurd (same_not c.path path e h)
    go false e (inr h) ih = ih h

-- ---- numbers put in order one after another

module _ (t : Table) where
  abbrev placed : List Common → Common → ℕ
  placed common c = count_up_to (texts_of t common) (path_text t c.path)

  put_to : (common : List Common) (c : Common) (path : Steps) → IsOn (put_in_order t common c) path → IsOn common path ⊎ (c.path ≡ path)
  put_to common c path h =
      elim (one_among (λ (y : Common). y.path ≡ path) (take (placed common c) common) (drop (placed common c) common) c h) [
        | inl k ↦ inl (subst (λ xs. IsOn xs path) (sym (split_list (placed common c) common)) k)
        | inr k ↦ inr k
      ]

  put_from : (common : List Common) (c : Common) (path : Steps) → IsOn common path → IsOn (put_in_order t common c) path
  put_from common c path h = one_between (λ (y : Common). y.path ≡ path) (take (placed common c) common) (drop (placed common c) common) c (subst (λ xs. IsOn xs path) (split_list (placed common c) common) h)

  put_own : (common : List Common) (c : Common) → IsOn (put_in_order t common c) c.path
  put_own common c = one_of (λ (y : Common). y.path ≡ c.path) (take (placed common c) common) c (drop (placed common c) common) refl

  pub sorted_to : (old cs : List Common) (path : Steps) → IsOn (fold (put_in_order t) old cs) path → IsOn old path ⊎ IsOn cs path
  sorted_to old [] path h = inl h
  sorted_to old (c ∷ cs) path h =
      elim (sorted_to (put_in_order t old c) cs path h) [
        | inl k ↦ elim (put_to old c path k) [ inl m ↦ inl m | inr m ↦ inr (inl m) ]
        | inr k ↦ inr (inr k)
      ]

  sorted_old : (old cs : List Common) (path : Steps) → IsOn old path → IsOn (fold (put_in_order t) old cs) path
  sorted_old old [] path h = h
  sorted_old old (c ∷ cs) path h = sorted_old (put_in_order t old c) cs path (put_from old c path h)

  pub sorted_new : (old cs : List Common) (path : Steps) → IsOn cs path → IsOn (fold (put_in_order t) old cs) path
  sorted_new old [] path h = absurd h
  sorted_new old (c ∷ cs) path (inl h) = sorted_old (put_in_order t old c) cs path (subst (IsOn (put_in_order t old c)) h (put_own old c))
  sorted_new old (c ∷ cs) path (inr h) = sorted_new (put_in_order t old c) cs path h

  pub sorted_all : (P : Common → Type 0) (old cs : List Common) → AllByRecursion P old → AllByRecursion P cs → AllByRecursion P (fold (put_in_order t) old cs)
  sorted_all P old [] h k = h
  sorted_all P old (c ∷ cs) h k = sorted_all P (put_in_order t old c) cs (All-insert P old (placed old c) c h k.0) k.1

  pub sorted_order : (old cs : List Common) → AreInOrder (texts_of t old) → AreInOrder (texts_of t (fold (put_in_order t) old cs))
  sorted_order old [] h = h
  sorted_order old (c ∷ cs) h =
      sorted_order (put_in_order t old c) cs
      (subst AreInOrder (sym (map_insert (λ (y : Common). path_text t y.path) old (placed old c) c)) (order_insert (texts_of t old) (path_text t c.path) h))

  pub sorted_once : (old cs : List Common) → AreDistinct (paths_of old) → AreDistinct (paths_of cs) → ((path : Steps) → IsOn old path → IsOn cs path → ⊥) → AreDistinct (paths_of (fold (put_in_order t) old cs))
  sorted_once old [] d e apart = d
  sorted_once old (c ∷ cs) d e apart =
      let i = placed old c in
      sorted_once (put_in_order t old c) cs
      (distinct_between (take i old) (drop i old) c (subst (λ xs. AreDistinct (paths_of xs)) (split_list i old) d) (λ h. apart c.path (subst (λ xs. IsOn xs c.path) (sym (split_list i old)) h) (inl refl)))
      e.1
      (λ path h k. elim (put_to old c path h) [ inl m ↦ apart path m (inr k) | inr m ↦ e.0 (on_has cs c.path (subst (IsOn cs) (sym m) k)) ])
