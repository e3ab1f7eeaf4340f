-- Labels and numbers that are listed once.
use Rattle.std.proofs.Common.{◌≡◌, ℕ, zero, suc, ℤ, false, cond, List, [], ◌∷◌, ◌++◌, map, Some, None, refl, sym, ap, subst, ◌∙◌}
use Rattle.std.specs.Prelude.{slice_get}
use Rattle.std.specs.List.{AllByRecursion}
use Rattle.std.specs.Ordering.{int_eq}
use Rattle.std.proofs.lemmas.Bool.{false_from_ne_true}
use Rattle.std.proofs.lemmas.Bool.Decides.{Decides-int_eq}
use Rattle.eds_base.specs.Reading.{same as same_text}
use Rattle.eds_bits.specs.declared.forms.IntForm.{IntForm}
use Rattle.eds_bits.specs.Lists.{Has}
use Rattle.eds_types.specs.declared.row.Kind.{Kind}
use Rattle.eds_types.specs.declared.row.Kind.TheVariants as kind
use Rattle.eds_types.specs.Fields.{listed}
use Rattle.eds_types.specs.Reading.{number_is, label_of}
use Rattle.eds_types.specs.Rules.{AreDistinct, KindKeeps}
use Rattle.eds_unpack.specs.Labels.{AreLabels}
use Rattle.eds_types.proofs.AllOf.{All-weaker, All-pair, All-has}
use Rattle.eds_types.proofs.SameValues.{same_text-is, text_same}

-- each label is listed with its own number
abbrev AreListed : List (List ℕ × ℤ) → Type 0
AreListed xs = AllByRecursion (λ (e : List ℕ × ℤ). listed xs e.0 ≡ Some e.1) xs

mapped_has : {A B : Type 0} (f : A → B) (xs : List A) (x : A) → Has xs x → Has (map f xs) (f x)
mapped_has {A = A} f xs x h = go h.before xs h.is
  where
    go : (before xs : List A) → xs ≡ before ++ x ∷ h.after → Has (map f xs) (f x)
    go [] xs p = record { before = []; after = map f h.after; is = ap (map f) p }
    go (b ∷ before) [] p = absurd cc
    go (b ∷ before) (y ∷ xs) p = let q : xs ≡ before ++ x ∷ h.after = cc in let r = go before xs q in record { before = f y ∷ r.before; after = r.after; is = ap (λ l. f y ∷ l) r.is }

are_listed : (xs : List (List ℕ × ℤ)) → AreDistinct (map (λ (e : List ℕ × ℤ). e.0) xs) → AreListed xs
are_listed [] d = tt
are_listed (x ∷ xs) d = (ap (λ b. cond b (Some x.1) (listed xs x.0)) (text_same x.0), All-weaker _ _ later xs (All-pair _ _ xs (All-has [] xs) (are_listed xs d.1)))
  where
    later : (e : List ℕ × ℤ) → Has xs e × (listed xs e.0 ≡ Some e.1) → listed (x ∷ xs) e.0 ≡ Some e.1
    later e h =
        let differ : same_text x.0 e.0 ≡ false = false_from_ne_true (same_text x.0 e.0) (λ k. d.0 (subst (Has (map (λ (e : List ℕ × ℤ). e.0) xs)) (sym (same_text-is x.0 e.0 k)) (mapped_has (λ (e : List ℕ × ℤ). e.0) xs e h.0))) in
        ap (λ b. cond b (Some x.1) (listed xs e.0)) differ ∙ h.1

-- the number is looked up in what is left of the labels, as it was in all of them
pub record IsSearched (listing : List (List ℕ × ℤ)) (n : ℤ) (rest : List (List ℕ × ℤ)) : Type 0 where
  pub same : label_of listing rest n ≡ label_of listing listing n
  pub listed : AllByRecursion (λ (e : List ℕ × ℤ). listed listing e.0 ≡ Some e.1) rest

pub search_begins : (listing : List (List ℕ × ℤ)) (n : ℤ) → AreLabels listing → IsSearched listing n listing
search_begins listing n h = record { same = refl; listed = h.labels }

next_label : (listing : List (List ℕ × ℤ)) (n : ℤ) (e : List ℕ × ℤ) (es : List (List ℕ × ℤ)) → listed listing e.0 ≡ Some e.1 → label_of listing (e ∷ es) n ≡ cond (int_eq e.1 n) (Some e.0) (label_of listing es n)
next_label listing n e es h = ap (λ o. cond (number_is o n) (Some e.0) (label_of listing es n)) h

pub search_finds : (listing : List (List ℕ × ℤ)) (n : ℤ) (e : List ℕ × ℤ) (es : List (List ℕ × ℤ)) → IsSearched listing n (e ∷ es) → e.1 ≡ n → Some e.0 ≡ label_of listing listing n
search_finds listing n e es s h = sym (sym s.same ∙ next_label listing n e es (s.listed).0 ∙ ap (λ b. cond b (Some e.0) (label_of listing es n)) ((Decides-int_eq e.1 n).1 h))

pub search_goes_on : (listing : List (List ℕ × ℤ)) (n : ℤ) (e : List ℕ × ℤ) (es : List (List ℕ × ℤ)) → IsSearched listing n (e ∷ es) → (e.1 ≡ n → ⊥) → IsSearched listing n es
search_goes_on listing n e es s h = record {
  same = sym (next_label listing n e es (s.listed).0 ∙ ap (λ b. cond b (Some e.0) (label_of listing es n)) (false_from_ne_true (int_eq e.1 n) (λ k. h ((Decides-int_eq e.1 n).0 k)))) ∙ s.same;
  listed = (s.listed).1;
}

pub search_ends : (listing : List (List ℕ × ℤ)) (n : ℤ) → IsSearched listing n [] → None ≡ label_of listing listing n
search_ends listing n s = s.same

search_reaches : (listing : List (List ℕ × ℤ)) (n : ℤ) (l : List ℕ) (rest : List (List ℕ × ℤ)) → IsSearched listing n rest → AreDistinct (map (λ (e : List ℕ × ℤ). e.1) rest) → Has rest (l, n) → Some l ≡ label_of listing listing n
search_reaches listing n l rest s d h = go h.before rest s d h.is
  where
    go : (before rest : List (List ℕ × ℤ)) → IsSearched listing n rest → AreDistinct (map (λ (e : List ℕ × ℤ). e.1) rest) → rest ≡ before ++ (l, n) ∷ h.after → Some l ≡ label_of listing listing n
    go [] [] s d p = absurd cc
    go [] (e ∷ es) s d p = let q : e ≡ (l, n) = cc in sym (ap (λ (e : List ℕ × ℤ). Some e.0) q) ∙ search_finds listing n e es s (ap (λ (e : List ℕ × ℤ). e.1) q)
    go (b ∷ before) [] s d p = absurd cc
    go (b ∷ before) (e ∷ es) s d p =
        let q : es ≡ before ++ (l, n) ∷ h.after = cc in
        let later : Has (map (λ (e : List ℕ × ℤ). e.1) es) n = mapped_has (λ (e : List ℕ × ℤ). e.1) es (l, n) (record { before = before; after = h.after; is = q }) in
        go before es (search_goes_on listing n e es s (λ k. d.0 (subst (Has (map (λ (e : List ℕ × ℤ). e.1) es)) (sym k) later))) d.1 q

pub in_place : {A : Type 0} (xs : List A) (i : ℕ) (x : A) → slice_get xs i ≡ Some x → Has xs x
in_place [] i x e = absurd cc
in_place (y ∷ ys) zero x e = let q : y ≡ x = cc in record { before = []; after = ys; is = ap (λ z. z ∷ ys) q }
in_place (y ∷ ys) (suc i) x e = let h = in_place ys i x e in record { before = y ∷ h.before; after = h.after; is = ap (λ l. y ∷ l) h.is }

-- an entry with the number is the one that a search of them all finds
pub entry_is_found : (listing : List (List ℕ × ℤ)) (n : ℤ) (l : List ℕ) → AreLabels listing → Has listing (l, n) → Some l ≡ label_of listing listing n
entry_is_found listing n l h there = search_reaches listing n l listing (search_begins listing n h) h.numbers there

-- the labels of an enumerated type
pub kind_listed : (k : Kind) (form : IntForm) (listing : List (List ℕ × ℤ)) → k ≡ kind.Enum form listing → KindKeeps k → AreLabels listing
kind_listed k form listing e h = let keeps = subst KindKeeps e h in record { labels = are_listed listing keeps.labels; numbers = keeps.numbers }
