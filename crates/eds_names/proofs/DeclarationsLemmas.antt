-- Declared items, some after others.
use Rattle.std.proofs.Common.{◌≡◌, ℕ, ◌+◌, ◌<◌, List, [], ◌∷◌, ◌++◌, length, drop, get_or, refl, sym, ap, ◌∙◌, append_assoc, drop-cons, add-one}
use Rattle.std.specs.List.{flat_map}
use Rattle.eds_names.specs.declared.declared.Counts.{Counts}
use Rattle.eds_names.specs.declared.declared.Declared.{Declared}
use Rattle.eds_names.specs.Declarations.{Declaration, numbered, counted, counted_all}

pub numbered-append : (c : Counts) (xs ys : List Declaration) → numbered c (xs ++ ys) ≡ numbered c xs ++ numbered (counted_all c xs) ys
numbered-append c [] ys = refl
numbered-append c (x ∷ xs) ys = rw (numbered-append (counted c x.kind) xs ys) refl

pub counted_all-append : (c : Counts) (xs ys : List Declaration) → counted_all c (xs ++ ys) ≡ counted_all (counted_all c xs) ys
counted_all-append c [] ys = refl
counted_all-append c (x ∷ xs) ys = counted_all-append (counted c x.kind) xs ys

flat_map-drop : {A : Type 0} (f : A → List Declaration) (xs : List A) (i : ℕ) (x d : A) → i < length xs → x ≡ get_or xs i d → flat_map f (drop i xs) ≡ f x ++ flat_map f (drop (i + 1) xs)
flat_map-drop f xs i x d lt is = ap (flat_map f) (drop-cons xs i d lt) ∙ rw (add-one, ← is) refl

-- the items and the counts after what one more element declares
pub numbered-next : {A : Type 0} (f : A → List Declaration) (xs : List A) (i : ℕ) (x d : A) (c more : Counts) (old new whole : List Declared)
    → i < length xs → x ≡ get_or xs i d → new ≡ old ++ numbered c (f x) → more ≡ counted_all c (f x)
    → old ++ numbered c (flat_map f (drop i xs)) ≡ whole → new ++ numbered more (flat_map f (drop (i + 1) xs)) ≡ whole
numbered-next f xs i x d c more old new whole lt is n m all =
    let rest = flat_map f (drop (i + 1) xs) in
    ap (λ ys. ys ++ numbered more rest) n ∙ append_assoc old (numbered c (f x)) (numbered more rest)
    ∙ ap (λ k. old ++ (numbered c (f x) ++ numbered k rest)) m ∙ ap (λ ys. old ++ ys) (sym (numbered-append c (f x) rest))
    ∙ ap (λ ys. old ++ numbered c ys) (sym (flat_map-drop f xs i x d lt is)) ∙ all

pub counted-next : {A : Type 0} (f : A → List Declaration) (xs : List A) (i : ℕ) (x d : A) (c more whole : Counts)
    → i < length xs → x ≡ get_or xs i d → more ≡ counted_all c (f x)
    → counted_all c (flat_map f (drop i xs)) ≡ whole → counted_all more (flat_map f (drop (i + 1) xs)) ≡ whole
counted-next f xs i x d c more whole lt is m all =
    let rest = flat_map f (drop (i + 1) xs) in
    ap (λ k. counted_all k rest) m ∙ sym (counted_all-append c (f x) rest) ∙ ap (counted_all c) (sym (flat_map-drop f xs i x d lt is)) ∙ all
