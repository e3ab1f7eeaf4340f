-- What holds of each item of a list.
use Rattle.std.proofs.Common.{◌≡◌, ℕ, zero, suc, List, [], ◌∷◌, ◌++◌, map, Some, refl, subst}
use Rattle.std.specs.List.{AllByRecursion, flat_map}
use Rattle.std.specs.Prelude.{slice_get}

pub append-none : {A : Type 0} (xs ys : List A) → xs ++ ys ≡ [] → (xs ≡ []) × (ys ≡ [])
append-none [] ys e = (refl, e)
append-none (x ∷ xs) ys e = cc

pub map-none : {A B : Type 0} (f : A → B) (xs : List A) → map f xs ≡ [] → xs ≡ []
map-none f [] e = refl
map-none f (x ∷ xs) e = cc

pub flat-none : {A B : Type 0} (f : A → List B) (xs : List A) → flat_map f xs ≡ [] → AllByRecursion (λ x. f x ≡ []) xs
flat-none f [] e = tt
flat-none f (x ∷ xs) e = let p = append-none (f x) (flat_map f xs) e in (p.0, flat-none f xs p.1)

pub all-apart : {A : Type 0} (P : A → Type 0) (xs ys : List A) → AllByRecursion P (xs ++ ys) → AllByRecursion P xs × AllByRecursion P ys
all-apart P [] ys h = (tt, h)
all-apart P (x ∷ xs) ys h = let p = all-apart P xs ys h.1 in ((h.0, p.0), p.1)

pub all-joined : {A : Type 0} (P : A → Type 0) (xs ys : List A) → AllByRecursion P xs → AllByRecursion P ys → AllByRecursion P (xs ++ ys)
all-joined P [] ys h k = k
all-joined P (x ∷ xs) ys h k = (h.0, all-joined P xs ys h.1 k)

pub all-of : {A : Type 0} (P : A → Type 0) (xs : List A) (i : ℕ) (x : A) → AllByRecursion P xs → slice_get xs i ≡ Some x → P x
all-of P [] i x h e = cc
all-of P (y ∷ ys) zero x h e = let is : y ≡ x = cc in subst P is h.0
all-of P (y ∷ ys) (suc i) x h e = all-of P ys i x h.1 e

-- what holds of each item before a map holds of it after, where the map keeps it
pub all-mapped : {A B : Type 0} (P : A → Type 0) (Q : B → Type 0) (f : A → B) → ((x : A) → P x → Q (f x)) → (xs : List A) → AllByRecursion P xs → AllByRecursion Q (map f xs)
all-mapped P Q f k [] h = tt
all-mapped P Q f k (x ∷ xs) h = (k x h.0, all-mapped P Q f k xs h.1)

pub all-unmapped : {A B : Type 0} (P : A → Type 0) (Q : B → Type 0) (f : A → B) → ((x : A) → Q (f x) → P x) → (xs : List A) → AllByRecursion Q (map f xs) → AllByRecursion P xs
all-unmapped P Q f k [] h = tt
all-unmapped P Q f k (x ∷ xs) h = (k x h.0, all-unmapped P Q f k xs h.1)
