-- What holds of each item of a list.
use Rattle.std.proofs.Common.{ℕ, List, [], ◌∷◌, ◌++◌, reverse, refl, subst, append_assoc, inl, inr}
use mathlib.Core.List.{reverse_aux}
use Rattle.std.specs.List.{AllByRecursion, flat_map}
use Rattle.eds_bits.specs.Lists.{Has, HasOne}

pub All-weaker : {A : Type 0} (P Q : A → Type 0) → ((x : A) → P x → Q x) → (xs : List A) → AllByRecursion P xs → AllByRecursion Q xs
All-weaker P Q g [] h = tt
All-weaker P Q g (x ∷ xs) h = (g x h.0, All-weaker P Q g xs h.1)

pub All-both : {A : Type 0} (P : A → Type 0) (xs ys : List A) → AllByRecursion P xs → AllByRecursion P ys → AllByRecursion P (xs ++ ys)
All-both P [] ys h k = k
All-both P (x ∷ xs) ys h k = (h.0, All-both P xs ys h.1 k)

pub All-front : {A : Type 0} (P : A → Type 0) (xs ys : List A) → AllByRecursion P (xs ++ ys) → AllByRecursion P xs
All-front P [] ys h = tt
All-front P (x ∷ xs) ys h = (h.0, All-front P xs ys h.1)

pub All-back : {A : Type 0} (P : A → Type 0) (xs ys : List A) → AllByRecursion P (xs ++ ys) → AllByRecursion P ys
All-back P [] ys h = h
All-back P (x ∷ xs) ys h = All-back P xs ys h.1

pub All-apply : {A : Type 0} (P Q : A → Type 0) (xs : List A) → AllByRecursion (λ x. P x → Q x) xs → AllByRecursion P xs → AllByRecursion Q xs
All-apply P Q [] h k = tt
All-apply P Q (x ∷ xs) h k = (h.0 k.0, All-apply P Q xs h.1 k.1)

-- both facts of each
pub All-pair : {A : Type 0} (P Q : A → Type 0) (xs : List A) → AllByRecursion P xs → AllByRecursion Q xs → AllByRecursion (λ x. P x × Q x) xs
All-pair P Q [] h k = tt
All-pair P Q (x ∷ xs) h k = ((h.0, k.0), All-pair P Q xs h.1 k.1)

-- what holds of everything
pub All-each : {A : Type 0} (P : A → Type 0) → ((x : A) → P x) → (xs : List A) → AllByRecursion P xs
All-each P g [] = tt
All-each P g (x ∷ xs) = (g x, All-each P g xs)

-- each item stands in the list
pub All-has : {A : Type 0} (before xs : List A) → AllByRecursion (Has (before ++ xs)) xs
All-has before [] = tt
All-has before (x ∷ xs) = (record { before = before; after = xs; is = refl }, subst (λ l. AllByRecursion (Has l) xs) (append_assoc before (x ∷ []) xs) (All-has (before ++ x ∷ []) xs))

pub All-at : {A : Type 0} (P : A → Type 0) (xs : List A) (x : A) → Has xs x → AllByRecursion P xs → P x
All-at P xs x h a = (All-back P h.before (x ∷ h.after) (subst (AllByRecursion P) h.is a)).0

-- of what is put together from a list for each number
pub All-unflat : {A : Type 0} (P : A → Type 0) (f : ℕ → List A) (ys : List ℕ) → AllByRecursion P (flat_map f ys) → AllByRecursion (λ y. AllByRecursion P (f y)) ys
All-unflat P f [] h = tt
All-unflat P f (y ∷ ys) h = (All-front P (f y) (flat_map f ys) h, All-unflat P f ys (All-back P (f y) (flat_map f ys) h))

pub All-flat : {A : Type 0} (P : A → Type 0) (Q : ℕ → Type 0) (f : ℕ → List A) → ((y : ℕ) → Q y → AllByRecursion P (f y)) → (ys : List ℕ) → AllByRecursion Q ys → AllByRecursion P (flat_map f ys)
All-flat P Q f g [] h = tt
All-flat P Q f g (y ∷ ys) h = All-both P (f y) (flat_map f ys) (g y h.0) (All-flat P Q f g ys h.1)

pub one_of : {A : Type 0} (P : A → Type 0) (before : List A) (x : A) (after : List A) → P x → HasOne P (before ++ x ∷ after)
one_of P [] x after h = inl h
one_of P (y ∷ ys) x after h = inr (one_of P ys x after h)

all_onto : {A : Type 0} (P : A → Type 0) (xs ys : List A) → AllByRecursion P xs → AllByRecursion P ys → AllByRecursion P (reverse_aux xs ys)
all_onto P [] ys h k = k
all_onto P (x ∷ xs) ys h k = all_onto P xs (x ∷ ys) h.1 (h.0, k)

pub All-reverse : {A : Type 0} (P : A → Type 0) (xs : List A) → AllByRecursion P xs → AllByRecursion P (reverse xs)
All-reverse P xs h = all_onto P xs [] h tt
