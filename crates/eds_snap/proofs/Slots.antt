-- What lines told of components, with one more line.
use Rattle.std.proofs.Common.{◌≡◌, ◌<◌, ℕ, zero, suc, List, [], ◌∷◌, length, map, Option, Some, refl, sym, ap, subst, ◌∙◌, arith}
use Rattle.std.specs.Prelude.{OnOk, Result, Ok, Err, option_map, slice_get, slice_index_or, slice_set, unwrap_or}
use Rattle.std.specs.List.{AllByRecursion}
use Rattle.eds_base.specs.declared.fail.Memory.{Memory}
use Rattle.eds_snap.specs.declared.told.Told.{Told as HeldTold}
use Rattle.eds_snap.specs.Seen.{told_now}
use Rattle.eds_snap.specs.Entries.{Told, told_of}

pub set-map : {A B : Type 0} (f : A → B) (xs : List A) (i : ℕ) (x : A) → map f (slice_set xs i x) ≡ slice_set (map f xs) i (f x)
set-map f [] i x = refl
set-map f (y ∷ ys) zero x = refl
set-map f (y ∷ ys) (suc i) x = ap (λ zs. f y ∷ zs) (set-map f ys i x)

-- what was told of one component is changed
pub put-at : (xs : List HeldTold) (i : ℕ) (old new d : HeldTold) (f : Told → Told) → i < length xs → old ≡ slice_index_or xs i d → told_now new ≡ f (told_now old)
    → map told_now (slice_set xs i new) ≡ slice_set (map told_now xs) i (f (told_of (map told_now xs) i))
put-at [] i old new d f lt is e = absurd (omega (arith, lt))
put-at (x ∷ xs) zero old new d f lt is e = ap (λ y. y ∷ map told_now xs) (e ∙ ap (λ y. f (told_now y)) is)
put-at (x ∷ xs) (suc i) old new d f lt is e = ap (λ ys. told_now x ∷ ys) (put-at xs i old new d f (omega (arith, lt)) is e)

pub put-done : (r : Result (Unit {0}) Memory) (xs : List HeldTold) (i : ℕ) (old new d : HeldTold) (f : Told → Told) → i < length xs → old ≡ slice_index_or xs i d → OnOk r (told_now new ≡ f (told_now old))
    → OnOk r (map told_now (slice_set xs i new) ≡ slice_set (map told_now xs) i (f (told_of (map told_now xs) i)))
put-done (Ok u) xs i old new d f lt is e = put-at xs i old new d f lt is e
put-done (Err m) xs i old new d f lt is e = tt

pub all-at : {A : Type 0} (P : A → Type 0) (xs : List A) (i : ℕ) (d : A) → AllByRecursion P xs → i < length xs → P (unwrap_or (slice_get xs i) d)
all-at P [] i d h lt = absurd (omega (arith, lt))
all-at P (x ∷ xs) zero d h lt = h.0
all-at P (x ∷ xs) (suc i) d h lt = all-at P xs i d h.1 (omega (arith, lt))

pub all-there : {A : Type 0} (P : A → Type 0) (xs : List A) (i : ℕ) (x : A) → AllByRecursion P xs → slice_get xs i ≡ Some x → P x
all-there P [] i x h e = absurd cc
all-there P (y ∷ ys) zero x h e = let same : y ≡ x = cc in subst P same h.0
all-there P (y ∷ ys) (suc i) x h e = all-there P ys i x h.1 e
