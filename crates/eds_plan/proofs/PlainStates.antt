-- States of components, and their plain data.
use Rattle.std.proofs.Common.{◌≡◌, ◌<◌, ℕ, zero, suc, List, [], ◌∷◌, Some, refl, ap, arith, length, map}
use Rattle.std.specs.Prelude.{slice_get, slice_index_or, slice_set}
use Rattle.eds_plan.specs.States.{state_now}
use Rattle.eds_plan.specs.declared.run.CompState.{CompState}

pub map_length : (xs : List CompState) → length (map state_now xs) ≡ length xs
map_length [] = refl
map_length (y ∷ ys) = ap suc (map_length ys)

pub map_set : (xs : List CompState) (i : ℕ) (s : CompState) → map state_now (slice_set xs i s) ≡ slice_set (map state_now xs) i (state_now s)
map_set [] i s = refl
map_set (y ∷ ys) zero s = refl
map_set (y ∷ ys) (suc i) s = ap (λ zs. state_now y ∷ zs) (map_set ys i s)

pub get_at : (xs : List CompState) (i : ℕ) (d : CompState) → i < length xs → slice_get (map state_now xs) i ≡ Some (state_now (slice_index_or xs i d))
get_at [] i d lt = absurd (omega arith)
get_at (y ∷ ys) zero d lt = refl
get_at (y ∷ ys) (suc i) d lt = get_at ys i d (omega arith)
