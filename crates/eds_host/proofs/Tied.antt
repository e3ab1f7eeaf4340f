-- The list of moments for which components wait, and their states.
use Rattle.std.proofs.Common.{◌≡◌, ◌<◌, ◌+◌, ℕ, zero, suc, List, [], ◌∷◌, ◌++◌, Option, refl, sym, ap, ◌∙◌, arith, length}
use Rattle.std.specs.Prelude.{slice_set}
use Rattle.eds_host.specs.Mirrors.{dues_of, first_in}
use Rattle.eds_host.specs.Settings.{state_in}
use Rattle.eds_plan.specs.States.{StateNow}
use Rattle.eds_host.specs.Systems.{System, due_at, first_of, first_due}

pub dues_length : (sys : System) (comp : ℕ) (xs : List StateNow) → length (dues_of sys comp xs) ≡ length xs
dues_length sys comp [] = refl
dues_length sys comp (x ∷ xs) = ap suc (dues_length sys (comp + 1) xs)

-- the least of the list is the least for which a component waits
pub first_is_due : (sys : System) (comp : ℕ) (xs : List StateNow) → first_in comp (dues_of sys comp xs) ≡ first_due sys comp xs
first_is_due sys comp [] = refl
first_is_due sys comp (x ∷ xs) = ap (first_of (due_at comp (sys.waits comp x))) (first_is_due sys (comp + 1) xs)

set_from : (sys : System) (first : ℕ) (xs : List StateNow) (i : ℕ) (s : StateNow) → dues_of sys first (slice_set xs i s) ≡ slice_set (dues_of sys first xs) i (sys.waits (first + i) s)
set_from sys first [] i s = refl
set_from sys first (x ∷ xs) zero s = ap (λ n. sys.waits n s ∷ dues_of sys (first + 1) xs) (omega arith)
set_from sys first (x ∷ xs) (suc i) s = ap (λ ds. sys.waits first x ∷ ds) (set_from sys (first + 1) xs i s ∙ ap (λ n. slice_set (dues_of sys (first + 1) xs) i (sys.waits n s)) (omega arith))

-- one component has another state
pub tied_set : (sys : System) (xs : List StateNow) (i : ℕ) (s : StateNow) → dues_of sys 0 (slice_set xs i s) ≡ slice_set (dues_of sys 0 xs) i (sys.waits i s)
tied_set sys xs i s = set_from sys 0 xs i s ∙ ap (λ n. slice_set (dues_of sys 0 xs) i (sys.waits n s)) (omega arith)

pub state_set : (xs : List StateNow) (i : ℕ) (s : StateNow) → i < length xs → state_in (slice_set xs i s) i ≡ s
state_set [] i s lt = absurd (omega arith)
state_set (x ∷ xs) zero s lt = refl
state_set (x ∷ xs) (suc i) s lt = state_set xs i s (omega arith)

-- a component has reacted, and the moment for which it waits was noted
pub tied_after : (sys : System) (ds es : List (Option (ℕ × ℕ))) (xs ys : List StateNow) (i : ℕ) (s : StateNow) → i < length xs → ds ≡ dues_of sys 0 xs → ys ≡ slice_set xs i s → es ≡ slice_set ds i (sys.waits i (state_in ys i)) → es ≡ dues_of sys 0 ys
tied_after sys ds es xs ys i s lt t u e =
    e ∙ ap (λ zs. slice_set ds i (sys.waits i (state_in zs i))) u ∙ ap (λ x. slice_set ds i (sys.waits i x)) (state_set xs i s lt) ∙ ap (λ d. slice_set d i (sys.waits i s)) t ∙ sym (tied_set sys xs i s) ∙ ap (dues_of sys 0) (sym u)

-- one more component
more_from : (sys : System) (first : ℕ) (xs : List StateNow) (s : StateNow) → dues_of sys first (xs ++ s ∷ []) ≡ dues_of sys first xs ++ sys.waits (first + length xs) s ∷ []
more_from sys first [] s = ap (λ n. sys.waits n s ∷ []) (omega arith)
more_from sys first (x ∷ xs) s = ap (λ ds. sys.waits first x ∷ ds) (more_from sys (first + 1) xs s ∙ ap (λ n. dues_of sys (first + 1) xs ++ sys.waits n s ∷ []) (omega arith))

pub dues_more : (sys : System) (xs : List StateNow) (s : StateNow) → dues_of sys 0 (xs ++ s ∷ []) ≡ dues_of sys 0 xs ++ sys.waits (length xs) s ∷ []
dues_more sys xs s = more_from sys 0 xs s ∙ ap (λ n. dues_of sys 0 xs ++ sys.waits n s ∷ []) (omega arith)

pub set_last : {A : Type 0} (ds : List A) (d e : A) → slice_set (ds ++ d ∷ []) (length ds) e ≡ ds ++ e ∷ []
set_last [] d e = refl
set_last (x ∷ xs) d e = ap (λ ys. x ∷ ys) (set_last xs d e)
