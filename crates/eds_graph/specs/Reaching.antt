-- A search with marks of what is reached from given numbers.
use Rattle.std.specs.Prelude.{◌≡◌, ◌≤◌, ℕ, suc, ◌+◌, List, [], ◌∷◌, length, Bool, true, false, slice_get, unwrap_or, ◌⊎◌}
use Rattle.eds_graph.specs.Search.{Has}
use Rattle.eds_graph.specs.Ways.{children, is_reached}

-- a number is marked
abbrev pub mark : List Bool → ℕ → Bool
mark marks a = unwrap_or (slice_get marks a) false

-- a number is marked, or it waits, or there is no such number
abbrev pub IsNoted : List Bool → List ℕ → ℕ → Type 0
IsNoted marks waiting a = (mark marks a ≡ true) ⊎ (Has waiting a ⊎ (length marks ≤ a))

-- What is marked or waits is reached; the numbers that were given, and all that a marked one leads to, are marked or wait.
pub record Reaching (g : List (List ℕ)) (from : List ℕ) (marks : List Bool) (waiting : List ℕ) : Type 0 where
  pub long : length marks ≡ length g
  pub marked : (a : ℕ) → mark marks a ≡ true → is_reached g from a ≡ true
  pub waits : (a : ℕ) → Has waiting a → is_reached g from a ≡ true
  pub given : (a : ℕ) → Has from a → IsNoted marks waiting a
  pub closed : (a b : ℕ) → mark marks a ≡ true → Has (children g a) b → IsNoted marks waiting b

-- how many numbers may still come to wait
abbrev pub unmarked : List (List ℕ) → List Bool → ℕ
unmarked [] marks = 0
unmarked (l ∷ ls) [] = 0
unmarked (l ∷ ls) (true ∷ marks) = unmarked ls marks
unmarked (l ∷ ls) (false ∷ marks) = suc (length l) + unmarked ls marks
