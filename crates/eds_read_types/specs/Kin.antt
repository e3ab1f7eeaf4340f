-- Types that are bases of one another, and marks of types.
use Rattle.std.specs.Prelude.{◌≡◌, ℕ, ◌<◌, List, length, Bool, true, not, ◌&&◌, ◌||◌, ◌==◌}
use Rattle.std.specs.List.{list_any, range_with_len}
use Rattle.eds_graph.specs.Reaching.{mark}
use Rattle.eds_types.specs.Rows.{Table, chain, list_has, numbers}

-- there are n marks, and each says whether a test holds of its number
pub record AreMarks (n : ℕ) (test : ℕ → Bool) (marks : List Bool) : Type 0 where
  pub long : length marks ≡ n
  pub told : (k : ℕ) → k < n → mark marks k ≡ test k

-- a type is a base of another; where `own` is true, also that one itself
abbrev pub is_over : Table → (own : Bool) → (other id : ℕ) → Bool
is_over t own other id = list_has (chain t other) id && (own || not (other == id))

-- a type that derives from this one passes a test; where `own` is true, also this one itself
abbrev pub passes_under : Table → (own : Bool) → (ℕ → Bool) → ℕ → Bool
passes_under t own test id = list_any (λ k. test k && is_over t own k id) (numbers t)

-- a type passes a test, or one of its bases, or one that derives from it
abbrev pub passes_near : Table → (ℕ → Bool) → ℕ → Bool
passes_near t test id = list_any test (chain t id) || passes_under t true test id

-- marks of the types from which one of the first n types derives that is marked among others, or, where that counts, which is one
abbrev pub AreOver : Table → (own : Bool) → (given : List Bool) → (n : ℕ) → List Bool → Type 0
AreOver t own given n marks = AreMarks (length t) (λ k. list_any (λ c. mark given c && is_over t own c k) (range_with_len 0 n)) marks
