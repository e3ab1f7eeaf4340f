-- Sets of whole numbers, as intervals.
use Rattle.std.specs.Prelude.{ℤ, pos, ◌+ℤ◌, ◌≤ℤ◌, ◌^◌, List, [], ◌∷◌, ◌⊎◌}
use Rattle.std.proofs.Math.IntN.{neg_ℤ}
use Rattle.eds_base.specs.declared.spans.Span.{Span}

-- the least number that a set may hold
abbrev pub bottom : ℤ
bottom = neg_ℤ (pos (2 ^ 64))

-- the greatest number that a set may hold
abbrev pub top : ℤ
top = pos (2 ^ 64)

-- the number lies in this interval, whose ends are in it
abbrev pub Lies : Span → ℤ → Type 0
Lies s n = (s.low ≤ℤ n) × (n ≤ℤ s.high)

-- the number lies in one of the intervals
abbrev pub IsWithin : List Span → ℤ → Type 0
IsWithin [] n = ⊥
IsWithin (s ∷ rest) n = Lies s n ⊎ IsWithin rest n

-- the intervals begin at the floor or above it, none is empty or passes the greatest number, and each leaves out
-- at least one number before the next begins
abbrev pub RisesFrom : ℤ → List Span → Type 0
RisesFrom floor [] = Unit {0}
RisesFrom floor (s ∷ rest) = (floor ≤ℤ s.low) × (s.low ≤ℤ s.high) × (s.high ≤ℤ top) × RisesFrom (s.high +ℤ pos 2) rest

-- the intervals rise, apart from each other, between the least and the greatest number
abbrev pub Rises : List Span → Type 0
Rises spans = RisesFrom bottom spans

-- the second set has the numbers of the first, and those that lie in both intervals
pub record Takes (one two : Span) (old new : List Span) : Type 0 where
  pub kept : (n : ℤ) → IsWithin old n → IsWithin new n
  pub added : (n : ℤ) → Lies one n → Lies two n → IsWithin new n
  pub no_others : (n : ℤ) → IsWithin new n → IsWithin old n ⊎ (Lies one n × Lies two n)
