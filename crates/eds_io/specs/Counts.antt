-- Counts, which are kept in 64 bits.
use Rattle.std.specs.Prelude.{ℕ, ◌+◌, ◌-◌, ◌^◌, ◌<◌, ◌≤◌, nat_lt, if◌then◌else◌, ◌⊎◌}

-- a count that was `before` has risen to `now`, or stands at its end, past which it can't rise
abbrev pub HasRisen : ℕ → ℕ → Type 0
HasRisen before now = (before < now) ⊎ (2 ^ 64 - 1 ≤ now)

-- one more, but never past the end
abbrev pub counted : ℕ → ℕ
counted count = if nat_lt count (2 ^ 64 - 1) then count + 1 else count
