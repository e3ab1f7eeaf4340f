-- The ranges of numbers (CCSDS 876.0-B, ranges of numbers), and the numbers that they admit.
use Rattle.std.specs.Prelude.{ℤ, ◌≤ℤ◌, ◌<ℤ◌}
use Rattle.eds_domains.specs.declared.range.End.{End}
use Rattle.eds_domains.specs.declared.range.End.TheVariants.{Open, Inclusive, Exclusive}
use Rattle.eds_domains.specs.declared.range.Range.{Range}

-- the number is not below the lower end
abbrev pub IsFrom : End → ℤ → Type 0
IsFrom Open n = Unit {0}
IsFrom (Inclusive low) n = low ≤ℤ n
IsFrom (Exclusive low) n = low <ℤ n

-- the number is not above the upper end
abbrev pub IsTo : End → ℤ → Type 0
IsTo Open n = Unit {0}
IsTo (Inclusive high) n = n ≤ℤ high
IsTo (Exclusive high) n = n <ℤ high

-- the range admits the number
pub record Admits (range : Range) (n : ℤ) : Type 0 where
  pub from_low : IsFrom range.low n
  pub to_high : IsTo range.high n

-- any number
abbrev pub no_range : Range
no_range = record { low = Open; high = Open }
