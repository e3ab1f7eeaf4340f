-- The tables of the cyclic redundancy checks.
use Rattle.std.specs.Prelude.{ℕ, ◌+◌, ◌*◌, ◌++◌, false, length, replicate}
use Rattle.eds_bits.specs.Bits.{Bits, low_bits, unsigned_of}
use Rattle.eds_bits.specs.Scalars.{remainder}

-- the remainder of an octet with zeros behind it, as many as the divisor has coefficients
abbrev pub octet_remainder : Bits → ℕ → ℕ
octet_remainder divisor o = unsigned_of (remainder divisor 8 (low_bits 8 o ++ replicate (length divisor) false))

-- the same, with so many octets of zeros between
abbrev pub octet_remainder_before : Bits → ℕ → ℕ → ℕ
octet_remainder_before divisor n o = unsigned_of (remainder divisor (8 + 8 * n) (low_bits 8 o ++ replicate (8 * n + length divisor) false))
