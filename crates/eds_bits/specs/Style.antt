-- How free a spelling is.
use Rattle.std.specs.Prelude.{Bool, not}
use Rattle.std.specs.List.{list_all}
use Rattle.eds_bits.specs.Bits.{Bits}

-- any spelling of a value, or the canonical one, which a packer writes
pub data Style : Type 0 where
  any canonical : Style

-- a fact that only the canonical spelling has to meet
abbrev pub IfCanonical : Style → Type 0 → Type 0
IfCanonical any P = Unit {0}
IfCanonical canonical P = P

-- all bits are 0
abbrev pub is_zero : Bits → Bool
is_zero bs = list_all not bs
