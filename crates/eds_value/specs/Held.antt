-- The numbers that JSON holds.
use Rattle.std.specs.Prelude.{◌-◌, ◌^◌, pos, ◌≤ℤ◌, neg_ℤ}
use Rattle.eds_types.specs.Plain.{Plain, num, label, truth, text, bits, items, fields, Plains, none, more}

abbrev mutual
  -- JSON holds whole numbers of 64 bits, with or without a sign, and the value's numbers are such
  pub AreHeld : Plain → Type 0
  AreHeld (num n) = (neg_ℤ (pos (2 ^ 63)) ≤ℤ n) × (n ≤ℤ pos (2 ^ 64 - 1))
  AreHeld (label l) = Unit {0}
  AreHeld (truth b) = Unit {0}
  AreHeld (text s) = Unit {0}
  AreHeld (bits n o) = Unit {0}
  AreHeld (items vs) = AllHeld vs
  AreHeld (fields k vs) = AllHeld vs

  pub AllHeld : Plains → Type 0
  AllHeld none = Unit {0}
  AllHeld (more v vs) = AreHeld v × AllHeld vs
