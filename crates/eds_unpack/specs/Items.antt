-- Items of a scalar type, one right behind the other.
use Rattle.std.specs.Prelude.{◌≡◌, ℕ, List, [], ◌∷◌, Result, Ok, take, drop}
use Rattle.eds_base.specs.declared.fault.Fault.{Fault}
use Rattle.eds_bits.specs.Bits.{Bits}
use Rattle.eds_types.specs.Plain.{Plain}
use Rattle.eds_types.specs.Reading.{read_items, read_within}
use Rattle.eds_types.specs.Rows.{Table}
use Rattle.eds_unpack.specs.Entries.{IsInner}

-- these are the values of the bits, of which each has n
abbrev pub AreItems : (Bits → Result Plain Fault) → ℕ → Bits → List Plain → Type 0
AreItems value n b [] = Unit {0}
AreItems value n b (v ∷ vs) = (value (take n b) ≡ Ok v) × AreItems value n (drop n b) vs

-- so many items of the type are read as these values, before the rest, wherever they are nested
abbrev pub ItemsReadAs : Table → ℕ → ℕ → Bits → List Plain → Bits → Type 0
ItemsReadAs t id count b vs rest = (n : ℕ) → IsInner t n id → read_items (read_within n t id) count 0 b ≡ Ok (vs, rest)
