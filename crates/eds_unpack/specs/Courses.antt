-- How far the reader of a container has come.
use Rattle.eds_base.specs.declared.fault.Fault.{Fault}
use Rattle.eds_base.specs.declared.ids.TypeId.{TypeId}
use Rattle.std.specs.Prelude.{◌≡◌, ℕ, zero, suc, ◌+◌, ◌^◌, ◌≤◌, ℤ, nat_abs, ◌+ℤ◌, ◌*ℤ◌, List, [], ◌∷◌, ◌++◌, length, map, Option, Some, Result, Ok, IfSome}
use Rattle.eds_bits.specs.Bits.{Bits}
use Rattle.eds_bits.specs.Reader.{bits_left}
use Rattle.eds_types.specs.Fields.{Field, field_at}
use Rattle.eds_types.specs.Plain.{Plain, plain}
use Rattle.eds_types.specs.Reading.{◌>>=◌, front, number_in}
use Rattle.eds_types.specs.Spelling.{Progress}
use Rattle.eds_unpack.specs.declared.fields.ReadFields.{ReadFields}
use Rattle.eds_unpack.specs.declared.progress.Reached.{Reached}

-- ---- bits

-- some bits were passed, and the rest is left
abbrev pub MovesOn : Bits → Bits → Type 0
MovesOn b rest = (c : Bits) × (b ≡ c ++ rest)

-- ---- fields

-- values, each with the part that holds it
abbrev pub fields_at : List (TypeId × ℕ) → List Plain → List Field
fields_at [] vs = []
fields_at (p ∷ ps) [] = []
fields_at (p ∷ ps) (v ∷ vs) = field_at (p.0).0 p.1 v ∷ fields_at ps vs

-- all fields that were read
abbrev pub fields_of : ReadFields → List Field
fields_of r = fields_at r.parts.items (map plain r.values.items)

-- each value that was read has the part that holds it
abbrev pub AreHeld : ReadFields → Type 0
AreHeld r = length r.parts.items ≡ length r.values.items

-- so many parts of a container from a place on
abbrev pub parts_from : TypeId → ℕ → ℕ → List (TypeId × ℕ)
parts_from id i zero = []
parts_from id i (suc k) = (id, i) ∷ parts_from id (i + 1) k

-- ---- containers

-- the fields so far, the bits of the container before those that are left, and what its length entry tells
abbrev pub progress_of : Reached → Bits → Progress
progress_of r b = record { fields = fields_of r.fields; before = front (bits_left r.start) b; octets = r.octets }

-- the container begins with bits that were passed, its values have parts, and its length entry tells a number that fits
pub record IsUnderWay (r : Reached) (b : Bits) : Type 0 where
  pub begun : MovesOn (bits_left r.start) b
  pub held : AreHeld r.fields
  pub told : IfSome r.octets (λ n. nat_abs n ≤ 2 ^ 97)

-- how many octets a length entry with this value tells
abbrev pub told_by : ℤ → ℤ → Plain → Result (Option ℤ) Fault
told_by c0 c1 v = number_in v >>= λ n. Ok (Some (c0 +ℤ (c1 *ℤ n)))
