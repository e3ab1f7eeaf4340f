-- Reading numbers, and what a container's parts are read by.
use Rattle.eds_base.specs.declared.fault.Fault.{Fault}
use Rattle.std.specs.Prelude.{◌≡◌, ℕ, ◌<◌, ℤ, Option, Some, None, Result, Ok, Err, length}
use Rattle.eds_base.specs.declared.fault.Reason.{Reason}
use Rattle.eds_base.specs.declared.fault.Reason.TheVariants as reason
use Rattle.eds_bits.specs.declared.forms.IntForm.{IntForm}
use Rattle.eds_bits.specs.Bits.{Bits}
use Rattle.eds_bits.specs.IntForms.{number_of}
use Rattle.eds_codec.specs.declared.text.TextFault.{TextFault}
use Rattle.eds_codec.specs.declared.text.TextFault.TheVariants as fault
use Rattle.eds_types.specs.declared.row.Part.{Part}
use Rattle.eds_types.specs.declared.row.Part.TheVariants as part
use Rattle.eds_types.specs.Failing.{fault_here}
use Rattle.eds_types.specs.Fields.{type_by}
use Rattle.eds_types.specs.Reading.{Read, judge, read_bits}
use Rattle.eds_types.specs.Rows.{Table, Placed}
use Rattle.eds_types.specs.Rules.{KeepsRules, IsInt, IsScale}

-- ---- scalars and texts

-- a number, whose digits are all below ten
abbrev pub decimal : Option ℤ → Result ℤ Fault
decimal None = Err (fault_here reason.BadDigit)
decimal (Some n) = Ok n

-- the number of the form, before its domain is judged
abbrev pub read_number : IntForm → Bits → Read ℤ
read_number form b = judge (λ c. decimal (number_of form c)) (read_bits form.bits b)

-- the reason for which no text is read
abbrev pub reason_of : TextFault → Reason
reason_of fault.Short = reason.Short
reason_of fault.BadText = reason.BadText
reason_of fault.Unterminated = reason.Unterminated

-- ---- what is nested

-- fewer than n types are nested in each other under the type
pub record IsLow (t : Table) (n id : ℕ) : Type 0 where
  pub rules : KeepsRules t
  pub low : rules.rank id < n

-- and the type is there
pub record IsInner (t : Table) (n id : ℕ) : Type 0 where
  pub there : id < length t
  pub low : IsLow t n id

-- a length entry has a number of an integer type, and coefficients in range; of other parts nothing is asked
abbrev pub LengthIsRead : Table → Part → Type 0
LengthIsRead t (part.Plain name id) = Unit {0}
LengthIsRead t (part.Fixed name id v) = Unit {0}
LengthIsRead t (part.Pad n) = Unit {0}
LengthIsRead t (part.List name id y i) = Unit {0}
LengthIsRead t (part.Length name id c0 c1) = IsInt t id.0 (λ form spans. Unit {0}) × IsScale c0 c1
LengthIsRead t (part.Check name id k) = Unit {0}

-- a part's type is there, with fewer than n types nested under it, and a length entry is as it must be
pub record PartIsRead (t : Table) (n : ℕ) (p : Part) : Type 0 where
  pub inner : (id : ℕ) → type_by (Some p) ≡ Some id → IsInner t n id
  pub length : LengthIsRead t p

-- the part at a place of a container
abbrev pub placed : ℕ → ℕ → Part → Placed
placed y i p = record { container = y; place = i; part = p }
