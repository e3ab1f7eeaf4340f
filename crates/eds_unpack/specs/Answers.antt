-- What unpacking answers: a value and its size in bits, a fault, or that memory ran out.
use Rattle.std.specs.Prelude.{◌≡◌, ℕ, Result, Ok, Err}
use Rattle.eds_base.specs.declared.fail.Fail.{Fail}
use Rattle.eds_base.specs.declared.fail.Fail.TheVariants.{Named, Memory}
use Rattle.eds_base.specs.declared.fault.Fault.{Fault}
use Rattle.eds_base.specs.declared.fault.Reason.{Reason}
use Rattle.eds_base.specs.declared.fault.Reason.TheVariants.{Short, OutOfRange, NoLabel, BadDigit, BadText, Unterminated, FixedDiffers, Constraint, NoDerived, LengthDiffers, CheckDiffers, TooLong, Trailing}
use Rattle.eds_base.specs.declared.ids.TypeId.{TypeId}
use Rattle.eds_types.specs.declared.value.Value.{Value}
use Rattle.eds_types.specs.Plain.{Plain, plain}

-- ---- one value

-- nothing but want of memory stopped it
abbrev pub IsMemory : Fail Fault → Type 0
IsMemory (Named fault) = ⊥
IsMemory Memory = Unit {0}

-- the answer is this value of so many bits, unless memory ran out
abbrev pub IsValue : Plain → ℕ → Result (Value × ℕ) (Fail Fault) → Type 0
IsValue v n (Ok x) = (plain x.0 ≡ v) × (x.1 ≡ n)
IsValue v n (Err stop) = IsMemory stop

-- ---- one fault

-- a call stopped with this fault
abbrev pub StopsAt : Fault → Fail Fault → Type 0
StopsAt g (Named fault) = fault ≡ g
StopsAt g Memory = Unit {0}

-- the answer is this fault, unless memory ran out
abbrev pub IsFault : Fault → Result (Value × ℕ) (Fail Fault) → Type 0
IsFault g (Ok x) = ⊥
IsFault g (Err stop) = StopsAt g stop

-- something holds of the fault that a call stopped with
abbrev pub IfNamed : (Fault → Type 0) → Fail Fault → Type 0
IfNamed P (Named fault) = P fault
IfNamed P Memory = Unit {0}

-- where the answer is a fault, P holds of it
abbrev pub IfFault : (Fault → Type 0) → Result (Value × ℕ) (Fail Fault) → Type 0
IfFault P (Ok x) = Unit {0}
IfFault P (Err stop) = IfNamed P stop

-- ---- containers

-- the answer is the container of this number, of so many bits
abbrev pub IsRecognised : ℕ → ℕ → Result (TypeId × ℕ) Fault → Type 0
IsRecognised k n (Ok x) = ((x.0).0 ≡ k) × (x.1 ≡ n)
IsRecognised k n (Err fault) = ⊥

-- the answer is this fault
abbrev pub IsOnlyFault : Fault → Result (TypeId × ℕ) Fault → Type 0
IsOnlyFault g (Ok x) = ⊥
IsOnlyFault g (Err fault) = fault ≡ g

-- ---- reasons

-- the reasons for which reading fails: bits that follow a value, or a longer packet, are no fault of the value
abbrev pub IsOfReading : Reason → Type 0
IsOfReading Short = Unit {0}
IsOfReading OutOfRange = Unit {0}
IsOfReading NoLabel = Unit {0}
IsOfReading BadDigit = Unit {0}
IsOfReading BadText = Unit {0}
IsOfReading Unterminated = Unit {0}
IsOfReading FixedDiffers = Unit {0}
IsOfReading Constraint = Unit {0}
IsOfReading NoDerived = Unit {0}
IsOfReading LengthDiffers = Unit {0}
IsOfReading CheckDiffers = Unit {0}
IsOfReading TooLong = ⊥
IsOfReading Trailing = ⊥
