-- What the parts of the reader give, where memory may run out.
use Rattle.std.specs.Prelude.{◌≡◌, ℕ, ◌-◌, List, length, Result, Ok, Err}
use Rattle.eds_base.specs.declared.fail.Fail.{Fail}
use Rattle.eds_base.specs.declared.fail.Fail.TheVariants.{Named, Memory}
use Rattle.eds_base.specs.declared.fault.Fault.{Fault}
use Rattle.eds_base.specs.declared.fault.Reason.{Reason}
use Rattle.eds_base.specs.declared.fault.Step.{Step}
use Rattle.eds_bits.specs.Bits.{Bits}
use Rattle.eds_types.specs.Plain.{Plain}
use Rattle.eds_types.specs.Reading.{Read}
use Rattle.eds_unpack.specs.Answers.{IsOfReading}

-- a call that stopped with a fault has that fault to read
abbrev pub Stops : {Y : Type 0} → Fail Fault → Result Y Fault → Type 0
Stops (Named fault) read = read ≡ Err fault
Stops Memory read = Unit {0}

-- what a function returned, seen by view, is what reading gives, unless memory ran out
abbrev pub Gives : {X Y : Type 0} → (X → Y) → Result X (Fail Fault) → Result Y Fault → Type 0
Gives view (Ok x) read = read ≡ Ok (view x)
Gives view (Err e) read = Stops e read

-- what stopped a function, with the path of the fault that it named
abbrev pub stop_at : List Step → Fail Reason → Fail Fault
stop_at path (Named reason) = Named (record { reason = reason; path = path })
stop_at path Memory = Memory

-- what a function returned, with the path of its fault
abbrev pub with_path : {X : Type 0} → List Step → Result X (Fail Reason) → Result X (Fail Fault)
with_path path (Ok x) = Ok x
with_path path (Err stop) = Err (stop_at path stop)

-- what stops reading: a reason of reading, or want of memory
abbrev pub StopsReading : Fail Reason → Type 0
StopsReading (Named reason) = IsOfReading reason
StopsReading Memory = Unit {0}

-- the value that is read, with its size in place of the bits that are left
abbrev pub sized : Bits → Read Plain → Result (Plain × ℕ) Fault
sized b (Ok x) = Ok (x.0, length b - length x.1)
sized b (Err g) = Err g

-- the bits that are left, where what is read has no value
abbrev pub passed : {A : Type 0} → Read A → Result Bits Fault
passed (Ok x) = Ok x.1
passed (Err g) = Err g
