-- Bits as the first pass counts them: up to a bound beyond the octets that any length entry tells.
use Rattle.std.specs.Prelude.{ℕ, ◌+◌, ◌^◌, min, Bool, true, false, List, Result, Ok, Err}
use Rattle.eds_base.specs.declared.fault.Step.{Step}
use Rattle.eds_pack.specs.declared.fail.PackFail.{PackFail}
use Rattle.eds_pack.specs.Packs.{fail_at}
use Rattle.eds_types.specs.declared.reason.PackReason.{PackReason}
use Rattle.eds_types.specs.declared.row.Kind.{Kind}
use Rattle.eds_types.specs.declared.row.Kind.TheVariants as kind
use Rattle.eds_types.specs.Packing.{pack_fault_at, pack_fault_here}
use Rattle.eds_types.specs.PackedSizes.{Size}

-- a number of bits, or the bound where it is larger
abbrev pub capped : ℕ → ℕ
capped n = min n (2 ^ 100)

-- a size that is added to so many bits before it
abbrev pub added : ℕ → Size → Size
added before (Ok n) = Ok (capped (before + n))
added before (Err g) = Err g

-- the same size, counted
abbrev pub counted : Size → Size
counted (Ok n) = Ok (capped n)
counted (Err g) = Err g

-- nothing is nested in a value of the kind
abbrev pub is_flat : Kind → Bool
is_flat (kind.Int form spans) = true
is_flat (kind.Enum form listing) = true
is_flat (kind.Bool form) = true
is_flat (kind.Str form) = true
is_flat (kind.Bin n free) = true
is_flat (kind.Arr item n) = false
is_flat (kind.Con c) = false

-- the size of a value in which nothing is nested, or why it has none
abbrev pub at_once : Result ℕ PackReason → Size
at_once (Ok n) = Ok n
at_once (Err r) = Err (pack_fault_here r)

-- what a function found that leaves so many bits, or this path to a fault
abbrev pub found : {A : Type 0} → Result A PackReason → ℕ → List Step → Size
found (Ok u) bits path = Ok bits
found (Err r) bits path = Err (pack_fault_at r path)

-- what packing fails with
abbrev pub given : Size → Result ℕ PackFail
given (Ok n) = Ok n
given (Err g) = Err (fail_at g)

-- a size that a function found and counted, or this path to a fault
abbrev pub tallied : Result ℕ PackReason → List Step → Size
tallied (Ok n) path = Ok n
tallied (Err r) path = Err (pack_fault_at r path)
