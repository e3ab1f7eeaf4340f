-- What packing the text of a value comes to.
use Rattle.std.specs.Prelude.{◌≡◌, ℕ, ◌≤◌, List, length, Result, Ok, Err, ◌⊎◌}
use Rattle.hex.specs.Hex.{encode_lower}
use Rattle.eds_base.specs.declared.fault.Step.{Step}
use Rattle.eds_bits.specs.Bits.{Bits, octets_of}
use Rattle.eds_types.specs.declared.reason.PackReason.{PackReason}
use Rattle.eds_types.specs.Packing.{PackFailsAt, most_bits, pack_fault_at}
use Rattle.eds_types.specs.Plain.{Plain}
use Rattle.eds_types.specs.Spelling.{Canon}
use Rattle.eds_value.specs.declared.fail.ValueFail.{ValueFail}
use Rattle.eds_value.specs.Json.{value_in}
use Rattle.eds_cmd.specs.declared.status.Status.{Status}
use Rattle.eds_cmd.specs.declared.status.Status.TheVariants as statuses
use Rattle.eds_cmd.specs.Reports.{bits_report}
use Rattle.eds_cmd.specs.Stops.{IsStop, pack_fault, value_fault}
use Rattle.eds_cmd.specs.Target.{TypeIn}

-- the octets in lower-case hex, the last filled with zeros, and the number of bits
abbrev pub packed_report : Bits → List ℕ
packed_report bits = bits_report (encode_lower (octets_of bits)) (length bits)

-- the value has a canonical spelling, which isn't too long
pub record IsPacked (type : TypeIn) (value : Plain) (status : Status) (report : List ℕ) : Type 0 where
  pub bits : Bits
  pub canonical : Canon type.table type.id value bits
  pub within : length bits ≤ most_bits
  pub status_is : status ≡ statuses.Done
  pub report_is : report ≡ packed_report bits

-- packing the value fails, for this reason at this path
pub record IsUnfit (type : TypeIn) (value : Plain) (status : Status) (report : List ℕ) : Type 0 where
  pub reason : PackReason
  pub path : List Step
  pub fails : PackFailsAt type.table type.id value (pack_fault_at reason path)
  pub stop : IsStop (pack_fault type.table reason path) status report

-- packing a value comes to this status and report
abbrev pub PacksValue : TypeIn → Plain → Status → List ℕ → Type 0
PacksValue type value status report = IsPacked type value status report ⊎ IsUnfit type value status report

-- packing what the text of a value gave comes to this status and report
abbrev pub PacksGiven : TypeIn → Result Plain ValueFail → Status → List ℕ → Type 0
PacksGiven type (Ok value) status report = PacksValue type value status report
PacksGiven type (Err fail) status report = IsStop (value_fault type.table fail) status report

-- packing the text of a value comes to this status and report
abbrev pub Packs : TypeIn → List ℕ → Status → List ℕ → Type 0
Packs type text status report = PacksGiven type (value_in type.table type.id text) status report
