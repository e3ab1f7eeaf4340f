-- What unpacking the text of a frame comes to.
use Rattle.std.specs.Prelude.{◌≡◌, ℕ, ◌≤◌, nat_le, List, [], ◌++◌, length, if◌then◌else◌, Result, Ok, Err, ◌⊎◌}
use Rattle.eds_base.specs.declared.fault.Step.{Step}
use Rattle.eds_base.specs.declared.fault.Reason.{Reason}
use Rattle.eds_base.specs.declared.fault.Reason.TheVariants.{Trailing}
use Rattle.eds_base.specs.Answering.{◌>>=◌, or_stop}
use Rattle.eds_bits.specs.Bits.{Bits, bits_of}
use Rattle.eds_types.specs.Failing.{FailsAt, fault_at}
use Rattle.eds_types.specs.Plain.{Plain}
use Rattle.eds_types.specs.Spelling.{Spells}
use Rattle.eds_value.specs.JsonOfValue.{json_text}
use Rattle.eds_cmd.specs.Limits.{frame_octets}
use Rattle.eds_cmd.specs.declared.status.Status.{Status}
use Rattle.eds_cmd.specs.declared.status.Status.TheVariants as statuses
use Rattle.eds_cmd.specs.declared.status.What.TheVariants.{Frame}
use Rattle.eds_cmd.specs.declared.stop.Stop.{Stop}
use Rattle.eds_cmd.specs.Hex.{hex_octets}
use Rattle.eds_cmd.specs.Reports.{bits_report}
use Rattle.eds_cmd.specs.Stops.{IsStop, bad_hex, frame_fault, limited}
use Rattle.eds_cmd.specs.Target.{TypeIn}

-- ---- the frame

-- the octets of a frame, which are no more than a frame may have
abbrev pub within_frame : List ℕ → Result (List ℕ) Stop
within_frame octets = if nat_le (length octets) frame_octets then Ok octets else Err (limited Frame frame_octets)

-- the octets of a frame's text
unfoldable pub frame_for : List ℕ → Result (List ℕ) Stop
frame_for text = or_stop bad_hex (hex_octets text) >>= within_frame

-- ---- its value

-- a front of the bits spells the value of the type, and the rest follows
pub record Begins (type : TypeIn) (value : Plain) (front rest bits : Bits) : Type 0 where
  pub split : bits ≡ front ++ rest
  pub spelled : Spells type.table type.id value front

-- a front of the bits spells the value, and at most 7 bits follow
pub record IsUnpacked (type : TypeIn) (bits : Bits) (status : Status) (report : List ℕ) : Type 0 where
  pub value : Plain
  pub front : Bits
  pub rest : Bits
  pub begins : Begins type value front rest bits
  pub few : length rest ≤ 7
  pub status_is : status ≡ statuses.Done
  pub report_is : report ≡ bits_report (json_text type.table value) (length front)

-- a front of the bits spells a value, and 8 bits or more follow
pub record IsTrailing (type : TypeIn) (bits : Bits) (status : Status) (report : List ℕ) : Type 0 where
  pub value : Plain
  pub front : Bits
  pub rest : Bits
  pub begins : Begins type value front rest bits
  pub many : 8 ≤ length rest
  pub stop : IsStop (frame_fault type.table Trailing []) status report

-- reading a value of the type fails, for this reason at this path
pub record IsFaulty (type : TypeIn) (bits : Bits) (status : Status) (report : List ℕ) : Type 0 where
  pub reason : Reason
  pub path : List Step
  pub fails : FailsAt type.table type.id bits (fault_at reason path)
  pub stop : IsStop (frame_fault type.table reason path) status report

-- unpacking the bits of a frame comes to this status and report
abbrev pub UnpacksBits : TypeIn → Bits → Status → List ℕ → Type 0
UnpacksBits type bits status report = IsUnpacked type bits status report ⊎ (IsTrailing type bits status report ⊎ IsFaulty type bits status report)

-- unpacking what the text of a frame gave comes to this status and report
abbrev pub UnpacksFrame : TypeIn → Result (List ℕ) Stop → Status → List ℕ → Type 0
UnpacksFrame type (Ok frame) status report = UnpacksBits type (bits_of frame) status report
UnpacksFrame type (Err stop) status report = IsStop stop status report

-- unpacking the text of a frame comes to this status and report
abbrev pub Unpacks : TypeIn → List ℕ → Status → List ℕ → Type 0
Unpacks type text status report = UnpacksFrame type (frame_for text) status report
