-- What cutting octets into packets comes to.
use Rattle.std.specs.Prelude.{◌≡◌, ◌≤◌, ◌<◌, ℕ, ◌+◌, nat_le, List, [], ◌∷◌, ◌++◌, length, drop, codes, decimal, if◌then◌else◌, ◌&&◌, ⊤, ◌⊎◌}
use Rattle.eds_base.specs.declared.fail.Fail.{Fail}
use Rattle.eds_base.specs.declared.fail.Fail.TheVariants as fails
use Rattle.eds_base.specs.declared.fault.Fault.{Fault}
use Rattle.eds_base.specs.declared.fault.Reason.{Reason}
use Rattle.eds_base.specs.declared.fault.Reason.TheVariants.{TooLong}
use Rattle.eds_base.specs.declared.fault.Step.{Step}
use Rattle.eds_types.specs.Failing.{fault_at, fault_here}
use Rattle.eds_types.specs.Plain.{Plain}
use Rattle.eds_types.specs.Rows.{Table}
use Rattle.eds_unpack.specs.Packets.{AreCut, Framing, Packet}
use Rattle.eds_unpack.specs.Pieces.{IsCutUpTo, IsLastFault}
use Rattle.eds_unpack.specs.Split.{is_short}
use Rattle.eds_unpack.specs.Splitting.{BeginsWith}
use Rattle.eds_value.specs.JsonOfValue.{json_text}
use Rattle.eds_cmd.specs.Limits.{packet_octets, report_octets}
use Rattle.eds_cmd.specs.declared.status.Status.{Status}
use Rattle.eds_cmd.specs.declared.status.Status.TheVariants as statuses
use Rattle.eds_cmd.specs.Stops.{IsStop, packet_fault}
use Rattle.eds_cmd.specs.Target.{TypeIn}

-- packets of the type, each of no more octets than a packet may have
abbrev pub framing_of : TypeIn → Framing
framing_of type = record { table = type.table; id = type.id; most = packet_octets }

-- the fault of a packet, where reading so many octets from its front on fails so: too few bits in as many octets as a packet may
-- have are too long a packet
abbrev pub packet_failure : Fault → (octets : ℕ) → Fault
packet_failure fault octets = if is_short fault.reason && nat_le packet_octets octets then fault_here TooLong else fault

-- a failure is a fault for which no packet can be read, or want of memory
abbrev pub FailsFor : TypeIn → (octets : List ℕ) → Fail Fault → Type 0
FailsFor type octets (fails.Named fault) = IsLastFault (framing_of type) octets fault
FailsFor type octets fails.Memory = ⊤

-- so many octets at the front, one at least, are a packet of the value
pub record HoldsPacket (type : TypeIn) (value : Plain) (octets : List ℕ) (size : ℕ) : Type 0 where
  pub bits : ℕ
  pub begins : BeginsWith (framing_of type) (record { value = value; size = bits }) octets (drop size octets)
  pub some : 1 ≤ size
  pub within : size ≤ length octets

-- so many octets at the front are a packet, and a line of JSON for its value is put behind a text
pub record PutsLine (type : TypeIn) (octets : List ℕ) (size : ℕ) (old new : List ℕ) : Type 0 where
  pub value : Plain
  pub holds : HoldsPacket type value octets size
  pub line : new ≡ old ++ (json_text type.table value ++ codes "\n")

-- so many octets at the front are a packet, and a line of JSON for its value is put behind a text, or left out where the text is
-- already longer than a report may be
pub record TakesPacket (type : TypeIn) (octets : List ℕ) (size : ℕ) (old new : List ℕ) : Type 0 where
  pub value : Plain
  pub holds : HoldsPacket type value octets size
  pub line : (new ≡ old ++ (json_text type.table value ++ codes "\n")) ⊎ ((report_octets < length old) × (new ≡ old))

-- ---- the report

-- a line of JSON for the value of each packet
abbrev pub packet_lines : Table → List Packet → List ℕ
packet_lines t [] = []
packet_lines t (p ∷ ps) = (json_text t p.value ++ codes "\n") ++ packet_lines t ps

-- `packets P octets N`
abbrev pub packets_line : (packets octets : ℕ) → List ℕ
packets_line packets octets = codes "packets " ++ decimal packets ++ codes " octets " ++ decimal octets ++ codes "\n"

-- the octets are packets, one after the other
pub record IsWhole (type : TypeIn) (octets : List ℕ) (status : Status) (report : List ℕ) : Type 0 where
  pub packets : List Packet
  pub cut : AreCut (framing_of type) packets octets
  pub status_is : status ≡ statuses.Done
  pub report_is : report ≡ packet_lines type.table packets ++ packets_line (length packets) (length octets)

-- the octets are packets up to one that can't be read
pub record IsCutOff (type : TypeIn) (octets : List ℕ) (status : Status) (report : List ℕ) : Type 0 where
  pub packets : List Packet
  pub reason : Reason
  pub path : List Step
  pub cut : IsCutUpTo (framing_of type) octets packets (fault_at reason path)
  pub stop : IsStop (packet_fault type.table (length packets + 1) reason path) status report

-- cutting octets into packets comes to this status and report
abbrev pub Splits : TypeIn → List ℕ → Status → List ℕ → Type 0
Splits type octets status report = IsWhole type octets status report ⊎ IsCutOff type octets status report
