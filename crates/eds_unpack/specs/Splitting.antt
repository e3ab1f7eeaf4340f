-- What a splitter holds, and what its calls do to it.
use Rattle.std.specs.Prelude.{◌≡◌, ◌≢◌, ℕ, ◌+◌, ◌*◌, ◌<◌, ◌≤◌, List, [], ◌++◌, length, take, ◌⊎◌}
use Rattle.eds_base.specs.declared.fault.Fault.{Fault}
use Rattle.eds_base.specs.declared.fault.Reason.TheVariants.{Short, TooLong}
use Rattle.eds_bits.specs.Bits.{bits_of}
use Rattle.eds_types.specs.Failing.{FailsAt, fault_here}
use Rattle.eds_types.specs.Overlap.{IsClear}
use Rattle.eds_types.specs.Plain.{Plain}
use Rattle.eds_types.specs.Rules.{KeepsRules}
use Rattle.eds_types.specs.Spelling.{Spells}
use Rattle.eds_unpack.specs.Packets.{Framing, Packet, IsPacket}

-- what packets are told by, and the octets that are held
pub record Splitting : Type 0 where
  pub framing : Framing
  pub held : List ℕ

-- the same splitter with other octets
abbrev pub holding : Splitting → List ℕ → Splitting
holding s octets = record { framing = s.framing; held = octets }

-- the type is there and clear, no value of it is spelled by no bits, and a packet has an octet at least
pub record IsFraming (k : Framing) : Type 0 where
  pub rules : KeepsRules k.table
  pub there : k.id < length k.table
  pub clear : IsClear k.table k.id
  pub some_bits : (v : Plain) → Spells k.table k.id v [] → ⊥
  pub least : 1 ≤ k.most

-- a splitter is ready for such packets: none has more than 65,536 octets, and there is room for twice as many as one may
-- have
pub record IsReady (k : Framing) (size : ℕ) : Type 0 where
  pub framing : IsFraming k
  pub most : k.most ≤ 65536
  pub room : size ≡ 2 * k.most

-- ---- what begins with no packet

-- reading the octets, or the first of them where more are held than a packet may have, fails with this fault
abbrev pub FailsIn : Framing → List ℕ → Fault → Type 0
FailsIn k octets g = FailsAt k.table k.id (bits_of (take k.most octets)) g

-- bits are missing, and there are fewer octets than a packet may have
pub record WantsMore (k : Framing) (octets : List ℕ) : Type 0 where
  pub fault : Fault
  pub fails : FailsIn k octets fault
  pub short : fault.reason ≡ Short
  pub few : length octets < k.most

-- bits are missing, and there are as many octets as a packet may have
pub record IsTooLong (k : Framing) (octets : List ℕ) : Type 0 where
  pub fault : Fault
  pub fails : FailsIn k octets fault
  pub short : fault.reason ≡ Short
  pub many : k.most ≤ length octets

-- the fault at the front of the octets: one that more octets don't mend
abbrev pub IsRefused : Framing → List ℕ → Fault → Type 0
IsRefused k octets g = (FailsIn k octets g × (g.reason ≢ Short)) ⊎ (IsTooLong k octets × (g ≡ fault_here TooLong))

-- ---- calls

-- what taking a packet answers
pub data Answer : Type 0 where
  packet : Packet → Answer
  more : Answer
  refused : Fault → Answer

-- a packet stands at the front of the octets, and the rest is left
pub record BeginsWith (k : Framing) (p : Packet) (octets rest : List ℕ) : Type 0 where
  pub front : List ℕ
  pub is : octets ≡ front ++ rest
  pub spelled : IsPacket k p front

-- taking gives this answer, and leaves this splitter: a packet goes with its octets, and otherwise nothing changes
abbrev pub Takes : Splitting → Answer → Splitting → Type 0
Takes s (packet p) u = BeginsWith s.framing p s.held u.held × (u.framing ≡ s.framing)
Takes s more u = WantsMore s.framing s.held × (u ≡ s)
Takes s (refused g) u = IsRefused s.framing s.held g × (u ≡ s)

-- a piece is put behind the octets that are held, where both are at most twice as many as a packet may have
pub record Feeds (s : Splitting) (piece : List ℕ) (u : Splitting) : Type 0 where
  pub room : length s.held + length piece ≤ 2 * s.framing.most
  pub is : u ≡ holding s (s.held ++ piece)
