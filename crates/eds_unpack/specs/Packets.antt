-- Packets, one after another in octets.
use Rattle.std.specs.Prelude.{◌≡◌, ℕ, ◌≤◌, List, [], ◌∷◌, ◌++◌, length}
use Rattle.eds_bits.specs.Bits.{Bits, bits_of}
use Rattle.eds_types.specs.Plain.{Plain}
use Rattle.eds_types.specs.Rows.{Table}
use Rattle.eds_types.specs.Spelling.{Spells}

-- what packets are told by: their type, in a table, and how many octets a packet has at most
pub record Framing : Type 0 where
  pub table : Table
  pub id : ℕ
  pub most : ℕ

-- a value, and its size in bits
pub record Packet : Type 0 where
  pub value : Plain
  pub size : ℕ

-- the bits of the octets are a spelling of the packet's value, followed by at most 7 bits of any kind
pub record IsPacket (k : Framing) (p : Packet) (octets : List ℕ) : Type 0 where
  pub within : length octets ≤ k.most
  pub spelling : Bits
  pub fill : Bits
  pub bits : bits_of octets ≡ spelling ++ fill
  pub spelled : Spells k.table k.id p.value spelling
  pub size : length spelling ≡ p.size
  pub few : length fill ≤ 7

-- the octets are the packets, one after the other
abbrev pub AreCut : Framing → List Packet → List ℕ → Type 0
AreCut k [] octets = octets ≡ []
AreCut k (p ∷ ps) octets = (front : List ℕ) × (rest : List ℕ) × (octets ≡ front ++ rest) × IsPacket k p front × AreCut k ps rest
