-- Octets that are handed to a splitter in pieces: what they are cut into depends on all of them, and not on the pieces.
use Rattle.std.specs.Prelude.{◌≡◌, ◌≢◌, ◌↔◌, ℕ, ◌<◌, List, [], ◌∷◌, ◌++◌, length, ◌⊎◌}
use Rattle.std.specs.List.{flat_map}
use Rattle.eds_base.specs.declared.fault.Fault.{Fault}
use Rattle.eds_base.specs.declared.fault.Reason.TheVariants.{Short}
use Rattle.eds_unpack.specs.Packets.{Framing, Packet, AreCut}
use Rattle.eds_unpack.specs.Splitting.{Splitting, IsFraming, FailsIn, WantsMore, IsRefused, Answer, packet, more, refused, Takes, Feeds}

-- ---- a list of calls

-- what was done with a splitter: it was handed a piece, or asked for a packet. A call for which there was no room or no
-- memory changes nothing, and isn't listed
pub data Event : Type 0 where
  fed : List ℕ → Event
  asked : Answer → Event

-- a call leads from one splitter to the next
abbrev pub Happens : Splitting → Event → Splitting → Type 0
Happens s (fed piece) u = Feeds s piece u
Happens s (asked a) u = Takes s a u

-- calls do, one after the other
abbrev pub AllHappen : Splitting → List Event → Splitting → Type 0
AllHappen s [] u = u ≡ s
AllHappen s (e ∷ es) u = (m : Splitting) × Happens s e m × AllHappen m es u

-- the octets of a call
abbrev pub octets_by : Event → List ℕ
octets_by (fed piece) = piece
octets_by (asked a) = []

-- all octets that were handed in
abbrev pub octets_fed : List Event → List ℕ
octets_fed es = flat_map octets_by es

-- the packet of an answer, if it is one
abbrev pub packet_in : Answer → List Packet
packet_in (packet p) = p ∷ []
packet_in more = []
packet_in (refused g) = []

-- the packet of a call, if it gave one
abbrev pub packet_by : Event → List Packet
packet_by (fed piece) = []
packet_by (asked a) = packet_in a

-- all packets that were taken
abbrev pub packets_taken : List Event → List Packet
packets_taken es = flat_map packet_by es

-- ---- all octets at once

-- the octets begin with no packet, which is what the answer says
abbrev pub EndsWith : Framing → List ℕ → Answer → Type 0
EndsWith k octets (packet p) = ⊥
EndsWith k octets more = WantsMore k octets
EndsWith k octets (refused g) = IsRefused k octets g

-- the octets are packets one after the other, and then a rest that begins with none
pub record IsSplit (k : Framing) (octets : List ℕ) (ps : List Packet) (last : Answer) (rest : List ℕ) : Type 0 where
  pub front : List ℕ
  pub is : octets ≡ front ++ rest
  pub cut : AreCut k ps front
  pub ends : EndsWith k rest last

-- any octets are split in just one way
pub record HasOneSplit (k : Framing) (octets : List ℕ) : Type 0 where
  pub packets : List Packet
  pub last : Answer
  pub rest : List ℕ
  pub is : IsSplit k octets packets last rest
  pub only : (ps : List Packet) (a : Answer) (r : List ℕ) → IsSplit k octets ps a r → (ps ≡ packets) × (a ≡ last) × (r ≡ rest)

-- so they are, where the type is clear and has no spelling of no bits
abbrev pub OneSplit : Type 0
OneSplit = (k : Framing) → IsFraming k → (octets : List ℕ) → HasOneSplit k octets

-- octets are packets and nothing else exactly where their split leaves no rest, and then they are its packets
abbrev pub WholeCut : Type 0
WholeCut = (k : Framing) → IsFraming k → (octets : List ℕ) (ps : List Packet) (last : Answer) (rest : List ℕ) → IsSplit k octets ps last rest → (qs : List Packet) → AreCut k qs octets ↔ ((rest ≡ []) × (qs ≡ ps))

-- ---- octets behind which no more come

-- the fault of octets that begin with no packet: that of reading them, or the first of them where more are there than a
-- packet may have; and where bits are missing in as many octets as a packet may have, that it is too long
abbrev pub IsLastFault : Framing → List ℕ → Fault → Type 0
IsLastFault k octets g = IsRefused k octets g ⊎ (FailsIn k octets g × (g.reason ≡ Short) × (length octets < k.most))

-- the octets are packets, one after the other, and then a rest, which fails so
pub record IsCutUpTo (k : Framing) (octets : List ℕ) (ps : List Packet) (g : Fault) : Type 0 where
  pub front : List ℕ
  pub rest : List ℕ
  pub is : octets ≡ front ++ rest
  pub cut : AreCut k ps front
  pub some : rest ≢ []
  pub fails : IsLastFault k rest g

-- octets are packets and nothing else, or they are up to one fault, and not both; behind so many packets that none of
-- the fronts of the octets has more
pub record HasOneCut (k : Framing) (octets : List ℕ) : Type 0 where
  pub either : ((ps : List Packet) × AreCut k ps octets) ⊎ ((ps : List Packet) × (g : Fault) × IsCutUpTo k octets ps g)
  pub one_cut : (ps qs : List Packet) → AreCut k ps octets → AreCut k qs octets → ps ≡ qs
  pub one_fault : (ps qs : List Packet) (g h : Fault) → IsCutUpTo k octets ps g → IsCutUpTo k octets qs h → (ps ≡ qs) × (g ≡ h)
  pub not_both : (ps qs : List Packet) (g : Fault) → AreCut k ps octets → IsCutUpTo k octets qs g → ⊥
  pub longest : (ps qs : List Packet) (g : Fault) (front rest : List ℕ) → IsCutUpTo k octets ps g → octets ≡ front ++ rest → AreCut k qs front → (others : List Packet) × (ps ≡ qs ++ others)

-- so they are, where the type is clear and has no spelling of no bits
abbrev pub OneCut : Type 0
OneCut = (k : Framing) → IsFraming k → (octets : List ℕ) → HasOneCut k octets

-- ---- pieces

-- some packets are the first ones of those that the octets are split into
abbrev pub AreFirst : Framing → List ℕ → List Packet → Type 0
AreFirst k octets ps = (qs : List Packet) (last : Answer) (rest : List ℕ) → IsSplit k octets qs last rest → (others : List Packet) × (qs ≡ ps ++ others)

-- after some calls, of which the first one found the splitter empty, and which left it as u
pub record IsFolded (k : Framing) (es : List Event) (u : Splitting) : Type 0 where
  -- what was taken are the first packets of all octets
  pub first : AreFirst k (octets_fed es) (packets_taken es)
  -- where the next answer is that more is wanted, or a fault, all packets were taken: these, the answer and the octets
  -- that are held are those of all octets
  pub whole : (a : Answer) (w : Splitting) → packet_in a ≡ [] → Takes u a w → IsSplit k (octets_fed es) (packets_taken es) a u.held

-- whatever the pieces, and whenever packets were taken
abbrev pub PiecesDontMatter : Type 0
PiecesDontMatter = (k : Framing) → IsFraming k → (s u : Splitting) (es : List Event) → s ≡ record { framing = k; held = [] } → AllHappen s es u → IsFolded k es u
