-- What the calls of a splitter answer.
use Rattle.std.specs.Prelude.{◌≡◌, ℕ, ◌+◌, ◌*◌, ◌<◌, List, length, Bool, true, false, if◌then◌else◌}
use Rattle.eds_base.specs.declared.fault.Fault.{Fault}
use Rattle.eds_base.specs.declared.fault.Reason.{Reason}
use Rattle.eds_base.specs.declared.fault.Reason.TheVariants.{Short, OutOfRange, NoLabel, BadDigit, BadText, Unterminated, FixedDiffers, Constraint, NoDerived, LengthDiffers, CheckDiffers, TooLong, Trailing}
use Rattle.eds_types.specs.Failing.{fault_here}
use Rattle.eds_types.specs.Plain.{plain}
use Rattle.eds_unpack.specs.declared.splitter.Fed.{Fed}
use Rattle.eds_unpack.specs.declared.splitter.Fed.TheVariants as fed
use Rattle.eds_unpack.specs.declared.splitter.Taken.{Taken}
use Rattle.eds_unpack.specs.declared.splitter.Taken.TheVariants as taken
use Rattle.eds_unpack.specs.Splitting.{Splitting, Answer, packet, more, refused, Feeds}

-- an answer of the code, by the values of the definitions
abbrev pub answer_of : Taken → Answer
answer_of (taken.Packet value bits) = packet (record { value = plain value; size = bits })
answer_of taken.More = more
answer_of (taken.Fault g) = refused g

-- a piece is taken whole, or there is no room for it and nothing changes
abbrev pub FedTo : Splitting → List ℕ → Fed → Splitting → Type 0
FedTo s piece fed.Took u = Feeds s piece u
FedTo s piece fed.Full u = (2 * s.framing.most < length s.held + length piece) × (u ≡ s)

-- too few bits are the reason
abbrev pub is_short : Reason → Bool
is_short Short = true
is_short OutOfRange = false
is_short NoLabel = false
is_short BadDigit = false
is_short BadText = false
is_short Unterminated = false
is_short FixedDiffers = false
is_short Constraint = false
is_short NoDerived = false
is_short LengthDiffers = false
is_short CheckDiffers = false
is_short TooLong = false
is_short Trailing = false

-- what a fault at the front of the octets says, where a packet may have more octets than these, or not
abbrev pub refusal_of : Fault → Bool → Answer
refusal_of g may_grow = if is_short g.reason then (if may_grow then more else refused (fault_here TooLong)) else refused g
