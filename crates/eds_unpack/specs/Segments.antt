-- Containers as operations: entries at fixed places, which are read one after another.
use Rattle.std.specs.Prelude.{◌≡◌, ℕ, ◌+◌, ◌*◌, ◌%◌, ◌^◌, ◌<◌, ◌≤◌, ℤ, pos, ◌-ℤ◌, ◌≤ℤ◌, List, [], ◌∷◌, ◌++◌, length, map, Bool, true, not, ◌==◌, Option, Some, None, Result, Ok, Err, slice_get, nat_lt, take, drop, if◌then◌else◌}
use Rattle.std.specs.List.{AllZip}
use Rattle.std.specs.Result.{result_ok}
use Rattle.eds_base.specs.declared.fault.Fault.{Fault}
use Rattle.eds_base.specs.declared.fault.Reason.TheVariants.{Short}
use Rattle.eds_bits.specs.declared.forms.ByteOrder.TheVariants.{Little}
use Rattle.eds_bits.specs.Bits.{Bits, low_bits, pieces, unsigned_of}
use Rattle.eds_bits.specs.Encodings.{decimal_of, ordered}
use Rattle.eds_bits.specs.IntForms.{number_of}
use Rattle.eds_types.specs.declared.row.Kind.{Kind}
use Rattle.eds_types.specs.declared.row.Kind.TheVariants as kind
use Rattle.eds_types.specs.declared.row.Part.{Part}
use Rattle.eds_types.specs.declared.row.TypeRow.{TypeRow}
use Rattle.eds_types.specs.declared.value.Value.{Value}
use Rattle.eds_types.specs.Failing.{fault_here}
use Rattle.eds_types.specs.Fields.{Field, field_at, type_by}
use Rattle.eds_types.specs.Plain.{Plain, plain, num, truth}
use Rattle.eds_types.specs.Reading.{ranged, named, truth_of, front, read_within, read_parts, read_to_end, ended}
use Rattle.eds_types.specs.Rows.{Table, entries_of, placed_from}
use Rattle.eds_types.specs.Spelling.{Progress}
use Rattle.eds_unpack.specs.declared.segment.Coding.{Coding}
use Rattle.eds_unpack.specs.declared.segment.Digits.{Digits}
use Rattle.eds_unpack.specs.declared.segment.Meaning.{Meaning}
use Rattle.eds_unpack.specs.declared.segment.Meaning.TheVariants as meaning
use Rattle.eds_unpack.specs.declared.segment.Numbers.{Numbers}
use Rattle.eds_unpack.specs.declared.segment.Operation.{Operation}
use Rattle.eds_unpack.specs.declared.segment.Segment.{Segment}
use Rattle.eds_unpack.specs.Entries.{IsInner, IsLow}
use Rattle.eds_unpack.specs.Straight.{is_straight, is_straight_entry}

-- ---- scalars

-- how many bits a scalar has; other types are none
abbrev pub scalar_bits : Kind → Option ℕ
scalar_bits (kind.Int form spans) = Some form.bits
scalar_bits (kind.Enum form listing) = Some form.bits
scalar_bits (kind.Bool form) = Some form.bits
scalar_bits (kind.Str form) = None
scalar_bits (kind.Bin n free) = None
scalar_bits (kind.Arr item n) = None
scalar_bits (kind.Con c) = None

-- the value of these bits, if they have one
abbrev pub scalar_of : Kind → Bits → Result Plain Fault
scalar_of (kind.Int form spans) c = ranged spans (number_of form c)
scalar_of (kind.Enum form listing) c = named listing (number_of form c)
scalar_of (kind.Bool form) c = Ok (truth (truth_of form c))
scalar_of (kind.Str form) c = Err (fault_here Short)
scalar_of (kind.Bin n free) c = Err (fault_here Short)
scalar_of (kind.Arr item n) c = Err (fault_here Short)
scalar_of (kind.Con container) c = Err (fault_here Short)

-- the number of an integer's or a label's bits; other kinds have none
abbrev pub integer_of : Kind → Bits → Option ℤ
integer_of (kind.Int form spans) c = number_of form c
integer_of (kind.Enum form listing) c = number_of form c
integer_of (kind.Bool form) c = None
integer_of (kind.Str form) c = None
integer_of (kind.Bin n free) c = None
integer_of (kind.Arr item n) c = None
integer_of (kind.Con container) c = None

-- the same of a row, if it is there
abbrev pub bits_in : Option TypeRow → Option ℕ
bits_in None = None
bits_in (Some row) = scalar_bits row.kind

-- the value of these bits by a row, if it is there
abbrev pub value_in : Option TypeRow → Bits → Result Plain Fault
value_in None c = Err (fault_here Short)
value_in (Some row) c = scalar_of row.kind c

-- ---- operations

-- the number of n bits whose number is x, where the octet that counts least may come first
abbrev pub in_order : Bool → ℕ → ℕ → ℕ
in_order little n x = if little then unsigned_of (ordered Little (low_bits n x)) else x

-- what a number from half on stands for: what it is above less, or, where these count down, below it
abbrev pub from_half : Bool → ℕ → ℕ → ℤ
from_half down less x = if down then pos less -ℤ pos x else pos x -ℤ pos less

-- what a number stands for
abbrev pub signed : Bool → ℕ → ℕ → ℕ → ℤ
signed down half less x = if nat_lt x half then pos x else from_half down less x

-- what the number x of n bits stands for
abbrev pub made : Coding → ℕ → ℕ → ℤ
made r n x = signed r.down r.half r.less (in_order r.little n x)

-- the numbers of n bits are those that a coding makes
pub record IsCoding (number : Bits → Option ℤ) (n : ℕ) (r : Coding) : Type 0 where
  pub few : n ≤ 62
  pub whole : r.little ≡ true → n % 8 ≡ 0
  pub numbers : (x : ℕ) → x < 2 ^ n → number (low_bits n x) ≡ Some (made r n x)

-- a number is of the domain
pub record IsInDomain (r : Numbers) (n : ℤ) : Type 0 where
  pub low : r.low ≤ℤ n
  pub high : n ≤ℤ r.high

-- the values of n bits are the numbers that a coding makes, where these are of the domain
pub record AreNumbers (value : Bits → Result Plain Fault) (n : ℕ) (r : Numbers) : Type 0 where
  pub few : n ≤ 62
  pub whole : r.coding.little ≡ true → n % 8 ≡ 0
  pub numbers : (x : ℕ) → x < 2 ^ n → IsInDomain r (made r.coding n x) → value (low_bits n x) ≡ Ok (num (made r.coding n x))

-- the number of decimal digits of k bits each, if none is above 9
abbrev pub decimal_by : ℕ → Bits → Option ℤ
decimal_by k c = decimal_of (map unsigned_of (pieces k c))

-- the values of n bits are the numbers of their decimal digits, where these are of the domain
pub record AreDigits (value : Bits → Result Plain Fault) (n : ℕ) (r : Digits) : Type 0 where
  pub size : n ≡ r.digit_bits * r.digits
  pub numbers : (x : ℕ) (d : ℤ) → x < 2 ^ n → decimal_by r.digit_bits (low_bits n x) ≡ Some d → r.low ≤ℤ d → d ≤ℤ r.high → value (low_bits n x) ≡ Ok (num d)

-- the truth value that the number x stands for
abbrev pub truth_by : Bool → ℕ → Bool
truth_by zero_is_false x = if x == 0 then not zero_is_false else zero_is_false

-- what an operation makes of n bits is what they stand for
abbrev pub Agrees : Kind → ℕ → Meaning → Type 0
Agrees k n (meaning.Number r) = AreNumbers (scalar_of k) n r
Agrees k n (meaning.Digits r) = AreDigits (scalar_of k) n r
Agrees k n (meaning.Label r) = IsCoding (integer_of k) n r
Agrees k n (meaning.Truth zero_is_false) = (x : ℕ) → x < 2 ^ n → scalar_of k (low_bits n x) ≡ Ok (truth (truth_by zero_is_false x))
Agrees k n meaning.Told = Unit {0}

-- the same of a row, which is there
abbrev pub AgreesIn : Option TypeRow → ℕ → Meaning → Type 0
AgreesIn None n m = ⊥
AgreesIn (Some row) n m = Agrees row.kind n m

-- all patterns of n bits have a value
abbrev pub IsSure : (Bits → Result Plain Fault) → ℕ → Type 0
IsSure value n = (x : ℕ) → x < 2 ^ n → (v : Plain) × (value (low_bits n x) ≡ Ok v)

-- an operation has the bits of its type, makes the type's value of them, and says of none without reason that it has a value
pub record IsOperation (t : Table) (o : Operation) : Type 0 where
  pub size : bits_in (slice_get t o.id.0) ≡ Some o.bits
  pub agrees : AgreesIn (slice_get t o.id.0) o.bits o.meaning
  pub sure : o.sure ≡ true → IsSure (value_in (slice_get t o.id.0)) o.bits

-- it is that of a type, at the first bit
pub record IsScalar (t : Table) (id : ℕ) (o : Operation) : Type 0 where
  pub typed : o.id.0 ≡ id
  pub first : o.at ≡ 0
  pub is : IsOperation t o

-- each is that of the type whose number is its place
abbrev pub AreScalars : Table → List (Option Operation) → Type 0
AreScalars t each = (id : ℕ) (o : Operation) → slice_get each id ≡ Some (Some o) → IsScalar t id o

-- the type is read as this value, before the rest, wherever it is nested
abbrev pub ScalarReadsAs : Table → ℕ → Bits → Plain → Bits → Type 0
ScalarReadsAs t id b v rest = (n : ℕ) → IsInner t n id → read_within n t id b ≡ Ok (v, rest)

-- it is that of an entry with a value
pub record IsOperationOf (t : Table) (p : Part) (o : Operation) : Type 0 where
  pub entry : is_straight_entry t p ≡ true
  pub typed : type_by (Some p) ≡ Some o.id.0
  pub is : IsOperation t o

-- operations are those of entries, from one bit on up to another, each right behind the one before it
abbrev pub AreOperationsOf : Table → ℕ → ℕ → List Part → List Operation → Type 0
AreOperationsOf t at last [] [] = at ≡ last
AreOperationsOf t at last [] (o ∷ os) = ⊥
AreOperationsOf t at last (p ∷ ps) [] = ⊥
AreOperationsOf t at last (p ∷ ps) (o ∷ os) = (o.at ≡ at) × IsOperationOf t p o × AreOperationsOf t (at + o.bits) last ps os

-- ---- segments

-- a segment is that of a container, whose value is that of its entries alone
pub record IsSegmentOf (t : Table) (id : ℕ) (s : Segment) : Type 0 where
  pub straight : is_straight t id ≡ true
  pub operations : AreOperationsOf t 0 s.bits (entries_of t id) s.operations.items

-- a segment is that of as many of a container's first entries as it has operations, and says of none without reason that its
-- value is that of these alone
pub record IsHeadOf (t : Table) (id : ℕ) (s : Segment) : Type 0 where
  pub operations : AreOperationsOf t 0 s.bits (take (length s.operations.items) (entries_of t id)) s.operations.items
  pub whole : s.whole ≡ true → IsSegmentOf t id s

-- each segment is that of the first entries of the container whose number is its place
abbrev pub AreSegments : Table → List (Option Segment) → Type 0
AreSegments t each = (id : ℕ) (s : Segment) → slice_get each id ≡ Some (Some s) → IsHeadOf t id s

-- ---- values

-- the value of an operation, in the bits of its container
abbrev pub Says : Table → Bits → Operation → Plain → Type 0
Says t b o v = value_in (slice_get t o.id.0) (take o.bits (drop o.at b)) ≡ Ok v

-- what the bits of an operation say, if they say something
abbrev pub said : Table → Bits → Operation → Option Plain
said t b o = result_ok (value_in (slice_get t o.id.0) (take o.bits (drop o.at b)))

-- the fields of a container with these values, the first at a place
abbrev pub fields_from : ℕ → ℕ → List Plain → List Field
fields_from y i [] = []
fields_from y i (v ∷ vs) = field_at y i v ∷ fields_from y (i + 1) vs

-- after the bits of parts and their values
abbrev pub with_fields : Progress → List Field → Bits → Progress
with_fields s fs b = record { fields = s.fields ++ fs; before = s.before ++ b; octets = s.octets }

-- there is such a value
abbrev pub HasValue : Table → Bits → Operation → Type 0
HasValue t b o = (v : Plain) × Says t b o v

-- the value that was found was put last
pub record IsPut (found : Result Plain Fault) (old new : List Value) : Type 0 where
  pub value : Plain
  pub is : found ≡ Ok value
  pub last : map plain new ≡ map plain old ++ value ∷ []

-- the values of operations were put last
pub record ArePut (t : Table) (b : Bits) (os : List Operation) (old new : List Value) : Type 0 where
  pub values : List Plain
  pub said : AllZip (Says t b) os values
  pub last : map plain new ≡ map plain old ++ values

-- the container is read as this value, before the rest, wherever it is nested
abbrev pub ReadsAs : Table → ℕ → Bits → Plain → Bits → Type 0
ReadsAs t id b v rest = (n : ℕ) → IsLow t (n + 1) id → ended t (read_within n t) (read_to_end t (read_within n t) id b) ≡ Ok (v, rest)

-- the container begins with entries that have these values and are read before the rest, wherever it is nested and whatever
-- was read before it
abbrev pub BeginsWith : Table → ℕ → Bits → List Plain → Bits → Type 0
BeginsWith t id b vs rest = (n : ℕ) (s : Progress) → IsLow t (n + 1) id → read_parts t (read_within n t) (placed_from id 0 (take (length vs) (entries_of t id))) s b ≡ Ok (with_fields s (fields_from id 0 vs) (front b rest), rest)

-- so many values were put last, those of the entries that the container begins with, which are read before the rest
pub record HeadIsPut (t : Table) (id k : ℕ) (b : Bits) (old new : List Value) (rest : Bits) : Type 0 where
  pub values : List Plain
  pub many : length values ≡ k
  pub last : map plain new ≡ map plain old ++ values
  pub begins : BeginsWith t id b values rest

-- the first k entries of the container are read from one state to another, wherever it is nested
abbrev pub ReadsFirst : Table → ℕ → ℕ → Progress → Bits → Progress → Bits → Type 0
ReadsFirst t id k s b u rest = (n : ℕ) → IsLow t (n + 1) id → read_parts t (read_within n t) (placed_from id 0 (take k (entries_of t id))) s b ≡ Ok (u, rest)
