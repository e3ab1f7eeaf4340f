-- A table of types with everything that the rules and the laws speak of, and what some bits and values say by it.
use Rattle.std.specs.Prelude.{ℕ, ◌-◌, ◌*◌, ◌^◌, ◌≤◌, nat_le, ℤ, pos, List, [], ◌∷◌, ◌++◌, length, take, Bool, true, false, Option, Some, None, codes}
use Rattle.std.proofs.Common.{◌≡◌, refl, arith}
use Rattle.std.proofs.lemmas.Bool.{leb-true}
use Rattle.eds_base.specs.declared.ids.TypeId.{TypeId}
use Rattle.eds_base.specs.declared.fault.Step.TheVariants as step
use Rattle.eds_base.specs.declared.fault.Reason.TheVariants.{Short, BadText, Unterminated, FixedDiffers, NoDerived, LengthDiffers, CheckDiffers, Constraint as ConstraintFails}
use Rattle.eds_base.specs.declared.spans.Span.{Span}
use Rattle.eds_bits.specs.declared.forms.CheckKind.TheVariants.{Checksum, Crc16Ccitt}
use Rattle.eds_bits.specs.declared.forms.Encoding.TheVariants.{Unsigned}
use Rattle.eds_bits.specs.declared.forms.ByteOrder.TheVariants.{Big}
use Rattle.eds_bits.specs.declared.forms.IntForm.{IntForm}
use Rattle.eds_bits.specs.Bits.{Bits, bits_of}
use Rattle.eds_bits.specs.Encodings.{IsForm}
use Rattle.eds_types.specs.declared.row.Constraint.{Constraint}
use Rattle.eds_types.specs.declared.row.Kind.{Kind}
use Rattle.eds_types.specs.declared.row.Kind.TheVariants as kind
use Rattle.eds_types.specs.declared.row.Part.{Part}
use Rattle.eds_types.specs.declared.row.Part.TheVariants as part
use Rattle.eds_types.specs.declared.reason.PackReason.TheVariants as reason
use Rattle.eds_types.specs.declared.row.TypeRow.{TypeRow}
use Rattle.eds_types.specs.declared.value.Value.{Num}
use Rattle.eds_types.specs.Failing.{FailsAt, fault_at}
use Rattle.eds_types.specs.Packing.{PackFailsAt, pack_fault_at}
use Rattle.eds_types.specs.Plain.{Plain, num, label, truth, text, bits, items, fields, plains_of}
use Rattle.eds_types.specs.Rows.{Table, id_of}
use Rattle.eds_types.specs.Spelling.{Spells}

-- ---- rows

-- a comparison of numerals
pub at_most : (a b : ℕ) → nat_le a b ≡ true → a ≤ b
at_most a b e = leb-true a b e

-- such a size has a form
pub is_form : (n : ℕ) → nat_le 1 n ≡ true → nat_le n 64 ≡ true → IsForm n Unsigned Big
is_form n some few = record { some = leb-true 1 n some; few = leb-true n 64 few; whole_digits = omega arith; whole_octets = omega arith }

-- an unsigned number of so many bits
abbrev pub unsigned_form : (n : ℕ) → nat_le 1 n ≡ true → nat_le n 64 ≡ true → IntForm
unsigned_form n some few = record { bits = n; encoding = Unsigned; order = Big; valid = is_form n some few }

-- the numbers from one to another
abbrev span : ℕ → ℕ → Span
span low high = record { low = pos low; high = pos high }

-- any number of so many bits
abbrev pub any_number : (n : ℕ) → nat_le 1 n ≡ true → nat_le n 64 ≡ true → Kind
any_number n some few = kind.Int (unsigned_form n some few) (span 0 (2 ^ n - 1) ∷ [])

-- a type that is no container, by its name and kind
abbrev pub scalar : List ℕ → Kind → TypeRow
scalar name k = record { name = name; base = None; kind = k }

-- a container by its name, its base, whether it is abstract, its constraints, entries and trailers
abbrev pub container : List ℕ → Option TypeId → Bool → List Constraint → List Part → List Part → TypeRow
container name base hidden constraints entries trailers = record { name = name; base = base; kind = kind.Con (record { hidden = hidden; constraints = constraints; entries = entries; trailers = trailers }) }

-- an entry by its name and the number of its type
abbrev pub entry : List ℕ → ℕ → Part
entry name id = part.Plain name (id_of id)

-- the entry at this place of the container has one of these numbers
abbrev where_entry : ℕ → ℕ → Span → Constraint
where_entry y i s = record { path = (id_of y, i) ∷ []; set = s ∷ []; on_kind = false }

-- ---- the table

-- the labels of the sequence flags of a space packet, with their values
abbrev pub flags : List (List ℕ × ℤ)
flags = (codes "CONT", pos 0) ∷ (codes "FIRST", pos 1) ∷ (codes "LAST", pos 2) ∷ (codes "UNSEG", pos 3) ∷ []

-- an octet, a length entry, and a tail of at most 64 bits
abbrev pub tail_entries : ℤ → List Part
tail_entries factor = entry (codes "Id") 8 ∷ part.Length (codes "Len") (id_of 8) (pos 0) factor ∷ entry (codes "Data") 18 ∷ []

-- and behind them a check
abbrev pub sum_trailer : List Part
sum_trailer = part.Check (codes "Cs") (id_of 8) Checksum ∷ []

-- the number that is the type of a concrete container
abbrev type_is : List (TypeId × ℕ) → ℕ → Constraint
type_is path id = record { path = path; set = span id id ∷ []; on_kind = true }

-- the entry that a path leads to has this number
abbrev number_is : List (TypeId × ℕ) → ℕ → Constraint
number_is path n = record { path = path; set = span n n ∷ []; on_kind = false }

-- the container that is nested in a frame
abbrev pub mode_path : List (TypeId × ℕ)
mode_path = (id_of 27, 0) ∷ []

-- the number in the nested container
abbrev pub kind_path : List (TypeId × ℕ)
kind_path = (id_of 27, 0) ∷ (id_of 24, 0) ∷ []

-- the rows of all types; a row's position is its type's number
abbrev pub example : Table
example =
    -- telemetry packets: an abstract packet with a length entry, and the one that its application number tells
    scalar (codes "Demo/U3") (any_number 3 refl refl)
    ∷ scalar (codes "Demo/Bit") (kind.Bool (record { bits = 1; zero_is_false = true; some = at_most 1 1 refl; few = at_most 1 64 refl }))
    ∷ scalar (codes "Demo/U11") (any_number 11 refl refl)
    ∷ scalar (codes "Demo/U14") (any_number 14 refl refl)
    ∷ scalar (codes "Demo/U16") (any_number 16 refl refl)
    ∷ scalar (codes "Demo/Flags") (kind.Enum (unsigned_form 2 refl refl) flags)
    ∷ container (codes "Demo/Packet") None true [] (
    entry (codes "Version") 0 ∷ entry (codes "Type") 1 ∷ entry (codes "SecHdr") 1 ∷ entry (codes "Apid") 2 ∷ entry (codes "SeqFlags") 5 ∷ entry (codes "SeqCount") 3
    ∷ part.Length (codes "Length") (id_of 4) (pos 7) (pos 1) ∷ []
    ) []
    ∷ container (codes "Demo/Hk") (Some (id_of 6)) false (where_entry 6 3 (span 291 291) ∷ []) (entry (codes "Temp") 4 ∷ []) []
    -- a text with its check; entries and trailers of a base and of what derives from it
    ∷ scalar (codes "Ck/U8") (any_number 8 refl refl)
    ∷ scalar (codes "Ck/S9") (kind.Str (record { length = 9; fixed = true; ascii = true; stop = 0; some = at_most 1 9 refl; few = at_most 9 65536 refl; plain = at_most 0 127 refl }))
    ∷ container (codes "Ck/Check") None false [] (entry (codes "T") 9 ∷ []) (part.Check (codes "Crc") (id_of 4) Crc16Ccitt ∷ [])
    ∷ container (codes "Ck/Base") None true [] (entry (codes "A") 8 ∷ []) (entry (codes "Z") 8 ∷ [])
    ∷ container (codes "Ck/Der") (Some (id_of 11)) false [] (entry (codes "B") 8 ∷ []) (entry (codes "Y") 8 ∷ [])
    -- a list, whose number of items an entry tells; and two containers that one entry tells apart
    ∷ scalar (codes "Li/U4") (any_number 4 refl refl)
    ∷ container (codes "Li/L") None false [] (entry (codes "Count") 8 ∷ part.List (codes "Items") (id_of 13) (id_of 14) 0 ∷ []) []
    ∷ container (codes "Ov/Base") None true [] (entry (codes "K") 8 ∷ []) []
    ∷ container (codes "Ov/Low") (Some (id_of 15)) false (where_entry 15 0 (span 0 10) ∷ []) [] []
    ∷ container (codes "Ov/High") (Some (id_of 15)) false (where_entry 15 0 (span 11 20) ∷ []) [] []
    -- two packets with a tail: the length entry tells the octets of the one, and the half of those of the other
    ∷ scalar (codes "Tm/Blob") (kind.Bin 64 true)
    ∷ container (codes "Tm/P") None false [] (tail_entries (pos 1)) sum_trailer
    ∷ container (codes "Tm/Pairs") None false [] (tail_entries (pos 2)) sum_trailer
    -- a text with a termination octet, a binary and an array; a container with two derived ones, which a number tells apart
    ∷ scalar (codes "Mx/Line") (kind.Str (record { length = 4; fixed = false; ascii = true; stop = 10; some = at_most 1 4 refl; few = at_most 4 65536 refl; plain = at_most 10 127 refl }))
    ∷ scalar (codes "Mx/Twelve") (kind.Bin 12 false)
    ∷ scalar (codes "Mx/Pair") (kind.Arr (id_of 13) 2)
    ∷ container (codes "Mx/Mode") None true [] (entry (codes "Kind") 13 ∷ []) []
    ∷ container (codes "Mx/Idle") (Some (id_of 24)) false (number_is ((id_of 24, 0) ∷ []) 1 ∷ []) (entry (codes "For") 13 ∷ []) []
    ∷ container (codes "Mx/Busy") (Some (id_of 24)) false (number_is ((id_of 24, 0) ∷ []) 2 ∷ []) (entry (codes "With") 23 ∷ []) []
    -- a container in which another one is nested, with a fixed value, padding, a text, bits and a trailer; and two that
    -- derive from it: the one by the nested container's type and by a number in it, the other by such a number
    ∷ container (codes "Mx/Frame") None true [] (
    entry (codes "Mode") 24 ∷ part.Fixed (Some (codes "Mark")) (id_of 8) (Num (pos 90)) ∷ part.Pad 8 ∷ entry (codes "Text") 21 ∷ entry (codes "Bits") 22 ∷ []
    ) (entry (codes "End") 8 ∷ [])
    ∷ container (codes "Mx/IdleFrame") (Some (id_of 27)) false (type_is mode_path 25 ∷ number_is kind_path 1 ∷ []) [] []
    ∷ container (codes "Mx/BusyFrame") (Some (id_of 27)) false (number_is kind_path 2 ∷ []) [] []
    -- a concrete container with a derived one; and padding of the most bits behind a length entry of 8 and of 32 bits
    ∷ container (codes "Nm/Base") None false [] (entry (codes "K") 8 ∷ []) []
    ∷ container (codes "Nm/One") (Some (id_of 30)) false (where_entry 30 0 (span 1 1) ∷ []) [] []
    ∷ scalar (codes "Lf/U32") (any_number 32 refl refl)
    ∷ container (codes "Lf/Short") None false [] (part.Length (codes "Len") (id_of 8) (pos 0) (pos 1) ∷ part.Pad 524288 ∷ []) []
    ∷ container (codes "Lf/Long") None false [] (part.Length (codes "Len") (id_of 32) (pos 0) (pos 1) ∷ part.Pad 524288 ∷ []) []
    ∷ []

-- ---- what some bits say

-- a packet of the application 291
abbrev pub housekeeping : Plain
housekeeping = fields 7 (plains_of (num (pos 0) ∷ truth false ∷ truth false ∷ num (pos 291) ∷ label (codes "UNSEG") ∷ num (pos 5) ∷ num (pos 48879) ∷ []))

-- the first n of the bits spell the value
abbrev pub Reads : Table → ℕ → Plain → Bits → ℕ → Type 0
Reads t id v b n = (n ≤ length b) × Spells t id v (take n b)

-- nested containers with a number of items, a text of two octets, twelve bits and a last octet
abbrev pub busy : Plain
busy = fields 29 (plains_of (fields 26 (plains_of (num (pos 2) ∷ items (plains_of (num (pos 3) ∷ num (pos 4) ∷ [])) ∷ [])) ∷ text (codes "hi") ∷ bits 12 (0xAB ∷ 0xC0 ∷ []) ∷ num (pos 238) ∷ []))

-- nested containers with a number, a text of two octets, twelve bits and a last octet
abbrev pub idle : Plain
idle = fields 28 (plains_of (fields 25 (plains_of (num (pos 1) ∷ num (pos 7) ∷ [])) ∷ text (codes "hi") ∷ bits 12 (0xAB ∷ 0xC0 ∷ []) ∷ num (pos 238) ∷ []))

-- a packet with the number 1 and a tail of these octets
abbrev pub tail_packet : ℕ → List ℕ → Plain
tail_packet k os = fields k (plains_of (num (pos 1) ∷ bits (8 * length os) os ∷ []))

-- which values some frames spell, and where and why reading others fails
pub record WorkedFrames : Type 0 where
  pub packet : Spells example 6 housekeeping (bits_of (0x01 ∷ 0x23 ∷ 0xC0 ∷ 0x05 ∷ 0x00 ∷ 0x01 ∷ 0xBE ∷ 0xEF ∷ []))
  -- the length entry tells one octet more than there are
  pub longer : FailsAt example 6 (bits_of (0x01 ∷ 0x23 ∷ 0xC0 ∷ 0x05 ∷ 0x00 ∷ 0x02 ∷ 0xBE ∷ 0xEF ∷ [])) (fault_at LengthDiffers (step.Part (id_of 6) 6 ∷ []))
  -- no packet has the application number 292
  pub other : FailsAt example 6 (bits_of (0x01 ∷ 0x24 ∷ 0xC0 ∷ 0x05 ∷ 0x00 ∷ 0x01 ∷ 0xBE ∷ 0xEF ∷ [])) (fault_at NoDerived (step.Choice (id_of 6) ∷ []))
  -- read as the container of the application 291, the number doesn't meet its constraint
  pub asked : FailsAt example 7 (bits_of (0x01 ∷ 0x24 ∷ 0xC0 ∷ 0x05 ∷ 0x00 ∷ 0x01 ∷ 0xBE ∷ 0xEF ∷ [])) (fault_at ConstraintFails (step.Part (id_of 6) 3 ∷ []))
  pub empty : FailsAt example 6 [] (fault_at Short (step.Part (id_of 6) 0 ∷ []))
  -- the trailers of the derived container come before those of its base
  pub trailers : Spells example 11 (fields 12 (plains_of (num (pos 1) ∷ num (pos 2) ∷ num (pos 3) ∷ num (pos 4) ∷ []))) (bits_of (1 ∷ 2 ∷ 3 ∷ 4 ∷ []))
  -- the text 123456789 and its check
  pub checked : Spells example 10 (fields 10 (plains_of (text (codes "123456789") ∷ []))) (bits_of (codes "123456789" ++ 0x29 ∷ 0xB1 ∷ []))
  pub unchecked : FailsAt example 10 (bits_of (codes "123456789" ++ 0x29 ∷ 0xB2 ∷ [])) (fault_at CheckDiffers (step.Part (id_of 10) 1 ∷ []))
  -- a list of three items of four bits, and four bits that are left
  pub list : Reads example 14 (fields 14 (plains_of (num (pos 3) ∷ items (plains_of (num (pos 10) ∷ num (pos 11) ∷ num (pos 12) ∷ [])) ∷ []))) (bits_of (3 ∷ 0xAB ∷ 0xC0 ∷ [])) 20
  pub short_list : FailsAt example 14 (bits_of (0xFF ∷ 0x12 ∷ 0x34 ∷ [])) (fault_at Short (step.Part (id_of 14) 1 ∷ step.Item 4 ∷ []))
  -- the texts of up to four octets with a termination octet
  pub line : Spells example 21 (text (codes "ab")) (bits_of (codes "ab" ++ 10 ∷ []))
  pub short_line : FailsAt example 21 (bits_of (codes "abc")) (fault_at Short [])
  pub unterminated : FailsAt example 21 (bits_of (codes "abcde")) (fault_at Unterminated [])
  pub bad_line : FailsAt example 21 (bits_of (128 ∷ 10 ∷ [])) (fault_at BadText [])
  -- one container in another, told by a number in it, or by its type
  pub nested : Spells example 27 busy (bits_of (0x23 ∷ 0x45 ∷ 0xA0 ∷ 0x06 ∷ 0x86 ∷ 0x90 ∷ 0xAA ∷ 0xBC ∷ 0xEE ∷ []))
  pub nested_short : Reads example 27 idle (bits_of (0x17 ∷ 0x5A ∷ 0x00 ∷ 0x68 ∷ 0x69 ∷ 0x0A ∷ 0xAB ∷ 0xCE ∷ 0xE0 ∷ [])) 68
  -- no container in the nested one's family has the number 3
  pub no_nested : FailsAt example 27 (bits_of (0x35 ∷ 0xA0 ∷ [])) (fault_at NoDerived (step.Part (id_of 27) 0 ∷ step.Choice (id_of 24) ∷ []))
  pub no_mark : FailsAt example 27 (bits_of (0x17 ∷ 0x5B ∷ [])) (fault_at FixedDiffers (step.Part (id_of 27) 1 ∷ []))

-- what some frames with a tail say
pub record WorkedTails : Type 0 where
  pub two : Spells example 19 (tail_packet 19 (0xAA ∷ 0xBB ∷ [])) (bits_of (0x01 ∷ 0x05 ∷ 0xAA ∷ 0xBB ∷ 0x6B ∷ []))
  pub none : Spells example 19 (tail_packet 19 []) (bits_of (0x01 ∷ 0x03 ∷ 0x04 ∷ []))
  -- the tail isn't all that is left: the last octet is no part of the packet
  pub followed : Reads example 19 (tail_packet 19 (0xAA ∷ [])) (bits_of (0x01 ∷ 0x04 ∷ 0xAA ∷ 0xAF ∷ 0xBB ∷ [])) 32
  -- the length entry tells fewer octets than there are without a tail, or more than there are with the longest
  pub below_zero : FailsAt example 19 (bits_of (0x01 ∷ 0x02 ∷ 0x04 ∷ [])) (fault_at LengthDiffers (step.Part (id_of 19) 1 ∷ []))
  pub above_most : FailsAt example 19 (bits_of (0x01 ∷ 0x0C ∷ 0x04 ∷ [])) (fault_at LengthDiffers (step.Part (id_of 19) 1 ∷ []))
  pub unchecked : FailsAt example 19 (bits_of (0x01 ∷ 0x04 ∷ 0xAA ∷ 0xBB ∷ 0x6A ∷ [])) (fault_at CheckDiffers (step.Part (id_of 19) 3 ∷ []))
  pub short : FailsAt example 19 (bits_of (0x01 ∷ 0x05 ∷ 0xAA ∷ [])) (fault_at Short (step.Part (id_of 19) 2 ∷ []))
  pub even : Spells example 20 (tail_packet 20 (0xAA ∷ [])) (bits_of (0x01 ∷ 0x02 ∷ 0xAA ∷ 0xAD ∷ []))

-- where and why some values don't pack
pub record WorkedPacking : Type 0 where
  -- of another kind; with another number of fields; of a container that isn't the type's, or is abstract
  pub kind : PackFailsAt example 8 (label (codes "x")) (pack_fault_at reason.WrongKind [])
  pub few_fields : PackFailsAt example 14 (fields 14 (plains_of [])) (pack_fault_at reason.WrongKind [])
  pub not_derived : PackFailsAt example 14 (fields 30 (plains_of (num (pos 1) ∷ []))) (pack_fault_at reason.NotDerived (step.Choice (id_of 30) ∷ []))
  pub abstract : PackFailsAt example 15 (fields 15 (plains_of (num (pos 1) ∷ []))) (pack_fault_at reason.Abstract (step.Choice (id_of 15) ∷ []))
  -- scalars, texts and bits
  pub range : PackFailsAt example 13 (num (pos 16)) (pack_fault_at reason.OutOfRange [])
  pub unlisted : PackFailsAt example 5 (label (codes "x")) (pack_fault_at reason.NoLabel [])
  pub stop_within : PackFailsAt example 21 (text (codes "a" ++ 10 ∷ [])) (pack_fault_at reason.BadText [])
  pub long_text : PackFailsAt example 21 (text (codes "abcde")) (pack_fault_at reason.WrongSize [])
  pub few_bits : PackFailsAt example 22 (bits 8 (0xAB ∷ [])) (pack_fault_at reason.WrongSize [])
  -- items of an array, and of a list
  pub items_missing : PackFailsAt example 23 (items (plains_of (num (pos 1) ∷ []))) (pack_fault_at reason.WrongSize [])
  pub item : PackFailsAt example 23 (items (plains_of (num (pos 1) ∷ num (pos 99) ∷ []))) (pack_fault_at reason.OutOfRange (step.Item 1 ∷ []))
  pub count : PackFailsAt example 14 (fields 14 (plains_of (num (pos 3) ∷ items (plains_of (num (pos 1) ∷ [])) ∷ []))) (pack_fault_at reason.CountWrong (step.Part (id_of 14) 1 ∷ []))
  pub list_item : PackFailsAt example 14 (fields 14 (plains_of (num (pos 2) ∷ items (plains_of (num (pos 1) ∷ num (pos 99) ∷ [])) ∷ []))) (pack_fault_at reason.OutOfRange (step.Part (id_of 14) 1 ∷ step.Item 1 ∷ []))
  -- a constraint of the container's own, and fields that are those of a derived container
  pub asked : PackFailsAt example 15 (fields 16 (plains_of (num (pos 15) ∷ []))) (pack_fault_at reason.Constraint (step.Part (id_of 15) 0 ∷ []))
  pub derived : PackFailsAt example 30 (fields 30 (plains_of (num (pos 1) ∷ []))) (pack_fault_at reason.NotMostDerived (step.Choice (id_of 30) ∷ []))
  -- a tail of nine octets is too long by itself, whatever the length entry could tell
  pub too_many : PackFailsAt example 19 (tail_packet 19 (0 ∷ 0 ∷ 0 ∷ 0 ∷ 0 ∷ 0 ∷ 0 ∷ 0 ∷ 0 ∷ [])) (pack_fault_at reason.WrongSize (step.Part (id_of 19) 2 ∷ []))
  -- with two octets in its tail the packet has five, which are no pairs
  pub odd : PackFailsAt example 20 (tail_packet 20 (0xAA ∷ 0xBB ∷ [])) (pack_fault_at reason.LengthField (step.Part (id_of 20) 1 ∷ []))
  -- more octets than the length entry can tell; and where it can, too many bits
  pub untold : PackFailsAt example 33 (fields 33 (plains_of [])) (pack_fault_at reason.LengthField (step.Part (id_of 33) 0 ∷ []))
  pub too_long : PackFailsAt example 34 (fields 34 (plains_of [])) (pack_fault_at reason.TooLong [])
