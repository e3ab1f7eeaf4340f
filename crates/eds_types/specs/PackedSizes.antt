-- How many bits the canonical spelling of a value has, or where and why packing fails: one pass over the value, in the
-- order of its parts. This function is a device: the meaning of packing is said by canonical spellings and by where
-- packing fails, and a law says that this function gives exactly that. The packer in code is proved to give what this
-- function gives.
use Rattle.std.specs.Prelude.{◌≡◌, ◌↔◌, ◌<◌, ◌≤◌, IsTrue, ℕ, zero, suc, ◌+◌, ◌*◌, ◌%◌, ℤ, pos, ◌+ℤ◌, ◌*ℤ◌, ◌-ℤ◌, int_div, List, [], ◌∷◌, length, take, Bool, true, false, cond, not, ◌&&◌, ◌==◌, is_some, is_ok, Option, Some, None, Result, Ok, Err, slice_get, nat_lt, nat_le}
use Rattle.std.specs.List.{list_all}
use Rattle.std.specs.Ordering.{int_eq}
use Rattle.eds_base.specs.declared.fault.Step.{Step}
use Rattle.eds_base.specs.declared.fault.Step.TheVariants as step
use Rattle.eds_base.specs.Reading.{same as same_text}
use Rattle.eds_base.specs.declared.spans.Span.{Span}
use Rattle.eds_bits.specs.declared.forms.IntForm.{IntForm}
use Rattle.eds_bits.specs.declared.forms.TextForm.{TextForm}
use Rattle.eds_bits.specs.Bits.{Bits, bits_of, octets_for, octets_of}
use Rattle.eds_types.specs.declared.reason.PackReason.TheVariants as reason
use Rattle.eds_types.specs.declared.row.TypeRow.{TypeRow}
use Rattle.eds_types.specs.declared.row.Kind.{Kind}
use Rattle.eds_types.specs.declared.row.Kind.TheVariants as kind
use Rattle.eds_types.specs.declared.row.Part.{Part}
use Rattle.eds_types.specs.declared.row.Part.TheVariants as part
use Rattle.eds_types.specs.Failing.{Station, condition, entry, choice, end, course, length_path, part_step, path_steps}
use Rattle.eds_types.specs.Fields.{Field, listed, paired, value_at}
use Rattle.eds_types.specs.Packing.{PackFault, pack_fault_behind, pack_fault_here, item_step, most_bits, valued, PackFailsAt, pack_fault_at}
use Rattle.eds_types.specs.Plain.{Plain, num, label, truth, text, bits, items, fields, list_of, plain}
use Rattle.eds_types.specs.Reading.{candidate_under, holds, is_coded, is_within}
use Rattle.eds_types.specs.Rows.{Table, id_of, chain, container_of, is_concrete, list_has, Placed, sequence}
use Rattle.eds_types.specs.Rules.{KeepsRules}
use Rattle.eds_types.specs.Spelling.{Canon}

-- a number of bits, or the fault
abbrev pub Size : Type 0
Size = Result ℕ PackFault

-- a fault inside a step
abbrev pub size_inside : Step → Size → Size
size_inside s (Ok n) = Ok n
size_inside s (Err g) = Err (pack_fault_behind s g)

-- what comes next, unless there is a fault
abbrev pub after : Size → (ℕ → Size) → Size
after (Ok n) next = next n
after (Err g) next = Err g

-- ---- one value

-- the size of a number, or why it fails
abbrev pub number_size : IntForm → List Span → Plain → Size
number_size form spans (num n) = cond (is_within spans n) (Ok form.bits) (Err (pack_fault_here reason.OutOfRange))
number_size form spans v = Err (pack_fault_here reason.WrongKind)

-- the size of a label with this number
abbrev pub listed_size : IntForm → Option ℤ → Size
listed_size form None = Err (pack_fault_here reason.NoLabel)
listed_size form (Some n) = Ok form.bits

-- the size of a label, or why it fails
abbrev pub label_size : IntForm → List (List ℕ × ℤ) → Plain → Size
label_size form listing (label l) = listed_size form (listed listing l)
label_size form listing v = Err (pack_fault_here reason.WrongKind)

-- the size of a truth value of n bits
abbrev pub truth_size : ℕ → Plain → Size
truth_size n (truth b) = Ok n
truth_size n v = Err (pack_fault_here reason.WrongKind)

-- the text is one of the encoding, and doesn't hold its termination octet
abbrev pub text_fits : TextForm → List ℕ → Bool
text_fits form s = is_coded form.ascii s && not (list_has s form.stop)

-- a fixed text of n octets, or one of m octets with its termination octet
abbrev pub text_bits : Bool → ℕ → ℕ → ℕ
text_bits true n m = 8 * n
text_bits false n m = 8 * (m + 1)

-- the size of a text, or why it fails
abbrev pub text_size : TextForm → Plain → Size
text_size form (text s) = cond (text_fits form s) (cond (nat_lt form.length (length s)) (Err (pack_fault_here reason.WrongSize)) (Ok (text_bits form.fixed form.length (length s)))) (Err (pack_fault_here reason.BadText))
text_size form v = Err (pack_fault_here reason.WrongKind)

-- a binary of n bits, or an open one of at most so many, has m bits
abbrev pub has_bits : ℕ → Bool → ℕ → Bool
has_bits n false m = m == n
has_bits n true m = nat_le m n && (m % 8 == 0)

-- the octets are those of their first m bits, the last filled with zeros
abbrev pub is_filled : ℕ → List ℕ → Bool
is_filled m o = length (take m (bits_of o)) == m && same_text (octets_of (take m (bits_of o))) o

-- the size of bits, or why they fail
abbrev pub binary_size : ℕ → Bool → Plain → Size
binary_size n free (bits m o) = cond (has_bits n free m && is_filled m o) (Ok m) (Err (pack_fault_here reason.WrongSize))
binary_size n free v = Err (pack_fault_here reason.WrongKind)

-- ---- items; size gives that of a value of a nested type

-- the items from the one with the number j on, added to the bits before them
abbrev pub items_size : (Plain → Size) → ℕ → ℕ → List Plain → Size
items_size size j before [] = Ok before
items_size size j before (v ∷ vs) = after (size_inside (item_step j) (size v)) (λ n. items_size size (j + 1) (before + n) vs)

-- the size of an array of n items
abbrev pub array_size : (Plain → Size) → ℕ → Plain → Size
array_size size n (items vs) = cond (length (list_of vs) == n) (items_size size 0 0 (list_of vs)) (Err (pack_fault_here reason.WrongSize))
array_size size n v = Err (pack_fault_here reason.WrongKind)

-- ---- containers

-- the number of bits of an integer type
abbrev pub form_bits : Kind → ℕ
form_bits (kind.Int form spans) = form.bits
form_bits (kind.Enum form listing) = form.bits
form_bits (kind.Bool form) = form.bits
form_bits (kind.Str form) = 0
form_bits (kind.Bin n free) = 0
form_bits (kind.Arr item n) = 0
form_bits (kind.Con c) = 0

-- the same of a row, if there is one
abbrev pub row_bits : Option TypeRow → ℕ
row_bits None = 0
row_bits (Some row) = form_bits row.kind

-- the entry tells so many items
abbrev pub tells : Option Plain → ℕ → Bool
tells None m = false
tells (Some (num n)) m = int_eq n (pos m)
tells (Some v) m = false

-- the number r with c0 + c1 * r = m, where there is one
abbrev pub told_by : ℤ → ℤ → ℕ → ℤ
told_by c0 c1 m = int_div (pos m -ℤ c0) c1

module _ (t : Table) (size : ℕ → Plain → Size) where
  -- a number of the length entry's type tells m octets; any other part tells nothing
  abbrev pub length_fits : ℕ → Part → Bool
  length_fits m (part.Plain name id) = true
  length_fits m (part.Fixed name id v) = true
  length_fits m (part.Pad n) = true
  length_fits m (part.List name id y i) = true
  length_fits m (part.Length name id c0 c1) = int_eq (c0 +ℤ (c1 *ℤ told_by c0 c1 m)) (pos m) && is_ok (size id.0 (num (told_by c0 c1 m)))
  length_fits m (part.Check name id k) = true

  module _ (fs : List Field) where
    -- the size of an entry's value; a missing one has none
    abbrev pub entry_size : ℕ → Option Plain → Size
    entry_size id None = Ok 0
    entry_size id (Some v) = size id v

    -- the size of a list's items, whose number an entry tells
    abbrev pub list_size : ℕ → Option Plain → Option Plain → Size
    list_size id count None = Ok 0
    list_size id count (Some (items vs)) = cond (tells count (length (list_of vs))) (items_size (size id) 0 0 (list_of vs)) (Err (pack_fault_here reason.CountWrong))
    list_size id count (Some v) = Err (pack_fault_here reason.WrongKind)

    -- the size of a part
    abbrev pub packed_part_size : Placed → Part → Size
    packed_part_size p (part.Plain name id) = entry_size id.0 (value_at fs p.container p.place)
    packed_part_size p (part.Fixed name id v) = size id.0 (plain v)
    packed_part_size p (part.Pad n) = Ok n
    packed_part_size p (part.List name id y i) = list_size id.0 (value_at fs y.0 i) (value_at fs p.container p.place)
    packed_part_size p (part.Length name id c0 c1) = Ok (row_bits (slice_get t id.0))
    packed_part_size p (part.Check name id k) = Ok (row_bits (slice_get t id.0))

    -- the fields of k go on from no other container
    abbrev pub choice_size : ℕ → Option ℕ → Size
    choice_size k None = Ok 0
    choice_size k (Some l) = Err (pack_fault_at reason.NotMostDerived (step.Choice (id_of k) ∷ []))

    -- of what is judged in turn for the fields of k, after so many bits
    abbrev pub station_size : ℕ → ℕ → Station → Size
    station_size k before (condition y c) = cond (holds t fs c) (Ok 0) (Err (pack_fault_at reason.Constraint (path_steps c.path)))
    station_size k before (entry p) = size_inside (part_step p) (packed_part_size p p.part)
    station_size k before (choice y) = choice_size k (candidate_under t k fs)
    station_size k before end = cond (list_all (λ (p : Placed). length_fits (octets_for before) p.part) (sequence t k)) (Ok 0) (Err (pack_fault_at reason.LengthField (length_path t k)))

    -- the size of what all stations come to
    abbrev pub stations_size : ℕ → ℕ → List Station → Size
    stations_size k before [] = Ok before
    stations_size k before (s ∷ ss) = after (station_size k before s) (λ n. stations_size k (before + n) ss)

  -- the fields f of k, where the type id is packed
  abbrev pub own_size : ℕ → List Plain → Size
  own_size k f = stations_size (paired (sequence t k) f) k 0 (course t k k)

  -- the size where the container must not be abstract
  abbrev pub concrete_size : ℕ → List Plain → Size
  concrete_size k f = cond (is_concrete t k) (own_size k f) (Err (pack_fault_at reason.Abstract (step.Choice (id_of k) ∷ [])))

  -- and must derive from the type, or be it
  abbrev pub derived_size : ℕ → ℕ → List Plain → Size
  derived_size id k f = cond (list_has (chain t k) id) (concrete_size k f) (Err (pack_fault_at reason.NotDerived (step.Choice (id_of k) ∷ [])))

  -- and must have as many values as it has entries and lists
  abbrev pub fields_size : ℕ → ℕ → List Plain → Size
  fields_size id k f = cond (is_some (container_of t k) && (length f == valued (sequence t k))) (derived_size id k f) (Err (pack_fault_here reason.WrongKind))

  -- the size of a container's value
  abbrev pub container_size : ℕ → Plain → Size
  container_size id (fields k f) = fields_size id k (list_of f)
  container_size id v = Err (pack_fault_here reason.WrongKind)

  -- ---- any type

  -- the size of a value of a kind
  abbrev pub packed_kind_size : ℕ → Kind → Plain → Size
  packed_kind_size id (kind.Int form spans) v = number_size form spans v
  packed_kind_size id (kind.Enum form listing) v = label_size form listing v
  packed_kind_size id (kind.Bool form) v = truth_size form.bits v
  packed_kind_size id (kind.Str form) v = text_size form v
  packed_kind_size id (kind.Bin n free) v = binary_size n free v
  packed_kind_size id (kind.Arr item n) v = array_size (size item.0) n v
  packed_kind_size id (kind.Con c) v = container_size id v

  -- the size of a value of a row's type
  abbrev pub packed_row_size : ℕ → Option TypeRow → Plain → Size
  packed_row_size id None v = Err (pack_fault_here reason.WrongKind)
  packed_row_size id (Some row) v = packed_kind_size id row.kind v

-- of a value of any type, where at most n types are nested in each other
unfoldable pub packed_size_within : ℕ → Table → ℕ → Plain → Size
packed_size_within zero t id v = Err (pack_fault_here reason.WrongKind)
packed_size_within (suc n) t id v = packed_row_size t (packed_size_within n t) id (slice_get t id) v

-- a value that is too long fails, where nothing else does
abbrev pub not_long : Size → Size
not_long (Ok n) = cond (nat_le n most_bits) (Ok n) (Err (pack_fault_here reason.TooLong))
not_long (Err g) = Err g

-- the size of a value, or where and why packing fails
abbrev pub packed_size : Table → ℕ → Plain → Size
packed_size t id v = not_long (packed_size_within 32 t id v)

-- whether the value packs as the type
abbrev pub packs : Table → ℕ → Plain → Bool
packs t id v = is_ok (packed_size t id v)

-- ---- the law

-- the value has a canonical spelling, of n bits, which isn't too long
abbrev pub Packs : Table → ℕ → Plain → ℕ → Type 0
Packs t id v n = (b : Bits) × Canon t id v b × (length b ≡ n) × (n ≤ most_bits)

-- the pass finds a size exactly where the value packs into so many bits, and a fault exactly where it is there
pub record IsExact (t : Table) (id : ℕ) (v : Plain) : Type 0 where
  pub size : (n : ℕ) → (packed_size t id v ≡ Ok n) ↔ Packs t id v n
  pub fault : (g : PackFault) → (packed_size t id v ≡ Err g) ↔ PackFailsAt t id v g
  pub bool : IsTrue (packs t id v) ↔ ((n : ℕ) × Packs t id v n)

-- it is exact for every value of every type that is there
abbrev pub SizesAreExact : Type 0
SizesAreExact = (t : Table) (id : ℕ) → KeepsRules t → id < length t → (v : Plain) → IsExact t id v
