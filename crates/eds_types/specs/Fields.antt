-- The fields of a container by the parts that hold them, the numbers on paths, and constraints.
use Rattle.std.specs.Prelude.{◌≡◌, ℕ, ◌<◌, ℤ, pos, List, [], ◌∷◌, ◌++◌, length, Bool, true, false, ◌==◌, ◌&&◌, Option, Some, None, slice_get, if◌then◌else◌, IsTrue}
use Rattle.std.specs.List.{AllByRecursion, flat_map}
use Rattle.eds_base.specs.declared.ids.TypeId.{TypeId}
use Rattle.eds_base.specs.Reading.{same as same_text}
use Rattle.eds_base.specs.Spans.{IsWithin}
use Rattle.eds_bits.specs.Lists.{Has}
use Rattle.eds_types.specs.declared.row.TypeRow.{TypeRow}
use Rattle.eds_types.specs.declared.row.Kind.{Kind}
use Rattle.eds_types.specs.declared.row.Kind.TheVariants as kind
use Rattle.eds_types.specs.declared.row.Part.{Part}
use Rattle.eds_types.specs.declared.row.Part.TheVariants as part
use Rattle.eds_types.specs.declared.row.Constraint.{Constraint}
use Rattle.eds_types.specs.Plain.{Plain, num, label, truth, text, bits, items, fields, list_of}
use Rattle.eds_types.specs.Rows.{Table, chain, entries_of, trailers_of, constraints_of, is_concrete, Placed, sequence}

-- ---- fields

-- a value, with the container and the place of the part that holds it
pub record Field : Type 0 where
  pub container : ℕ
  pub place : ℕ
  pub value : Plain

-- the field at a place of a container
abbrev pub field_at : ℕ → ℕ → Plain → Field
field_at y i v = record { container = y; place = i; value = v }

-- the field of a part
abbrev pub field_of : Placed → Plain → Field
field_of p v = field_at p.container p.place v

-- the value of the part at this place of the container
abbrev pub value_at : List Field → ℕ → ℕ → Option Plain
value_at [] y i = None
value_at (f ∷ fs) y i = if f.container == y && f.place == i then Some f.value else value_at fs y i

-- the values of some fields, in order
abbrev pub values_of : List Field → List Plain
values_of [] = []
values_of (f ∷ fs) = f.value ∷ values_of fs

-- whether a part has a value in the fields: entries and lists have
abbrev pub has_value : Part → Bool
has_value (part.Plain name id) = true
has_value (part.Fixed name id v) = false
has_value (part.Pad n) = false
has_value (part.List name id y i) = true
has_value (part.Length name id c0 c1) = false
has_value (part.Check name id k) = false

-- the values, each with the part that holds it, in turn
abbrev pub paired : List Placed → List Plain → List Field
paired [] vs = []
paired (p ∷ ps) [] = []
paired (p ∷ ps) (v ∷ vs) = if has_value p.part then field_of p v ∷ paired ps vs else paired ps (v ∷ vs)

-- ---- what a path leads to

-- the type of a part, if it has one
abbrev pub type_by : Option Part → Option ℕ
type_by None = None
type_by (Some (part.Plain name id)) = Some id.0
type_by (Some (part.Fixed name id v)) = Some id.0
type_by (Some (part.Pad n)) = None
type_by (Some (part.List name id y i)) = Some id.0
type_by (Some (part.Length name id c0 c1)) = Some id.0
type_by (Some (part.Check name id k)) = Some id.0

module _ (t : Table) where
  -- the fields of a value that is a container's
  abbrev pub fields_in : Option Plain → List Field
  fields_in None = []
  fields_in (Some (num n)) = []
  fields_in (Some (label l)) = []
  fields_in (Some (truth b)) = []
  fields_in (Some (text s)) = []
  fields_in (Some (bits n o)) = []
  fields_in (Some (items vs)) = []
  fields_in (Some (fields k vs)) = paired (sequence t k) (list_of vs)

  -- the value on a path: each further name is looked up in the container that the names before it lead to
  abbrev pub value_on : List Field → List (TypeId × ℕ) → Option Plain
  value_on fs [] = None
  value_on fs (p ∷ []) = value_at fs (p.0).0 p.1
  value_on fs (p ∷ q ∷ path) = value_on (fields_in (value_at fs (p.0).0 p.1)) (q ∷ path)

  -- the part at a place of a container
  abbrev pub part_at : TypeId × ℕ → Option Part
  part_at p = slice_get (entries_of t (p.0).0 ++ trailers_of t (p.0).0) p.1

  -- the declared type of the last entry on a path
  abbrev pub type_on : List (TypeId × ℕ) → Option ℕ
  type_on [] = None
  type_on (p ∷ []) = type_by (part_at p)
  type_on (p ∷ q ∷ path) = type_on (q ∷ path)

-- ---- numbers

-- the number of a label in a listing
abbrev pub listed : List (List ℕ × ℤ) → List ℕ → Option ℤ
listed [] l = None
listed (e ∷ es) l = if same_text e.0 l then Some e.1 else listed es l

-- the number of a label of an enumerated kind
abbrev pub labelled_by : Kind → List ℕ → Option ℤ
labelled_by (kind.Int form spans) l = None
labelled_by (kind.Enum form listing) l = listed listing l
labelled_by (kind.Bool form) l = None
labelled_by (kind.Str form) l = None
labelled_by (kind.Bin n free) l = None
labelled_by (kind.Arr item n) l = None
labelled_by (kind.Con c) l = None

-- the same in a row, if there is one
abbrev pub labelled : Option TypeRow → List ℕ → Option ℤ
labelled None l = None
labelled (Some row) l = labelled_by row.kind l

-- the row of a type, if it is there
abbrev pub row_at : Table → Option ℕ → Option TypeRow
row_at t None = None
row_at t (Some id) = slice_get t id

-- the number of a scalar, 0 or 1 for a truth value; that of a container is its type's
abbrev pub number_by : Option TypeRow → Option Plain → Option ℤ
number_by row None = None
number_by row (Some (num n)) = Some n
number_by row (Some (label l)) = labelled row l
number_by row (Some (truth b)) = Some (pos (if b then 1 else 0))
number_by row (Some (text s)) = None
number_by row (Some (bits n o)) = None
number_by row (Some (items vs)) = None
number_by row (Some (fields k vs)) = Some (pos k)

-- the number at a path
abbrev pub number_on : Table → List Field → List (TypeId × ℕ) → Option ℤ
number_on t fs path = number_by (row_at t (type_on t path)) (value_on t fs path)

-- ---- constraints

-- the number at the constraint's path lies in its set
pub record Holds (t : Table) (fs : List Field) (c : Constraint) : Type 0 where
  pub number : ℤ
  pub is : number_on t fs c.path ≡ Some number
  pub within : IsWithin c.set number

-- the type k is x, or derives from it
abbrev pub IsAtOrUnder : Table → ℕ → ℕ → Type 0
IsAtOrUnder t x k = Has (chain t k) x

-- the path starts in an entry, and no trailer, of x or of one of its bases
abbrev pub StartsInEntries : Table → ℕ → List (TypeId × ℕ) → Type 0
StartsInEntries t x [] = ⊥
StartsInEntries t x (p ∷ path) = Has (chain t x) (p.0).0 × (p.1 < length (entries_of t (p.0).0))

-- the constraints of a container and of all its bases
abbrev pub constraints_along : Table → ℕ → List Constraint
constraints_along t k = flat_map (constraints_of t) (chain t k)

-- l may be the container of these fields of x: it is concrete, at or under x, and what its chain asks of entries that
-- are read before the choice at x holds
pub record IsCandidate (t : Table) (x l : ℕ) (fs : List Field) : Type 0 where
  pub concrete : IsTrue (is_concrete t l)
  pub under : IsAtOrUnder t x l
  pub holds : AllByRecursion (λ c. StartsInEntries t x c.path → Holds t fs c) (constraints_along t l)
