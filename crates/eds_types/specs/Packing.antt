-- Where packing a value fails, and why.
use Rattle.std.specs.Prelude.{◌≡◌, ◌≢◌, ℕ, zero, suc, ◌+◌, ◌<◌, min, ℤ, pos, List, [], ◌∷◌, length, Bool, false, Option, Some, None, IsSome, ◌⊎◌, if◌then◌else◌, slice_get, IsTrue}
use Rattle.eds_base.specs.declared.fault.Step.{Step}
use Rattle.eds_base.specs.declared.fault.Step.TheVariants as step
use Rattle.eds_base.specs.Spans.{IsWithin}
use Rattle.eds_base.specs.declared.spans.Span.{Span}
use Rattle.eds_bits.specs.declared.forms.TextForm.{TextForm}
use Rattle.eds_bits.specs.Lists.{Has}
use Rattle.eds_bits.specs.Bits.{Bits, octets_of}
use Rattle.eds_bits.specs.Style.{canonical}
use Rattle.eds_bits.specs.Scalars.{IsCoded}
use Rattle.eds_types.specs.declared.reason.PackReason.{PackReason}
use Rattle.eds_types.specs.declared.reason.PackReason.TheVariants as reason
use Rattle.eds_types.specs.declared.row.TypeRow.{TypeRow}
use Rattle.eds_types.specs.declared.row.Kind.{Kind}
use Rattle.eds_types.specs.declared.row.Kind.TheVariants as kind
use Rattle.eds_types.specs.declared.row.Part.{Part}
use Rattle.eds_types.specs.declared.row.Part.TheVariants as part
use Rattle.eds_types.specs.Plain.{Plain, num, label, truth, text, bits, items, fields, Plains, list_of}
use Rattle.eds_types.specs.Rows.{Table, id_of, Placed, container_of, is_concrete, sequence}
use Rattle.eds_types.specs.Fields.{Field, has_value, value_at, paired, listed, Holds, IsAtOrUnder, IsCandidate}
use Rattle.eds_types.specs.Spelling.{Progress, started, PartsPass, SizeFits, BinHas, SpellsWithin, Canon}
use Rattle.eds_types.specs.Failing.{Station, condition, entry, choice, end, course, length_path, path_steps}

-- why packing stops, and the steps from the whole value to the place where it does
pub record PackFault : Type 0 where
  pub reason : PackReason
  pub path : List Step

-- the fault of this reason at this path
abbrev pub pack_fault_at : PackReason → List Step → PackFault
pack_fault_at why path = record { reason = why; path = path }

-- the same fault, seen from one step further out
abbrev pub pack_fault_behind : Step → PackFault → PackFault
pack_fault_behind s g = pack_fault_at g.reason (s ∷ g.path)

-- a fault of the whole value
abbrev pub pack_fault_here : PackReason → PackFault
pack_fault_here why = pack_fault_at why []

-- the step into the item with the number j. A step holds the numbers below 2^32: the last of them stands for any that is
-- larger
abbrev pub item_step : ℕ → Step
item_step j = step.Item (min j 4294967295)

-- ---- the stations that fields don't pass, where Fails says where packing a value of a nested type fails

-- the first item that fails, after those that don't; the first of the list has the number j
abbrev pub ItemPackFails : (Plain → PackFault → Type 0) → ℕ → List Plain → PackFault → Type 0
ItemPackFails FailsInner j [] g = ⊥
ItemPackFails FailsInner j (v ∷ vs) g = ((w : PackFault) × FailsInner v w × (g ≡ pack_fault_behind (item_step j) w)) ⊎ (((w : PackFault) → FailsInner v w → ⊥) × ItemPackFails FailsInner (j + 1) vs g)

module _ (t : Table) (FailsInner : ℕ → Plain → PackFault → Type 0) (fs : List Field) where
  -- the entry at this place of the container tells the number of items
  abbrev pub Tells : ℕ → ℕ → List Plain → Type 0
  Tells y i vs = value_at fs y i ≡ Some (num (pos (length vs)))

  -- where packing a list fails: it is none; or the entry at y, i tells another number; or an item fails
  abbrev pub ListPackFails : ℕ → ℕ → ℕ → Option Plain → PackFault → Type 0
  ListPackFails id y i None g = ⊥
  ListPackFails id y i (Some (num n)) g = g ≡ pack_fault_here reason.WrongKind
  ListPackFails id y i (Some (label l)) g = g ≡ pack_fault_here reason.WrongKind
  ListPackFails id y i (Some (truth b)) g = g ≡ pack_fault_here reason.WrongKind
  ListPackFails id y i (Some (text s)) g = g ≡ pack_fault_here reason.WrongKind
  ListPackFails id y i (Some (bits n o)) g = g ≡ pack_fault_here reason.WrongKind
  ListPackFails id y i (Some (fields k vs)) g = g ≡ pack_fault_here reason.WrongKind
  ListPackFails id y i (Some (items vs)) g =
      ((Tells y i (list_of vs) → ⊥) × (g ≡ pack_fault_here reason.CountWrong))
      ⊎ (Tells y i (list_of vs) × ItemPackFails (FailsInner id) 0 (list_of vs) g)

  -- a part without a value in the fields never fails here
  abbrev pub PartPackFails : Placed → Part → PackFault → Type 0
  PartPackFails p (part.Plain name id) g = (v : Plain) × (value_at fs p.container p.place ≡ Some v) × FailsInner id.0 v g
  PartPackFails p (part.Fixed name id v) g = ⊥
  PartPackFails p (part.Pad n) g = ⊥
  PartPackFails p (part.List name id y i) g = ListPackFails id.0 y.0 i (value_at fs p.container p.place) g
  PartPackFails p (part.Length name id c0 c1) g = ⊥
  PartPackFails p (part.Check name id k) g = ⊥

  -- the fields don't pass the station of x; NoSize says that no number of the length entry fits
  abbrev pub StationPackFails : Type 0 → ℕ → Station → PackFault → Type 0
  StationPackFails NoSize x (condition y c) g = (Holds t fs c → ⊥) × (g ≡ pack_fault_at reason.Constraint (path_steps c.path))
  StationPackFails NoSize x (entry p) g = (w : PackFault) × PartPackFails p p.part w × (g ≡ pack_fault_behind (step.Part (id_of p.container) p.place) w)
  StationPackFails NoSize x (choice y) g = (l : ℕ) × (l ≢ x) × IsAtOrUnder t x l × IsCandidate t x l fs × (g ≡ pack_fault_at reason.NotMostDerived (step.Choice (id_of x) ∷ []))
  StationPackFails NoSize x end g = NoSize × (g ≡ pack_fault_at reason.LengthField (length_path t x))

  -- the first station that they don't pass, after those that they do
  abbrev pub FirstPackFails : Type 0 → ℕ → List Station → PackFault → Type 0
  FirstPackFails NoSize x [] g = ⊥
  FirstPackFails NoSize x (s ∷ ss) g = StationPackFails NoSize x s g ⊎ (((w : PackFault) → StationPackFails NoSize x s w → ⊥) × FirstPackFails NoSize x ss g)

-- ---- values that don't pack

-- the value is of the sort that the kind's values are: a number, a label, a truth value, a text, bits, items or fields
abbrev pub IsOfKind : Kind → Plain → Type 0
IsOfKind (kind.Int form spans) (num n) = Unit {0}
IsOfKind (kind.Enum form listing) (label l) = Unit {0}
IsOfKind (kind.Bool form) (truth b) = Unit {0}
IsOfKind (kind.Str form) (text s) = Unit {0}
IsOfKind (kind.Bin n free) (bits m o) = Unit {0}
IsOfKind (kind.Arr item n) (items vs) = Unit {0}
IsOfKind (kind.Con c) (fields k vs) = Unit {0}
IsOfKind k v = ⊥

-- the text is one of the encoding, and doesn't hold its termination octet
abbrev pub TextFits : TextForm → List ℕ → Type 0
TextFits form s = IsCoded form.ascii s × (Has s form.stop → ⊥)

-- the octets are those of n bits, the last filled with zeros
abbrev pub IsFilled : ℕ → List ℕ → Type 0
IsFilled n o = (b : Bits) × (length b ≡ n) × (octets_of b ≡ o)

-- how many parts have a value in the fields
abbrev pub valued : List Placed → ℕ
valued [] = 0
valued (p ∷ ps) = (if has_value p.part then 1 else 0) + valued ps

-- k is a container, and f has one value for each of its entries and lists
pub record HasFields (t : Table) (k : ℕ) (f : List Plain) : Type 0 where
  pub container : IsSome (container_of t k)
  pub count : length f ≡ valued (sequence t k)

-- SpellsInner says what is the canonical spelling of a value of a nested type
module _ (t : Table) (SpellsInner : ℕ → Plain → Bits → Type 0) (FailsInner : ℕ → Plain → PackFault → Type 0) where
  -- no canonical bits of these fields have the size that the length entry tells, whatever its number
  abbrev pub NoSizeFits : ℕ → List Field → Type 0
  NoSizeFits k fs = (u : Progress) (b : Bits) → PartsPass canonical t SpellsInner started (sequence t k) u b → u.fields ≡ fs → SizeFits u → ⊥

  -- they aren't the fields of a container
  abbrev pub HasOtherFields : ℕ → List Plain → PackFault → Type 0
  HasOtherFields k f g = (HasFields t k f → ⊥) × (g ≡ pack_fault_here reason.WrongKind)

  -- of one that neither is the type s nor derives from it
  abbrev pub IsNotDerived : ℕ → ℕ → List Plain → PackFault → Type 0
  IsNotDerived s k f g = HasFields t k f × (IsAtOrUnder t s k → ⊥) × (g ≡ pack_fault_at reason.NotDerived (step.Choice (id_of k) ∷ []))

  -- of one that does, but is abstract
  abbrev pub IsAbstract : ℕ → ℕ → List Plain → PackFault → Type 0
  IsAbstract s k f g = HasFields t k f × IsAtOrUnder t s k × (is_concrete t k ≡ false) × (g ≡ pack_fault_at reason.Abstract (step.Choice (id_of k) ∷ []))

  -- the first station of its own course that the fields don't pass
  abbrev pub OwnCourseFails : ℕ → List Plain → PackFault → Type 0
  OwnCourseFails k f g = let fs = paired (sequence t k) f in FirstPackFails t FailsInner fs (NoSizeFits k fs) k (course t k k) g

  -- of a concrete one
  abbrev pub CourseFails : ℕ → ℕ → List Plain → PackFault → Type 0
  CourseFails s k f g = HasFields t k f × IsAtOrUnder t s k × IsTrue (is_concrete t k) × OwnCourseFails k f g

  -- the fields f of k, where the type s is packed
  abbrev pub ContainerPackFails : ℕ → ℕ → List Plain → PackFault → Type 0
  ContainerPackFails s k f g = HasOtherFields k f g ⊎ IsNotDerived s k f g ⊎ IsAbstract s k f g ⊎ CourseFails s k f g

  -- ---- a value of the right kind

  -- a number that isn't of the domain
  abbrev pub NumberFails : List Span → Plain → PackFault → Type 0
  NumberFails spans v g = (n : ℤ) × (v ≡ num n) × (IsWithin spans n → ⊥) × (g ≡ pack_fault_here reason.OutOfRange)

  -- a label that isn't listed
  abbrev pub LabelFails : List (List ℕ × ℤ) → Plain → PackFault → Type 0
  LabelFails listing v g = (l : List ℕ) × (v ≡ label l) × (listed listing l ≡ None) × (g ≡ pack_fault_here reason.NoLabel)

  -- a text that isn't one of its form, or else is too long
  abbrev pub TextFails : TextForm → List ℕ → PackFault → Type 0
  TextFails form s g = ((TextFits form s → ⊥) × (g ≡ pack_fault_here reason.BadText)) ⊎ (TextFits form s × (form.length < length s) × (g ≡ pack_fault_here reason.WrongSize))

  -- bits of another number, or with octets that aren't theirs
  abbrev pub BinaryFails : ℕ → Bool → Plain → PackFault → Type 0
  BinaryFails n free v g = (m : ℕ) × (o : List ℕ) × (v ≡ bits m o) × ((BinHas n free m × IsFilled m o) → ⊥) × (g ≡ pack_fault_here reason.WrongSize)

  -- another number of items than n, or else the first item that fails
  abbrev pub ItemsFail : ℕ → ℕ → List Plain → PackFault → Type 0
  ItemsFail item n vs g = ((length vs ≢ n) × (g ≡ pack_fault_here reason.WrongSize)) ⊎ ((length vs ≡ n) × ItemPackFails (FailsInner item) 0 vs g)

  -- why a value of the kind's own sort fails
  abbrev pub OfKindFails : ℕ → Kind → Plain → PackFault → Type 0
  OfKindFails id (kind.Int form spans) v g = NumberFails spans v g
  OfKindFails id (kind.Enum form listing) v g = LabelFails listing v g
  OfKindFails id (kind.Bool form) v g = ⊥
  OfKindFails id (kind.Str form) v g = (s : List ℕ) × (v ≡ text s) × TextFails form s g
  OfKindFails id (kind.Bin n free) v g = BinaryFails n free v g
  OfKindFails id (kind.Arr item n) v g = (vs : Plains) × (v ≡ items vs) × ItemsFail item.0 n (list_of vs) g
  OfKindFails id (kind.Con c) v g = (k : ℕ) × (f : Plains) × (v ≡ fields k f) × ContainerPackFails id k (list_of f) g

  -- why a value fails as one of the kind
  abbrev pub KindPackFails : ℕ → Kind → Plain → PackFault → Type 0
  KindPackFails id k v g = ((IsOfKind k v → ⊥) × (g ≡ pack_fault_here reason.WrongKind)) ⊎ OfKindFails id k v g

-- ---- all types

-- packing the value fails for another reason than its size, where at most n types are nested in each other
unfoldable pub PackFailsWithin : ℕ → Table → ℕ → Plain → PackFault → Type 0
PackFailsWithin zero t id v g = ⊥
PackFailsWithin (suc n) t id v g = (row : TypeRow) × (slice_get t id ≡ Some row) × KindPackFails t (SpellsWithin n canonical t) (PackFailsWithin n t) id row.kind v g

-- the most bits that a packed value may have
abbrev pub most_bits : ℕ
most_bits = 524288

-- nothing else fails, and the canonical spelling has too many bits
pub record IsTooLong (t : Table) (id : ℕ) (v : Plain) : Type 0 where
  pub nothing_else : (w : PackFault) → PackFailsWithin 32 t id v w → ⊥
  pub spelling : Bits
  pub is : Canon t id v spelling
  pub long : most_bits < length spelling

-- packing the value as the type fails for this reason at this path
abbrev pub PackFailsAt : Table → ℕ → Plain → PackFault → Type 0
PackFailsAt t id v g = PackFailsWithin 32 t id v g ⊎ (IsTooLong t id v × (g ≡ pack_fault_here reason.TooLong))
