-- The default of a type: what a variable without an initial value starts with.
use Rattle.std.specs.Prelude.{◌≡◌, ℕ, zero, suc, ℤ, pos, ◌≤ℤ◌, List, [], ◌∷◌, ◌++◌, replicate, Bool, false, Some, cond, if◌then◌else◌, slice_get, IsTrue, ◌⊎◌}
use Rattle.eds_base.specs.declared.spans.Span.{Span}
use Rattle.eds_base.specs.Spans.{IsWithin}
use Rattle.eds_bits.specs.Bits.{octets_of}
use Rattle.eds_types.specs.declared.row.Constraint.{Constraint}
use Rattle.eds_types.specs.declared.row.Kind.{Kind}
use Rattle.eds_types.specs.declared.row.Kind.TheVariants as kind
use Rattle.eds_types.specs.declared.row.Part.{Part}
use Rattle.eds_types.specs.declared.row.Part.TheVariants as part
use Rattle.eds_types.specs.declared.row.TypeRow.{TypeRow}
use Rattle.eds_types.specs.Fields.{constraints_along, listed}
use Rattle.eds_types.specs.Overlap.{IsConstrained, IsSolution}
use Rattle.eds_types.specs.Plain.{Plain, num, label, truth, text, bits, items, fields, plains_of}
use Rattle.eds_types.specs.Rows.{Table, Placed, address, is_concrete, sequence}
use Rattle.eds_pack.specs.Packs.{Packs}

-- ---- numbers

-- n is the least number that has P
pub record IsLeast (P : ℤ → Type 0) (n : ℤ) : Type 0 where
  pub has : P n
  pub least : (m : ℤ) → P m → n ≤ℤ m

-- 0 where the domain has it, and else the least number of the domain
abbrev pub IsFirst : List Span → ℤ → Type 0
IsFirst spans n = (IsWithin spans (pos 0) × (n ≡ pos 0)) ⊎ ((IsWithin spans (pos 0) → ⊥) × IsLeast (IsWithin spans) n)

-- so many bits, all zero
abbrev pub zero_bits : ℕ → Plain
zero_bits n = bits n (octets_of (replicate n false))

-- ---- types, where DefaultsInner says what is the default of a type that is nested in this one

module _ (t : Table) (DefaultsInner : ℕ → Plain → Type 0) where
  -- the value of a kind that a constraint's number stands for: the number, the label that is listed with it, the truth
  -- value, or the default of the container with this id
  abbrev pub StandsFor : Kind → ℤ → Plain → Type 0
  StandsFor (kind.Int form spans) n v = v ≡ num n
  StandsFor (kind.Enum form listing) n v = (l : List ℕ) × (v ≡ label l) × (listed listing l ≡ Some n)
  StandsFor (kind.Bool form) n v = (b : Bool) × (v ≡ truth b) × (n ≡ pos (if b then 1 else 0))
  StandsFor (kind.Str form) n v = ⊥
  StandsFor (kind.Bin m free) n v = ⊥
  StandsFor (kind.Arr item m) n v = ⊥
  StandsFor (kind.Con c) n v = (k : ℕ) × (n ≡ pos k) × DefaultsInner k v

  -- the default of an entry that constraints of the chain name directly: that of the least number that all of them and
  -- its domain have
  abbrev pub LeastDefaults : List Constraint → Placed → ℕ → Plain → Type 0
  LeastDefaults cs p id v = (row : TypeRow) × (slice_get t id ≡ Some row) × ((n : ℤ) × IsLeast (IsSolution t cs (address p ∷ [])) n × StandsFor row.kind n v)

  -- any other entry has its type's
  abbrev pub EntryDefaults : List Constraint → Placed → ℕ → Plain → Type 0
  EntryDefaults cs p id v = (IsConstrained cs (address p ∷ []) × LeastDefaults cs p id v) ⊎ ((IsConstrained cs (address p ∷ []) → ⊥) × DefaultsInner id v)

  -- the values of a part, none or one: a list has no items
  abbrev pub PartDefaults : List Constraint → Placed → Part → List Plain → Type 0
  PartDefaults cs p (part.Plain name id) f = (v : Plain) × (f ≡ v ∷ []) × EntryDefaults cs p id.0 v
  PartDefaults cs p (part.Fixed name id v) f = f ≡ []
  PartDefaults cs p (part.Pad n) f = f ≡ []
  PartDefaults cs p (part.List name id y i) f = f ≡ items (plains_of []) ∷ []
  PartDefaults cs p (part.Length name id c0 c1) f = f ≡ []
  PartDefaults cs p (part.Check name id check) f = f ≡ []

  -- the values of parts, in turn
  abbrev pub PartsDefault : List Constraint → List Placed → List Plain → Type 0
  PartsDefault cs [] f = f ≡ []
  PartsDefault cs (p ∷ ps) f = (g : List Plain) × (h : List Plain) × (f ≡ g ++ h) × PartDefaults cs p p.part g × PartsDefault cs ps h

  -- so many items, each the default of their type
  abbrev pub ItemsDefault : ℕ → ℕ → Plain → Type 0
  ItemsDefault id n v = (w : Plain) × DefaultsInner id w × (v ≡ items (plains_of (replicate n w)))

  -- the container with the values of its parts; an abstract one has none
  abbrev pub FieldsDefault : ℕ → Plain → Type 0
  FieldsDefault id v = IsTrue (is_concrete t id) × ((f : List Plain) × PartsDefault (constraints_along t id) (sequence t id) f × (v ≡ fields id (plains_of f)))

  -- by the kind of the type
  abbrev pub KindDefaults : ℕ → Kind → Plain → Type 0
  KindDefaults id (kind.Int form spans) v = (n : ℤ) × (v ≡ num n) × IsFirst spans n
  KindDefaults id (kind.Enum form listing) v = (l : List ℕ) × (n : ℤ) × (others : List (List ℕ × ℤ)) × (listing ≡ (l, n) ∷ others) × (v ≡ label l)
  KindDefaults id (kind.Bool form) v = v ≡ truth false
  KindDefaults id (kind.Str form) v = v ≡ text []
  KindDefaults id (kind.Bin n free) v = v ≡ zero_bits (cond free 0 n)
  KindDefaults id (kind.Arr item n) v = ItemsDefault item.0 n v
  KindDefaults id (kind.Con c) v = FieldsDefault id v

-- where at most n types are nested in each other
unfoldable pub DefaultsWithin : ℕ → Table → ℕ → Plain → Type 0
DefaultsWithin zero t id v = ⊥
DefaultsWithin (suc n) t id v = (row : TypeRow) × (slice_get t id ≡ Some row) × KindDefaults t (DefaultsWithin n t) id row.kind v

-- the value is the default of the type: one that doesn't pack is none
pub record IsDefault (t : Table) (id : ℕ) (v : Plain) : Type 0 where
  pub is : DefaultsWithin 32 t id v
  pub size : ℕ
  pub packs : Packs t id v size
