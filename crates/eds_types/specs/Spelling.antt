-- Which bits spell a value of a type.
use Rattle.std.specs.Prelude.{◌≡◌, ◌≢◌, ℕ, zero, suc, ◌*◌, ◌≤◌, ℤ, pos, ◌+ℤ◌, ◌*ℤ◌, nat_abs, List, [], ◌∷◌, ◌++◌, length, Bool, true, false, Option, Some, None, slice_get, IfSome, IsTrue}
use Rattle.std.specs.List.{AllByRecursion}
use Rattle.eds_base.specs.Spans.{IsWithin}
use Rattle.eds_bits.specs.Bits.{Bits, octets_of, octets_for}
use Rattle.eds_bits.specs.Style.{Style, any, canonical, IfCanonical, is_zero}
use Rattle.eds_bits.specs.IntForms.{IsNumber}
use Rattle.eds_bits.specs.Scalars.{IsBool, IsText, check_of}
use Rattle.eds_types.specs.declared.row.TypeRow.{TypeRow}
use Rattle.eds_types.specs.declared.row.Kind.{Kind}
use Rattle.eds_types.specs.declared.row.Kind.TheVariants as kind
use Rattle.eds_types.specs.declared.row.Part.{Part}
use Rattle.eds_types.specs.declared.row.Part.TheVariants as part
use Rattle.eds_types.specs.Plain.{Plain, num, label, truth, text, bits, items, fields, Plains, list_of, plain}
use Rattle.eds_types.specs.Rows.{Table, is_concrete, Placed, sequence}
use Rattle.eds_types.specs.Fields.{Field, value_at, values_of, listed, Holds, IsAtOrUnder, constraints_along, IsCandidate, field_of}

-- ---- how far a container has come

-- the fields of a container so far, its bits so far, and the number of octets that its length entry tells
pub record Progress : Type 0 where
  pub fields : List Field
  pub before : Bits
  pub octets : Option ℤ

-- before the first part
abbrev pub started : Progress
started = record { fields = []; before = []; octets = None }

-- after the bits of a part that has no value
abbrev pub with_bits : Progress → Bits → Progress
with_bits s b = record { fields = s.fields; before = s.before ++ b; octets = s.octets }

-- after the bits of a part and its value
abbrev pub with_value : Progress → Placed → Plain → Bits → Progress
with_value s p v b = record { fields = s.fields ++ field_of p v ∷ []; before = s.before ++ b; octets = s.octets }

-- after the bits of a length entry that tells n octets
abbrev pub with_octets : Progress → ℤ → Bits → Progress
with_octets s n b = record { fields = s.fields; before = s.before ++ b; octets = Some n }

-- the number of the length entry fits the container's size
abbrev pub SizeFits : Progress → Type 0
SizeFits s = IfSome s.octets (λ n. n ≡ pos (octets_for (length s.before)))

-- the number of items that a value tells
abbrev pub count_in : Option Plain → ℕ
count_in None = 0
count_in (Some (num n)) = nat_abs n
count_in (Some (label l)) = 0
count_in (Some (truth b)) = 0
count_in (Some (text s)) = 0
count_in (Some (bits n o)) = 0
count_in (Some (items vs)) = 0
count_in (Some (fields k vs)) = 0

-- how many items the entry at this place of the container tells
abbrev pub count_at : Progress → ℕ → ℕ → ℕ
count_at s y i = count_in (value_at s.fields y i)

-- a binary of n bits, or an open one of at most so many, has m bits
abbrev pub BinHas : ℕ → Bool → ℕ → Type 0
BinHas n false m = m ≡ n
BinHas n true m = (m ≤ n) × ((j : ℕ) × (m ≡ 8 * j))

-- ---- items, parts and containers, where SpellsInner says what spells a value of a type that is nested in this one

-- the bits are one spelling for each item, in order
abbrev pub ItemsSpell : (Plain → Bits → Type 0) → List Plain → Bits → Type 0
ItemsSpell SpellsInner [] b = b ≡ []
ItemsSpell SpellsInner (v ∷ vs) b = (c : Bits) × (d : Bits) × (b ≡ c ++ d) × SpellsInner v c × ItemsSpell SpellsInner vs d

module _ (style : Style) (t : Table) (SpellsInner : ℕ → Plain → Bits → Type 0) where
  -- the bits are those of the part, and lead from one state to the next. A list has as many items as the entry tells;
  -- an error control has the check of the bits before it. A length entry may have any number of its type, which is
  -- compared with the size when all parts are known.
  abbrev pub PartPasses : Progress → Placed → Part → Progress → Bits → Type 0
  PartPasses s p (part.Plain name id) u b = (v : Plain) × SpellsInner id.0 v b × (u ≡ with_value s p v b)
  PartPasses s p (part.Fixed name id v) u b = SpellsInner id.0 (plain v) b × (u ≡ with_bits s b)
  PartPasses s p (part.Pad n) u b = (length b ≡ n) × IfCanonical style (IsTrue (is_zero b)) × (u ≡ with_bits s b)
  PartPasses s p (part.List name id y i) u b = (vs : Plains) × (length (list_of vs) ≡ count_at s y.0 i) × ItemsSpell (SpellsInner id.0) (list_of vs) b × (u ≡ with_value s p (items vs) b)
  PartPasses s p (part.Length name id c0 c1) u b = (r : ℤ) × SpellsInner id.0 (num r) b × (u ≡ with_octets s (c0 +ℤ (c1 *ℤ r)) b)
  PartPasses s p (part.Check name id k) u b = SpellsInner id.0 (num (pos (check_of k s.before))) b × (u ≡ with_bits s b)

  -- the bits are those of the parts, one after the other
  abbrev pub PartsPass : Progress → List Placed → Progress → Bits → Type 0
  PartsPass s [] u b = (u ≡ s) × (b ≡ [])
  PartsPass s (p ∷ ps) u b = (m : Progress) × (c : Bits) × (d : Bits) × (b ≡ c ++ d) × PartPasses s p p.part m c × PartsPass m ps u d

  -- the bits spell the values f of the container k where the type s is read: k is concrete, at or under s, the bits are
  -- those of its sequence and have the told size, all constraints hold, and no container under k may be it too
  pub record ContainerSpells (s k : ℕ) (f : List Plain) (b : Bits) : Type 0 where
    pub concrete : IsTrue (is_concrete t k)
    pub under : IsAtOrUnder t s k
    pub end : Progress
    pub parts : PartsPass started (sequence t k) end b
    pub values : f ≡ values_of end.fields
    pub size : SizeFits end
    pub constraints : AllByRecursion (Holds t end.fields) (constraints_along t k)
    pub most_derived : (l : ℕ) → l ≢ k → IsAtOrUnder t k l → IsCandidate t k l end.fields → ⊥

  -- the bits spell the value, by the kind of the type
  abbrev pub KindSpells : ℕ → Kind → Plain → Bits → Type 0
  KindSpells id (kind.Int form spans) v b = (n : ℤ) × (v ≡ num n) × IsWithin spans n × IsNumber style form n b
  KindSpells id (kind.Enum form listing) v b = (l : List ℕ) × (n : ℤ) × (v ≡ label l) × (listed listing l ≡ Some n) × IsNumber style form n b
  KindSpells id (kind.Bool form) v b = (x : Bool) × (v ≡ truth x) × IsBool style form x b
  KindSpells id (kind.Str form) v b = (s : List ℕ) × (v ≡ text s) × IsText style form s b
  KindSpells id (kind.Bin n free) v b = BinHas n free (length b) × (v ≡ bits (length b) (octets_of b))
  KindSpells id (kind.Arr item n) v b = (vs : Plains) × (v ≡ items vs) × (length (list_of vs) ≡ n) × ItemsSpell (SpellsInner item.0) (list_of vs) b
  KindSpells id (kind.Con c) v b = (k : ℕ) × (f : Plains) × (v ≡ fields k f) × ContainerSpells id k (list_of f) b

-- ---- all types

-- the bits spell the value, where at most n types are nested in each other
unfoldable pub SpellsWithin : ℕ → Style → Table → ℕ → Plain → Bits → Type 0
SpellsWithin zero style t id v b = ⊥
SpellsWithin (suc n) style t id v b = (row : TypeRow) × (slice_get t id ≡ Some row) × KindSpells style t (SpellsWithin n style t) id row.kind v b

-- the bits spell the value: at most 32 types are nested in each other
abbrev pub Spells : Table → ℕ → Plain → Bits → Type 0
Spells t id v b = SpellsWithin 32 any t id v b

-- the bits are the canonical spelling of the value, which a packer writes
abbrev pub Canon : Table → ℕ → Plain → Bits → Type 0
Canon t id v b = SpellsWithin 32 canonical t id v b
