-- Building a default: what the code's steps come to.
use Rattle.std.specs.Prelude.{◌≡◌, ◌↔◌, ℕ, ℤ, pos, ◌+◌, ◌<◌, ◌≤◌, List, [], ◌∷◌, ◌++◌, length, Bool, true, false, Option, Some, None, IsTrue, ◌⊎◌, if◌then◌else◌, map, Vec}
use Rattle.std.specs.Global.{Global}
use Rattle.std.specs.List.{AllByRecursion}
use Rattle.eds_base.specs.declared.ids.TypeId.{TypeId}
use Rattle.eds_base.specs.declared.spans.Span.{Span}
use Rattle.eds_base.specs.Spans.{IsWithin}
use Rattle.eds_bits.specs.Bits.{Bits}
use Rattle.eds_bits.specs.Lists.{HasOne}
use Rattle.eds_types.specs.declared.row.Constraint.{Constraint}
use Rattle.eds_types.specs.declared.row.Part.{Part}
use Rattle.eds_types.specs.declared.row.Part.TheVariants as part
use Rattle.eds_types.specs.declared.row.Kind.{Kind}
use Rattle.eds_types.specs.Domains.{InDomainOf}
use Rattle.eds_types.specs.Fields.{IsAtOrUnder, listed}
use Rattle.eds_types.specs.Overlap.{IsConstrained}
use Rattle.eds_types.specs.Plain.{Plain, Plains, label, truth, items, list_of, plain}
use Rattle.eds_types.specs.declared.value.Value.{Value}
use Rattle.eds_types.specs.Spelling.{ItemsSpell}
use Rattle.eds_types.specs.Rows.{Table, Placed, is_concrete}
use Rattle.eds_pack.specs.Defaults.{IsLeast, StandsFor}

-- ---- numbers

-- the least number that has P, if one has it
abbrev pub LeastOf : (ℤ → Type 0) → Option ℤ → Type 0
LeastOf P None = (n : ℤ) → P n → ⊥
LeastOf P (Some n) = IsLeast P n

-- all constraints on the path have the number
abbrev pub AllHave : List Constraint → List (TypeId × ℕ) → ℤ → Type 0
AllHave cs path n = AllByRecursion (λ c. c.path ≡ path → IsWithin c.set n) cs

-- the numbers that all constraints on the path have, where there is such a constraint
abbrev pub Asked : List Constraint → List (TypeId × ℕ) → Option (List Span) → Type 0
Asked cs path None = IsConstrained cs path → ⊥
Asked cs path (Some s) = IsConstrained cs path × ((n : ℤ) → IsWithin s n ↔ AllHave cs path n)

-- a set of the numbers that are in another, and in others, if there are any
abbrev pub Meets : Option (List Span) → List Span → List Span → Type 0
Meets None set s = (n : ℤ) → IsWithin s n ↔ IsWithin set n
Meets (Some others) set s = (n : ℤ) → IsWithin s n ↔ (IsWithin others n × IsWithin set n)

-- the number is listed with some label, and is in the set
abbrev pub IsListedIn : List (List ℕ × ℤ) → List Span → ℤ → Type 0
IsListedIn listing s n = HasOne (λ e. e.1 ≡ n) listing × IsWithin s n

-- the number is that of a concrete container at or under the type, and is in the set
abbrev pub HasContainer : Table → ℕ → List Span → ℤ → Type 0
HasContainer t id s n = (k : ℕ) × (n ≡ pos k) × IsTrue (is_concrete t k) × IsAtOrUnder t id k × IsWithin s n

-- the label is listed with the number, if one is
abbrev pub LabelOf : List (List ℕ × ℤ) → ℤ → Option (List ℕ) → Type 0
LabelOf listing n None = HasOne (λ e. e.1 ≡ n) listing → ⊥
LabelOf listing n (Some l) = HasOne (λ e. e ≡ (l, n)) listing

-- ---- values

-- something that has P, if anything has it
abbrev pub Chosen : {A : Type 0} → (A → Type 0) → Option A → Type 0
Chosen P None = (v : _) → P v → ⊥
Chosen P (Some v) = P v

-- the first label of a listing
abbrev pub IsFirstLabel : List (List ℕ × ℤ) → Plain → Type 0
IsFirstLabel listing v = (l : List ℕ) × (n : ℤ) × (others : List (List ℕ × ℤ)) × (listing ≡ (l, n) ∷ others) × (v ≡ label l)

-- the label with the least number of a listing that is in a set
abbrev pub IsLeastLabel : List (List ℕ × ℤ) → List Span → Plain → Type 0
IsLeastLabel listing s v = (n : ℤ) × IsLeast (IsListedIn listing s) n × ((l : List ℕ) × (v ≡ label l) × (listed listing l ≡ Some n))

-- the truth value that stands for the least of 0 and 1 that is in a set
abbrev pub IsLeastTruth : List Span → Plain → Type 0
IsLeastTruth s v = (n : ℤ) × IsLeast (λ m. ((m ≡ pos 0) ⊎ (m ≡ pos 1)) × IsWithin s m) n × ((b : Bool) × (v ≡ truth b) × (n ≡ pos (if b then 1 else 0)))

-- the bits spell so many items
abbrev pub ItemsHold : (Plain → Bits → Type 0) → ℕ → Plain → Bits → Type 0
ItemsHold Spells n v b = (vs : Plains) × (v ≡ items vs) × (length (list_of vs) ≡ n) × ItemsSpell Spells (list_of vs) b

-- the plain data of values
abbrev pub plain_items : Vec Value Global → List Plain
plain_items vs = map plain vs.items

-- the value of a kind that stands for the least number of its domain that is in a set
abbrev pub AskedOf : Table → (ℕ → Plain → Type 0) → ℕ → Kind → List Span → Plain → Type 0
AskedOf t DefaultsInner id k s v = (n : ℤ) × IsLeast (λ m. InDomainOf t id k m × IsWithin s m) n × StandsFor t DefaultsInner k n v

-- what building something with P comes to, where S says which bits spell it, and `old` and `new` are the bits that may be
-- built before and after: it, and no spelling of such a thing has fewer bits than were taken; or nothing, and each
-- spelling of such a thing has more bits than there were
abbrev pub Built : {A : Type 0} → (A → Type 0) → (A → Bits → Type 0) → ℕ → ℕ → Option A → Type 0
Built P S old new None = (v : _) (b : Bits) → P v → S v b → old < length b
Built P S old new (Some v) = P v × (new ≤ old) × ((w : _) (b : Bits) → P w → S w b → old ≤ new + length b)

-- values that were built behind others, if they were
abbrev pub BuiltBehind : (List Plain → Type 0) → (List Plain → Bits → Type 0) → ℕ → ℕ → List Plain → List Plain → Bool → Type 0
BuiltBehind P S old new before after false = Built P S old new None
BuiltBehind P S old new before after true = (vs : List Plain) × (after ≡ before ++ vs) × Built P S old new (Some vs)

-- ---- the parts of a container, where SpellsInner says what spells a value of a part's type

module _ (SpellsInner : ℕ → Plain → Bits → Type 0) where
  -- the values of the part, none or one, and the bits of an entry
  abbrev pub PartHolds : Part → List Plain → Bits → Type 0
  PartHolds (part.Plain name id) f b = (v : Plain) × (f ≡ v ∷ []) × SpellsInner id.0 v b
  PartHolds (part.Fixed name id v) f b = f ≡ []
  PartHolds (part.Pad n) f b = f ≡ []
  PartHolds (part.List name id y i) f b = (v : Plain) × (f ≡ v ∷ [])
  PartHolds (part.Length name id c0 c1) f b = f ≡ []
  PartHolds (part.Check name id check) f b = f ≡ []

  -- those of parts, in turn
  abbrev pub PartsHold : List Placed → List Plain → Bits → Type 0
  PartsHold [] f b = (f ≡ []) × (b ≡ [])
  PartsHold (p ∷ ps) f b = (g : List Plain) × (h : List Plain) × (c : Bits) × (d : Bits) × (f ≡ g ++ h) × (b ≡ c ++ d) × PartHolds p.part g c × PartsHold ps h d
