-- What a layout says of the bits that spell a value.
use Rattle.std.specs.Prelude.{◌≡◌, ℕ, ℤ, List, length, Some, IfSome}
use Rattle.std.specs.List.{AllByRecursion}
use Rattle.eds_base.specs.Spans.{IsWithin}
use Rattle.eds_bits.specs.Bits.{Bits}
use Rattle.eds_bits.specs.Lists.{HasOne}
use Rattle.eds_types.specs.declared.sets.PathSet.{PathSet}
use Rattle.eds_types.specs.Fields.{Field, paired, number_on}
use Rattle.eds_types.specs.Plain.{Plain, num, label, truth, text, bits, items, fields, list_of}
use Rattle.eds_types.specs.Rows.{Table, sequence}
use Rattle.eds_types.specs.Rules.{KeepsRules}
use Rattle.eds_types.specs.Spelling.{Spells}
use Rattle.eds_layout.specs.declared.layout.TypeLayout.{TypeLayout}
use Rattle.eds_layout.specs.Layouts.{IsLayout}
use Rattle.eds_layout.specs.Pieces.{IsCut, StandAt}

-- there is a number on the set's path, and it lies in it
pub record HasNumberOf (t : Table) (fs : List Field) (s : PathSet) : Type 0 where
  pub number : ℤ
  pub is : number_on t fs s.path ≡ Some number
  pub within : IsWithin s.set number

-- what the layout of a container says of bits that spell a value of it, with these fields
pub record TellsOf (t : Table) (l : TypeLayout) (f : List Plain) (b : Bits) : Type 0 where
  -- they can be cut into the bits of its parts
  pub cut : (pieces : List Bits) × IsCut t l.id.0 f b pieces
  -- however they are cut so, each part stands where its row says
  pub rows : (pieces : List Bits) → IsCut t l.id.0 f b pieces → StandAt 0 l.rows pieces
  -- they are as many as it says
  pub bits : IfSome l.bits (λ n. length b ≡ n)
  -- each number that a constraint speaks of lies in its set
  pub sets : AllByRecursion (HasNumberOf t (paired (sequence t l.id.0) f)) l.sets

-- the bits are as many as the layout says
abbrev pub TellsSize : TypeLayout → Bits → Type 0
TellsSize l b = IfSome l.bits (λ n. length b ≡ n)

-- what layouts say of bits that spell a value: of fields, what the one of their container says
abbrev pub Tells : Table → List TypeLayout → Plain → Bits → Type 0
Tells t layout (num n) b = HasOne (λ (l : TypeLayout). TellsSize l b) layout
Tells t layout (label s) b = HasOne (λ (l : TypeLayout). TellsSize l b) layout
Tells t layout (truth x) b = HasOne (λ (l : TypeLayout). TellsSize l b) layout
Tells t layout (text s) b = HasOne (λ (l : TypeLayout). TellsSize l b) layout
Tells t layout (bits n o) b = HasOne (λ (l : TypeLayout). TellsSize l b) layout
Tells t layout (items vs) b = HasOne (λ (l : TypeLayout). TellsSize l b) layout
Tells t layout (fields k f) b = HasOne (λ (l : TypeLayout). (l.id.0 ≡ k) × TellsOf t l (list_of f) b) layout

-- the layouts tell of each spelling of each value of the type
abbrev pub TellsAll : Table → ℕ → List TypeLayout → Type 0
TellsAll t id layout = (v : Plain) (b : Bits) → Spells t id v b → Tells t layout v b

-- in every spelling of a value each part stands where the layout says, and the sizes and numbers are those that it says
abbrev pub LayoutsTell : Type 0
LayoutsTell = (t : Table) (id : ℕ) → KeepsRules t → (layout : List TypeLayout) → IsLayout t id layout → TellsAll t id layout

-- each type has a layout
abbrev pub HasLayouts : Type 0
HasLayouts = (t : Table) (id : ℕ) → KeepsRules t → (layout : List TypeLayout) × IsLayout t id layout
