-- Bits that are put into a room.
use Rattle.std.specs.Prelude.{◌≡◌, ℕ, ℤ, pos, Bool, ◌+◌, ◌*◌, ◌≤◌, ◌+ℤ◌, ◌*ℤ◌, List, [], ◌∷◌, ◌++◌, length, drop, take, Option, Some, None, Ok, Err, slice_get, IsTrue}
use Rattle.std.specs.List.{flat_map}
use Rattle.eds_base.specs.declared.ids.TypeId.{TypeId}
use Rattle.eds_bits.specs.declared.forms.IntForm.{IntForm}
use Rattle.eds_bits.specs.declared.forms.BoolForm.{BoolForm}
use Rattle.eds_bits.specs.declared.forms.TextForm.{TextForm}
use Rattle.eds_bits.specs.Bits.{Bits, bits_of, octets_for, octets_of, with_piece}
use Rattle.eds_bits.specs.IntForms.{IsNumber}
use Rattle.eds_bits.specs.Scalars.{IsBool, IsText, check_of}
use Rattle.eds_bits.specs.Style.{canonical, is_zero}
use Rattle.eds_types.specs.declared.row.Part.{Part}
use Rattle.eds_types.specs.declared.row.Part.TheVariants as part
use Rattle.eds_types.specs.Fields.{listed}
use Rattle.eds_types.specs.Packing.{most_bits}
use Rattle.eds_types.specs.PackedSizes.{Size, own_size, packed_size_within}
use Rattle.eds_types.specs.Plain.{Plain, num, label, truth, text, bits, items, fields, list_of, Plains, plain}
use Rattle.eds_types.specs.Rows.{Table, entries_of, trailers_of}
use Rattle.eds_types.specs.Spelling.{ItemsSpell, ContainerSpells}
use Rattle.eds_pack.specs.Seeking.{values_in}

-- the bits stand in the room from bit `at` to `end`, and all other bits are as before
abbrev pub IsPut : Bits → ℕ → List ℕ → List ℕ → ℕ → Type 0
IsPut b at old new end = (bits_of new ≡ with_piece at b (bits_of old)) × (end ≡ at + length b)

-- bits that have P fit into the room from bit `at` on
pub record HasRoom (P : Bits → Type 0) (at : ℕ) (room : List ℕ) : Type 0 where
  pub bits : Bits
  pub has : P bits
  pub fits : at + length bits ≤ 8 * length room
  pub few : at + length bits ≤ most_bits

-- all bits that have P, and fit, are put
abbrev pub Writes : (Bits → Type 0) → ℕ → List ℕ → List ℕ → ℕ → Type 0
Writes P at old new end = (b : Bits) → P b → at + length b ≤ 8 * length old → IsPut b at old new end

-- the bits of the room from one to another
abbrev pub between : ℕ → ℕ → List ℕ → Bits
between start at room = drop start (take at (bits_of room))

-- the bits are those of a value of this type, where there is one
abbrev pub IfThere : (Plain → Bits → Type 0) → Option Plain → Bits → Type 0
IfThere P None b = ⊥
IfThere P (Some v) b = P v b

-- the value is a number, and the bits are its canonical ones
abbrev pub NumberSpells : IntForm → Plain → Bits → Type 0
NumberSpells form v b = (n : ℤ) × (v ≡ num n) × IsNumber canonical form n b

-- the value is a label, and the bits are the canonical ones of the number that is listed for it
abbrev pub LabelSpells : IntForm → List (List ℕ × ℤ) → Plain → Bits → Type 0
LabelSpells form listing v b = (l : List ℕ) × (n : ℤ) × (v ≡ label l) × (listed listing l ≡ Some n) × IsNumber canonical form n b

-- the value is a truth value, and the bits are its canonical ones
abbrev pub TruthSpells : BoolForm → Plain → Bits → Type 0
TruthSpells form v b = (x : Bool) × (v ≡ truth x) × IsBool canonical form x b

-- the value is a text, and the bits are its canonical ones
abbrev pub TextSpells : TextForm → Plain → Bits → Type 0
TextSpells form v b = (s : List ℕ) × (v ≡ text s) × IsText canonical form s b

-- the value is a binary of just these bits
abbrev pub BitsSpell : Plain → Bits → Type 0
BitsSpell v b = v ≡ bits (length b) (octets_of b)

-- the bits are those of the items of an array or a list
abbrev pub ListSpells : (Plain → Bits → Type 0) → Plain → Bits → Type 0
ListSpells SpellsInner v b = (vs : Plains) × (v ≡ items vs) × ItemsSpell SpellsInner (list_of vs) b

-- ---- containers

-- the whole octets that a size needs, none where packing fails
abbrev pub octets_in : Size → ℕ
octets_in (Ok n) = octets_for n
octets_in (Err g) = 0

-- the octets of the container k with these values, where at most n types are nested in its parts
abbrev pub own_octets : Table → ℕ → ℕ → List Plain → ℕ
own_octets t n k f = octets_in (own_size t (packed_size_within n t) k f)

-- the first pass finds no fault in them, and not too many bits
pub record IsSized (t : Table) (n k : ℕ) (f : List Plain) : Type 0 where
  pub bits : ℕ
  pub is : own_size t (packed_size_within n t) k f ≡ Ok bits
  pub few : bits ≤ most_bits

-- the entries of containers, one container after the other
abbrev pub entry_parts : Table → List TypeId → List Part
entry_parts t ids = flat_map (λ (id : TypeId). entries_of t id.0) ids

-- the trailers of containers, one container after the other
abbrev pub trailer_parts : Table → List TypeId → List Part
trailer_parts t ids = flat_map (λ (id : TypeId). trailers_of t id.0) ids

module _ (t : Table) (SpellsInner : ℕ → Plain → Bits → Type 0) where
  -- the bits are those of a length entry of a container of so many octets
  abbrev pub LengthSpells : ℕ → TypeId → ℤ → ℤ → Bits → Type 0
  LengthSpells octets id c0 c1 b = (r : ℤ) × (c0 +ℤ (c1 *ℤ r) ≡ pos octets) × SpellsInner id.0 (num r) b

  -- the bits are those of a part, which has this value, in a container of so many octets, behind the bits before it
  abbrev pub PartSpells : ℕ → Bits → Part → Option Plain → Bits → Type 0
  PartSpells octets before (part.Plain name id) v b = IfThere (SpellsInner id.0) v b
  PartSpells octets before (part.Fixed name id w) v b = SpellsInner id.0 (plain w) b
  PartSpells octets before (part.Pad n) v b = (length b ≡ n) × IsTrue (is_zero b)
  PartSpells octets before (part.List name id y i) v b = IfThere (ListSpells (SpellsInner id.0)) v b
  PartSpells octets before (part.Length name id c0 c1) v b = LengthSpells octets id c0 c1 b
  PartSpells octets before (part.Check name id check) v b = SpellsInner id.0 (num (pos (check_of check before))) b

  -- the bits are those of parts, one after the other, whose values are the next ones behind so many
  abbrev pub RunSpells : ℕ → List Plain → ℕ → Bits → List Part → Bits → Type 0
  RunSpells octets f used before [] b = b ≡ []
  RunSpells octets f used before (p ∷ ps) b = (c : Bits) × (d : Bits) × (b ≡ c ++ d) × PartSpells octets before p (slice_get f used) c × RunSpells octets f (used + values_in (p ∷ [])) (before ++ c) ps d

  -- the bits are those of the fields of a container, where the type s is packed
  abbrev pub FieldsSpell : ℕ → Plain → Bits → Type 0
  FieldsSpell s v b = (k : ℕ) × (f : Plains) × (v ≡ fields k f) × ContainerSpells canonical t SpellsInner s k (list_of f) b
