-- Templates: containers all of whose parts are scalars and texts of fixed size, which so stand at fixed places.
use Rattle.std.specs.Prelude.{◌+◌, ◌≡◌, ℕ, ◌*◌, ◌^◌, ◌≤◌, ℤ, pos, nat_abs, ◌+ℤ◌, ◌*ℤ◌, List, [], ◌∷◌, ◌++◌, map, true, Option, Some, None, slice_get, take, drop}
use Rattle.eds_base.specs.declared.ids.TypeId.{TypeId}
use Rattle.eds_bits.specs.Bits.{Bits}
use Rattle.eds_bits.specs.Scalars.{IsText, check_of}
use Rattle.eds_bits.specs.Style.{any}
use Rattle.eds_types.specs.declared.row.Kind.TheVariants as kind
use Rattle.eds_types.specs.declared.row.Part.{Part}
use Rattle.eds_types.specs.declared.row.Part.TheVariants as part
use Rattle.eds_types.specs.declared.row.TypeRow.{TypeRow}
use Rattle.eds_types.specs.Fields.{type_by, part_at}
use Rattle.eds_types.specs.Plain.{Plain, num, text}
use Rattle.eds_types.specs.Rows.{Table, address, chain, family, id_of, is_concrete, sequence}
use Rattle.eds_unpack.specs.declared.segment.Operation.{Operation}
use Rattle.eds_unpack.specs.declared.template.Role.{Role}
use Rattle.eds_unpack.specs.declared.template.Role.TheVariants as role
use Rattle.eds_unpack.specs.declared.template.Template.{Template}
use Rattle.eds_unpack.specs.declared.template.TemplatePart.{TemplatePart}
use Rattle.eds_unpack.specs.declared.template.TemplatePart.TheVariants as template
use Rattle.eds_unpack.specs.declared.template.TextPart.{TextPart}
use Rattle.eds_unpack.specs.Segments.{IsOperation, Says}
use Rattle.eds_unpack.specs.Straight.{is_only}

-- ---- what templates are of

-- what is done with the value of a part; of other parts there is no template
abbrev pub role_of : Part → Option Role
role_of (part.Plain name id) = Some role.Field
role_of (part.Fixed name id v) = None
role_of (part.Pad n) = None
role_of (part.List name id y i) = None
role_of (part.Length name id c0 c1) = Some (role.Length c0 c1)
role_of (part.Check name id k) = Some (role.Check k)

-- the numbers by which a length entry tells octets are small
abbrev pub IsSmall : Role → Type 0
IsSmall role.Field = Unit {0}
IsSmall (role.Length c0 c1) = (nat_abs c0 ≤ 2 ^ 32) × (nat_abs c1 ≤ 2 ^ 32)
IsSmall (role.Check k) = Unit {0}

-- how many bits the part of a template has
abbrev pub size_of : TemplatePart → ℕ
size_of (template.Scalar o r) = o.bits
size_of (template.Text x) = 8 * x.form.length

-- the bit at which it begins
abbrev pub begin_of : TemplatePart → ℕ
begin_of (template.Scalar o r) = o.at
begin_of (template.Text x) = 8 * x.first

-- the number of its type
abbrev pub type_of : TemplatePart → ℕ
type_of (template.Scalar o r) = o.id.0
type_of (template.Text x) = x.id.0

-- what is done with its value: a text is that of a field
abbrev pub use_of : TemplatePart → Role
use_of (template.Scalar o r) = r
use_of (template.Text x) = role.Field

-- the type is one of texts of this form, which have a fixed size
pub record IsTextPart (t : Table) (x : TextPart) : Type 0 where
  pub row : TypeRow
  pub there : slice_get t x.id.0 ≡ Some row
  pub kind : row.kind ≡ kind.Str x.form
  pub fixed : x.form.fixed ≡ true

-- the type is that of a scalar with this operation, or one of such texts
abbrev pub IsOfType : Table → TemplatePart → Type 0
IsOfType t (template.Scalar o r) = IsOperation t o
IsOfType t (template.Text x) = IsTextPart t x

-- the part of a template is of the part's type, and the same is done with its value
pub record IsTemplatePart (t : Table) (p : Part) (x : TemplatePart) : Type 0 where
  pub role : role_of p ≡ Some (use_of x)
  pub typed : type_by (Some p) ≡ Some (type_of x)
  pub is : IsOfType t x
  pub near : IsSmall (use_of x)

-- the same of a part that is there
abbrev pub IsPartAt : Table → Option Part → TemplatePart → Type 0
IsPartAt t None x = ⊥
IsPartAt t (Some p) x = IsTemplatePart t p x

-- where a part stands, if it is one of the fields
abbrev pub kept : Role → TypeId × ℕ → List (TypeId × ℕ)
kept role.Field p = p ∷ []
kept (role.Length c0 c1) p = []
kept (role.Check k) p = []

-- the parts of a template are those at some places, from one bit on up to another, each right behind the one before it, and
-- their fields stand at the last places
abbrev pub AreTemplateParts : Table → ℕ → ℕ → List (TypeId × ℕ) → List TemplatePart → List (TypeId × ℕ) → Type 0
AreTemplateParts t at last [] [] qs = (at ≡ last) × (qs ≡ [])
AreTemplateParts t at last [] (x ∷ xs) qs = ⊥
AreTemplateParts t at last (p ∷ ps) [] qs = ⊥
AreTemplateParts t at last (p ∷ ps) (x ∷ xs) qs = (begin_of x ≡ at) × IsPartAt t (part_at t p) x × ((more : List (TypeId × ℕ)) × (qs ≡ kept (use_of x) p ++ more) × AreTemplateParts t (at + size_of x) last ps xs more)

-- a template is that of a container from which no other one derives
pub record IsTemplateOf (t : Table) (k : ℕ) (m : Template) : Type 0 where
  pub concrete : is_concrete t k ≡ true
  pub last : is_only k (family t k) ≡ true
  pub chain : m.chain ≡ map id_of (chain t k)
  pub parts : AreTemplateParts t 0 m.bits (map address (sequence t k)) m.parts.items m.places.items

-- each template is that of the container whose number is its place
abbrev pub AreTemplates : Table → List (Option Template) → Type 0
AreTemplates t each = (id : ℕ) (m : Template) → slice_get each id ≡ Some (Some m) → IsTemplateOf t id m

-- each operation is that of a scalar
abbrev pub AreKeys : Table → List (Option Operation) → Type 0
AreKeys t each = (id : ℕ) (o : Operation) → slice_get each id ≡ Some (Some o) → IsOperation t o

-- ---- what bits say by them

-- the bits have a value for the part, which is that of a field, tells as many octets as there are, or is the check of the bits
-- before it; with the values of the fields
abbrev pub RoleSays : Table → Bits → ℕ → Operation → Role → List Plain → Type 0
RoleSays t b octets o role.Field vs = (v : Plain) × Says t b o v × (vs ≡ v ∷ [])
RoleSays t b octets o (role.Length c0 c1) vs = (n : ℤ) × Says t b o (num n) × ((c0 +ℤ (c1 *ℤ n)) ≡ pos octets) × (vs ≡ [])
RoleSays t b octets o (role.Check k) vs = Says t b o (num (pos (check_of k (take o.at b)))) × (vs ≡ [])

-- the bits have a text for the part, which is the value of a field
abbrev pub TextSays : Bits → TextPart → List Plain → Type 0
TextSays b x vs = (s : List ℕ) × IsText any x.form s (take (8 * x.form.length) (drop (8 * x.first) b)) × (vs ≡ text s ∷ [])

-- they have the values of the part of a template
abbrev pub PartSays : Table → Bits → ℕ → TemplatePart → List Plain → Type 0
PartSays t b octets (template.Scalar o r) vs = RoleSays t b octets o r vs
PartSays t b octets (template.Text x) vs = TextSays b x vs

-- the same of parts one after another
abbrev pub PartsSay : Table → Bits → ℕ → List TemplatePart → List Plain → Type 0
PartsSay t b octets [] vs = vs ≡ []
PartsSay t b octets (x ∷ xs) vs = (us : List Plain) × (ws : List Plain) × (vs ≡ us ++ ws) × PartSays t b octets x us × PartsSay t b octets xs ws
