-- The rules of the profile that a table of types keeps. Each is named where it stands by the refusal that a sheet gets
-- which breaks it: a sheet that gets none of these has a table that keeps them all.
use Rattle.std.specs.Prelude.{◌≡◌, ℕ, suc, ◌*◌, ◌^◌, ◌<◌, ◌≤◌, ℤ, pos, ◌≤ℤ◌, nat_abs, List, [], ◌∷◌, ◌++◌, length, map, filter, Bool, true, false, Option, Some, None, IsSome, IfSome, slice_get, IsTrue}
use Rattle.std.specs.List.{AllByRecursion, filter_map, flat_map}
use Rattle.eds_base.specs.declared.ids.TypeId.{TypeId}
use Rattle.eds_base.specs.declared.spans.Span.{Span}
use Rattle.eds_base.specs.Spans.{IsWithin}
use Rattle.eds_bits.specs.declared.forms.IntForm.{IntForm}
use Rattle.eds_bits.specs.declared.forms.Encoding.TheVariants.{Unsigned}
use Rattle.eds_bits.specs.declared.forms.CheckKind.{CheckKind}
use Rattle.eds_bits.specs.Lists.{Has, HasOne}
use Rattle.eds_bits.specs.IntForms.{HasNumber}
use Rattle.eds_bits.specs.Scalars.{check_bits}
use Rattle.eds_types.specs.declared.row.TypeRow.{TypeRow}
use Rattle.eds_types.specs.declared.row.Kind.{Kind}
use Rattle.eds_types.specs.declared.row.Kind.TheVariants as kind
use Rattle.eds_types.specs.declared.row.Part.{Part}
use Rattle.eds_types.specs.declared.row.Part.TheVariants as part
use Rattle.eds_types.specs.declared.row.Constraint.{Constraint}
use Rattle.eds_types.specs.Plain.{Plain, num, label, truth, text, bits, plain}
use Rattle.eds_types.specs.Rows.{Table, container_of, base_of, constraints_of, is_concrete, derived, chain, Placed, placed_entries, own_parts, sequence}
use Rattle.eds_types.specs.Sizes.{open_of, part_size, trailers_along}
use Rattle.eds_types.specs.Fields.{type_by, type_on, part_at, listed, IsAtOrUnder, StartsInEntries, constraints_along}
use Rattle.eds_types.specs.Packing.{TextFits, IsFilled}
use Rattle.eds_types.specs.Spelling.{BinHas}
use Rattle.eds_types.specs.Overlap.{IsSolution}

-- ---- words

-- no item stands twice in the list
abbrev pub AreDistinct : {A : Type 0} → List A → Type 0
AreDistinct [] = Unit {0}
AreDistinct (x ∷ xs) = (Has xs x → ⊥) × AreDistinct xs

-- the first stands before the second
pub record IsBefore {A : Type 0} (xs : List A) (first second : A) : Type 0 where
  pub before : List A
  pub between : List A
  pub after : List A
  pub is : xs ≡ before ++ first ∷ (between ++ second ∷ after)

-- the type is an integer type or sub-range with such a form and domain
abbrev pub IsIntBy : (IntForm → List Span → Type 0) → Kind → Type 0
IsIntBy P (kind.Int form spans) = P form spans
IsIntBy P (kind.Enum form listing) = ⊥
IsIntBy P (kind.Bool form) = ⊥
IsIntBy P (kind.Str form) = ⊥
IsIntBy P (kind.Bin n free) = ⊥
IsIntBy P (kind.Arr item n) = ⊥
IsIntBy P (kind.Con c) = ⊥

-- the type is there, and its kind has P
abbrev pub HasKind : Table → ℕ → (Kind → Type 0) → Type 0
HasKind t id P = (row : TypeRow) × (slice_get t id ≡ Some row) × P row.kind

-- the type is an integer type or sub-range
abbrev pub IsInt : Table → ℕ → (IntForm → List Span → Type 0) → Type 0
IsInt t id P = HasKind t id (IsIntBy P)

-- the type is a container
abbrev pub IsContainer : Table → ℕ → Type 0
IsContainer t id = IsSome (container_of t id)

-- ---- kinds

-- the numbers are those of the form, and there is one (EmptyRange)
pub record IsDomain (form : IntForm) (spans : List Span) : Type 0 where
  pub some : (n : ℤ) × IsWithin spans n
  pub of_form : (n : ℤ) → IsWithin spans n → HasNumber form n

-- there are labels, none is empty, none and no number is listed twice, and all numbers are those of the form
-- (BadEncoding is met by the forms themselves; this is BadEnumeration)
pub record IsListing (form : IntForm) (listing : List (List ℕ × ℤ)) : Type 0 where
  pub some : 1 ≤ length listing
  pub named : AllByRecursion (λ e. 1 ≤ length e.0) listing
  pub labels : AreDistinct (map (λ e. e.0) listing)
  pub numbers : AreDistinct (map (λ e. e.1) listing)
  pub of_form : AllByRecursion (λ e. HasNumber form e.1) listing

-- what a kind keeps by itself
abbrev pub KindKeeps : Kind → Type 0
KindKeeps (kind.Int form spans) = IsDomain form spans
KindKeeps (kind.Enum form listing) = IsListing form listing
KindKeeps (kind.Bool form) = Unit {0}
KindKeeps (kind.Str form) = Unit {0}
KindKeeps (kind.Bin n free) = (1 ≤ n) × (n ≤ 524288) × (IsTrue free → (j : ℕ) × (n ≡ 8 * j))
KindKeeps (kind.Arr item n) = (1 ≤ n) × (n ≤ 65536)
KindKeeps (kind.Con c) = (length c.entries ≤ 32767) × (length c.trailers ≤ 32767)

-- ---- bases

-- a sub-range has its base's form, and numbers of its base
pub record IsSubRange (form : IntForm) (spans : List Span) (base_form : IntForm) (base_spans : List Span) : Type 0 where
  pub form_is : form ≡ base_form
  pub within : (n : ℤ) → IsWithin spans n → IsWithin base_spans n

-- a sub-range derives from an integer type or sub-range, and a container from a container; nothing else derives
-- (WrongKind)
abbrev pub DerivesFrom : Kind → Kind → Type 0
DerivesFrom (kind.Int form spans) base = IsIntBy (IsSubRange form spans) base
DerivesFrom (kind.Con c) (kind.Con base) = Unit {0}
DerivesFrom k base = ⊥

-- ---- what is nested

-- a container at or under this one has no parts, and no concrete container under it: it is spelled by no bits, so that
-- the type may be that of no entry, list or item (EmptyType)
pub record IsHollow (t : Table) (id : ℕ) : Type 0 where
  pub hollow : ℕ
  pub concrete : IsTrue (is_concrete t hollow)
  pub under : IsAtOrUnder t id hollow
  pub no_parts : sequence t hollow ≡ []
  pub last : (l : ℕ) → IsTrue (is_concrete t l) → IsAtOrUnder t hollow l → l ≡ hollow

-- the types of a container's parts, and of an array's items, are there, and nested less deep
abbrev pub IsNested : Table → (ℕ → ℕ) → ℕ → ℕ → Type 0
IsNested t rank id inner = (inner < length t) × (rank inner < rank id)

-- the type of an array's items is nested less deep, and has bits
abbrev pub ItemsNest : Table → (ℕ → ℕ) → ℕ → Kind → Type 0
ItemsNest t rank id (kind.Int form spans) = Unit {0}
ItemsNest t rank id (kind.Enum form listing) = Unit {0}
ItemsNest t rank id (kind.Bool form) = Unit {0}
ItemsNest t rank id (kind.Str form) = Unit {0}
ItemsNest t rank id (kind.Bin n free) = Unit {0}
ItemsNest t rank id (kind.Arr item n) = IsNested t rank id item.0 × (IsHollow t item.0 → ⊥) × (open_of t item.0 ≡ None)
ItemsNest t rank id (kind.Con c) = Unit {0}

-- ---- parts

-- the value is one of a scalar, text or binary type of this kind: in its domain, listed, of its encoding and not too long,
-- or of its size (FixedValue)
abbrev pub IsValueOf : Kind → Plain → Type 0
IsValueOf (kind.Int form spans) v = (n : ℤ) × (v ≡ num n) × IsWithin spans n
IsValueOf (kind.Enum form listing) v = (l : List ℕ) × (v ≡ label l) × IsSome (listed listing l)
IsValueOf (kind.Bool form) v = (b : Bool) × (v ≡ truth b)
IsValueOf (kind.Str form) v = (s : List ℕ) × (v ≡ text s) × TextFits form s × (length s ≤ form.length)
IsValueOf (kind.Bin n free) v = (m : ℕ) × (o : List ℕ) × (v ≡ bits m o) × BinHas n free m × IsFilled m o
IsValueOf (kind.Arr item n) v = ⊥
IsValueOf (kind.Con c) v = ⊥

-- the list's number of items is told by an entry before it, with an integer type that has no negative numbers
-- (ListField)
pub record IsCounted (t : Table) (list : Placed) (container place : ℕ) : Type 0 where
  pub name : List ℕ
  pub id : TypeId
  pub before : IsBefore (sequence t list.container) (record { container = container; place = place; part = part.Plain name id }) list
  pub counts : IsInt t id.0 (λ form spans. (n : ℤ) → IsWithin spans n → pos 0 ≤ℤ n)

-- an unsigned form of the check's size, with all its numbers: that its type was given no range shows in a table only by
-- these (ErrorControl)
pub record HoldsCheck (check : CheckKind) (form : IntForm) (spans : List Span) : Type 0 where
  pub encoding : form.encoding ≡ Unsigned
  pub size : form.bits ≡ check_bits check
  pub all : (n : ℤ) → HasNumber form n → IsWithin spans n

-- c1 is at least 1, and neither coefficient is past 2^32 (LengthField)
pub record IsScale (c0 c1 : ℤ) : Type 0 where
  pub rises : pos 1 ≤ℤ c1
  pub factor : c1 ≤ℤ pos (2 ^ 32)
  pub offset : nat_abs c0 ≤ 2 ^ 32

-- the part is a length entry
abbrev pub is_length : Part → Bool
is_length (part.Plain name id) = false
is_length (part.Fixed name id v) = false
is_length (part.Pad n) = false
is_length (part.List name id y i) = false
is_length (part.Length name id c0 c1) = true
is_length (part.Check name id k) = false

-- an entry with an open binary is the last one of its container, which has no derived container, a length entry before
-- it, and trailers with sizes (LengthField)
pub record TailKeeps (t : Table) (p : Placed) : Type 0 where
  pub before : List Placed
  pub last : placed_entries t p.container ≡ before ++ p ∷ []
  pub not_derived : (k : ℕ) → IsAtOrUnder t p.container k → k ≡ p.container
  pub told : HasOne (λ (q : Placed). IsTrue (is_length q.part)) (flat_map (placed_entries t) (chain t p.container))
  pub sized : AllByRecursion (λ (q : Placed). IsSome (part_size t q.part)) (trailers_along t p.container)

-- what a part of each kind keeps
abbrev pub PartKeeps : Table → Placed → Part → Type 0
PartKeeps t p (part.Plain name id) = (IsHollow t id.0 → ⊥) × IfSome (open_of t id.0) (λ n. TailKeeps t p)
PartKeeps t p (part.Fixed name id v) = HasKind t id.0 (λ k. IsValueOf k (plain v)) × (open_of t id.0 ≡ None)
PartKeeps t p (part.Pad n) = (1 ≤ n) × (n ≤ 524288)
PartKeeps t p (part.List name id y i) = (IsHollow t id.0 → ⊥) × (open_of t id.0 ≡ None) × IsCounted t p y.0 i
PartKeeps t p (part.Length name id c0 c1) = IsInt t id.0 (λ form spans. Unit {0}) × IsScale c0 c1
PartKeeps t p (part.Check name id check) = IsInt t id.0 (HoldsCheck check) × (base_of t id.0 ≡ None)

-- the name of a part, if it has one
abbrev pub name_of : Part → Option (List ℕ)
name_of (part.Plain name id) = Some name
name_of (part.Fixed name id v) = name
name_of (part.Pad n) = None
name_of (part.List name id y i) = Some name
name_of (part.Length name id c0 c1) = Some name
name_of (part.Check name id k) = Some name

-- the parts of a whole chain: names differ (DuplicateEntry), and there is one length entry at most (LengthField)
pub record SequenceKeeps (parts : List Placed) : Type 0 where
  pub names : AreDistinct (filter_map (λ (p : Placed). name_of p.part) parts)
  pub one_length : length (filter (λ (p : Placed). is_length p.part) parts) ≤ 1

-- ---- constraints

-- each name on the path is that of an entry, and each further one stands in the chain of the container before it
-- (ConstraintTarget)
abbrev pub Follows : Table → List (TypeId × ℕ) → Type 0
Follows t [] = ⊥
Follows t (p ∷ []) = (name : List ℕ) × (id : TypeId) × (part_at t p ≡ Some (part.Plain name id))
Follows t (p ∷ q ∷ path) = (name : List ℕ) × (id : TypeId) × (part_at t p ≡ Some (part.Plain name id)) × IsContainer t id.0 × IsAtOrUnder t (q.0).0 id.0 × Follows t (q ∷ path)

-- the numbers are those of the concrete containers at or under some container that is, or derives from, this one
-- (ConstraintValue)
pub record IsTypeSet (t : Table) (target : ℕ) (set : List Span) : Type 0 where
  pub kept : ℕ
  pub under : IsAtOrUnder t target kept
  pub ids : (n : ℤ) → IsWithin set n → (k : ℕ) × (n ≡ pos k) × IsTrue (is_concrete t k) × IsAtOrUnder t kept k
  pub all : (k : ℕ) → IsTrue (is_concrete t k) → IsAtOrUnder t kept k → IsWithin set (pos k)

-- the set has just one number
pub record IsOneNumber (set : List Span) : Type 0 where
  pub number : ℤ
  pub in_it : IsWithin set number
  pub only : (n : ℤ) → IsWithin set n → n ≡ number

-- what a constraint on a scalar of this kind compares it with: a number with any numbers, a label and a truth value with
-- the number of one (ConstraintTarget, ConstraintValue)
abbrev pub ComparesWith : Kind → List Span → Type 0
ComparesWith (kind.Int form spans) set = Unit {0}
ComparesWith (kind.Enum form listing) set = IsOneNumber set
ComparesWith (kind.Bool form) set = IsOneNumber set
ComparesWith (kind.Str form) set = ⊥
ComparesWith (kind.Bin n free) set = ⊥
ComparesWith (kind.Arr item n) set = ⊥
ComparesWith (kind.Con c) set = ⊥

-- a constraint speaks of a scalar, or, where it is one on an entry's type, of a container
abbrev pub TargetKeeps : Table → ℕ → Bool → List Span → Type 0
TargetKeeps t target true set = IsContainer t target × IsTypeSet t target set
TargetKeeps t target false set = HasKind t target (λ k. ComparesWith k set)

-- a constraint of the container k, which derives from base: its path leads to an entry, from one of the bases' own
-- entries, and all that the chain asks of this entry can be met (ConstraintEmpty)
pub record ConstraintKeeps (t : Table) (base k : ℕ) (c : Constraint) : Type 0 where
  pub starts : StartsInEntries t base c.path
  pub follows : Follows t c.path
  pub target : ℕ
  pub leads : type_on t c.path ≡ Some target
  pub speaks : TargetKeeps t target c.on_kind c.set
  pub can_hold : (n : ℤ) × IsSolution t (constraints_along t k) c.path n

-- ---- a table

-- the rules on types, all of them
pub record KeepsRules (t : Table) : Type 0 where
  -- there are at most 4,096 types (Limit), of different names (Duplicate)
  pub few : length t ≤ 4096
  pub names : AreDistinct (map (λ (row : TypeRow). row.name) t)
  -- sizes and numbers of items (BadAttribute, Limit, BadEncoding), domains and listings
  pub kinds : (id : ℕ) (row : TypeRow) → slice_get t id ≡ Some row → KindKeeps row.kind
  -- a base is there (Unresolved), and of the derived type's kind
  pub bases : (id base : ℕ) (row : TypeRow) → slice_get t id ≡ Some row → base_of t id ≡ Some base → HasKind t base (DerivesFrom row.kind)
  -- no type is its own base (BaseCycle), and a chain has at most 16 types (Limit): the level counts the bases of a type
  pub level : ℕ → ℕ
  pub chains : (id : ℕ) → level id < 16
  pub base_level : (id base : ℕ) → base_of t id ≡ Some base → level id ≡ suc (level base)
  -- at most 512 containers are of one family (Limit)
  pub family : (id : ℕ) → IsContainer t id → length (derived t id) ≤ 512
  -- no type reaches itself or its family (TypeCycle), and at most 32 are nested (Limit): the rank of a family counts what
  -- is nested in it
  pub rank : ℕ → ℕ
  pub nesting : (id : ℕ) → rank id < 32
  pub base_rank : (id base : ℕ) → base_of t id ≡ Some base → rank id ≡ rank base
  pub parts_nest : (y : ℕ) → AllByRecursion (λ (p : Placed). (id : ℕ) → type_by (Some p.part) ≡ Some id → IsNested t rank y id) (own_parts t y)
  pub items_nest : (id : ℕ) (row : TypeRow) → slice_get t id ≡ Some row → ItemsNest t rank id row.kind
  -- parts, alone and together
  pub parts : (y : ℕ) → AllByRecursion (λ (p : Placed). PartKeeps t p p.part) (own_parts t y)
  pub sequences : (k : ℕ) → SequenceKeeps (sequence t k)
  -- a container with constraints has a base (ConstraintTarget)
  pub root_constraints : (k : ℕ) → base_of t k ≡ None → constraints_of t k ≡ []
  pub constraints : (k base : ℕ) → base_of t k ≡ Some base → AllByRecursion (ConstraintKeeps t base k) (constraints_of t k)
