-- How far a walk over a container has come, which keeps no values.
use Rattle.std.specs.Prelude.{◌≡◌, ℕ, ◌^◌, ◌≤◌, nat_abs, ℤ, List, [], ◌∷◌, ◌++◌, length, map, Option, Some, IfSome, IsSome, Ok, slice_get}
use Rattle.std.specs.List.{AllByRecursion, filter}
use Rattle.eds_base.specs.declared.ids.TypeId.{TypeId}
use Rattle.eds_bits.specs.Bits.{Bits}
use Rattle.eds_bits.specs.Lists.{Has}
use Rattle.eds_bits.specs.Reader.{bits_left}
use Rattle.eds_types.specs.declared.row.Part.{Part}
use Rattle.eds_types.specs.declared.row.Part.TheVariants as part
use Rattle.eds_types.specs.Fields.{Field, fields_in, has_value, number_by, part_at, value_at}
use Rattle.eds_types.specs.Plain.{Plain, num, label, truth, text, bits, items, fields}
use Rattle.eds_types.specs.Reading.{Read, Ends, front}
use Rattle.eds_types.specs.Rows.{Table, Placed, id_of, chain, sequence}
use Rattle.eds_types.specs.Rules.{KeepsRules, IsContainer, IsInt}
use Rattle.eds_types.specs.Spelling.{Progress}
use Rattle.eds_unpack.specs.Courses.{MovesOn}
use Rattle.eds_unpack.specs.Index.{Among}
use Rattle.eds_overlap.specs.Pairs.{Steps}
use Rattle.eds_unpack.specs.Noted.{Shows}
use Rattle.eds_unpack.specs.declared.walk.Seen.{Seen}
use Rattle.eds_unpack.specs.declared.walk.Walked.{Walked}

-- ---- values

-- the most derived container of a value, or the type itself, where the value is no container's
abbrev pub type_of : ℕ → Plain → ℕ
type_of id (num n) = id
type_of id (label l) = id
type_of id (truth b) = id
type_of id (text s) = id
type_of id (bits n o) = id
type_of id (items vs) = id
type_of id (fields k vs) = k

-- each entry of a container's chain has a value in these fields
abbrev pub IsWhole : Table → ℕ → List Field → Type 0
IsWhole t id fs = (q : TypeId × ℕ) (name : List ℕ) (own : TypeId) → IsContainer t id → Has (chain t id) (q.0).0 → part_at t q ≡ Some (part.Plain name own) → IsSome (value_at fs (q.0).0 q.1)

-- the number of the field at place i of the container y is noted on the paths that begin in it: on a longer one stands what
-- is noted on what follows
pub record IsNotedField (paths : List Steps) (y i : ℕ) (number : Option ℤ) (old new : List (Option ℤ)) : Type 0 where
  pub long : length new ≡ length old
  pub others : (g : ℕ) (p : TypeId × ℕ) (path : Steps) → slice_get paths g ≡ Some (p ∷ path) → ((p.0).0 ≡ y → p.1 ≡ i → ⊥) → slice_get new g ≡ slice_get old g
  pub last : (g : ℕ) (p : TypeId × ℕ) → slice_get paths g ≡ Some (p ∷ []) → (p.0).0 ≡ y → p.1 ≡ i → slice_get new g ≡ Some number
  pub longer : (g : ℕ) (p q : TypeId × ℕ) (path : Steps) → slice_get paths g ≡ Some (p ∷ q ∷ path) → (p.0).0 ≡ y → p.1 ≡ i → ((q.0).0 ≡ y → ⊥) → Among paths (q ∷ path) → (h : ℕ) × (slice_get paths h ≡ Some (q ∷ path)) × (slice_get new g ≡ slice_get old h)

-- the value that is read there was passed over: its number and its container were seen, and the numbers that are asked for
-- in it are noted
pub record IsPassed (t : Table) (paths : List Steps) (id : ℕ) (ns : List (Option ℤ)) (read : Read Plain) (rest : Bits) (seen : Seen) : Type 0 where
  pub value : Plain
  pub is : read ≡ Ok (value, rest)
  pub number : seen.number ≡ number_by (slice_get t id) (Some value)
  pub found : seen.found.0 ≡ type_of id value
  pub shows : Shows t paths ns (fields_in t (Some value))
  pub whole : IsWhole t id (fields_in t (Some value))

-- ---- containers

-- the container begins with bits that were passed, and its length entry tells a number that fits
pub record IsWalking (w : Walked) (b : Bits) : Type 0 where
  pub begun : MovesOn (bits_left w.start) b
  pub told : IfSome w.octets (λ n. nat_abs n ≤ 2 ^ 97)

-- the field of an entry of an integer type is a number
abbrev pub IsNumberIfInt : Table → Field → Type 0
IsNumberIfInt t f = (name : List ℕ) (id : TypeId) → part_at t (id_of f.container, f.place) ≡ Some (part.Plain name id) → IsInt t id.0 (λ form spans. Unit {0}) → (n : ℤ) × (f.value ≡ num n)

-- where a field stands
abbrev pub key_of : Field → ℕ × ℕ
key_of f = (f.container, f.place)

-- where the parts that have values stand
abbrev pub valued_places : List Placed → List (ℕ × ℕ)
valued_places ps = map (λ (p : Placed). (p.container, p.place)) (filter (λ (p : Placed). has_value p.part) ps)

-- the walk over a container of the family of x has passed these parts, and reading has come so far
pub record IsAt (t : Table) (paths : List Steps) (x : ℕ) (w : Walked) (ns : List (Option ℤ)) (b : Bits) (done : List Placed) (s : Progress) : Type 0 where
  pub before : s.before ≡ front (bits_left w.start) b
  pub octets : s.octets ≡ w.octets
  pub shows : Shows t paths ns s.fields
  pub keys : map key_of s.fields ≡ valued_places done
  pub ints : AllByRecursion (IsNumberIfInt t) s.fields
  pub ranks : (rules : KeepsRules t) → AllByRecursion (λ (p : Placed). rules.rank p.container ≡ rules.rank x) done

-- reading gives what the walk has come to
pub record Goes (t : Table) (paths : List Steps) (x : ℕ) (w : Walked) (ns : List (Option ℤ)) (b : Bits) (done : List Placed) (read : Read Progress) : Type 0 where
  pub state : Progress
  pub is : read ≡ Ok (state, b)
  pub at : IsAt t paths x w ns b done state

-- the part stands in the table where it is placed
abbrev pub Stands : Table → Placed → Type 0
Stands t p = part_at t (id_of p.container, p.place) ≡ Some p.part

-- the entry that tells how many items a list has, has a value in these fields
abbrev pub IsTold : List Field → Part → Type 0
IsTold fs (part.Plain name id) = Unit {0}
IsTold fs (part.Fixed name id v) = Unit {0}
IsTold fs (part.Pad n) = Unit {0}
IsTold fs (part.List name id y i) = IsSome (value_at fs y.0 i)
IsTold fs (part.Length name id c0 c1) = Unit {0}
IsTold fs (part.Check name id k) = Unit {0}

-- these are the first parts of a container, with those of its bases, in the order of their bits
abbrev pub IsFront : Table → List Placed → Type 0
IsFront t ps = (k : ℕ) × (later : List Placed) × (sequence t k ≡ ps ++ later)

-- the container that was chosen under x, all of which was passed
pub record Ended (t : Table) (paths : List Steps) (x : ℕ) (w : Walked) (ns : List (Option ℤ)) (b : Bits) (read : Ends) (found : TypeId) : Type 0 where
  pub state : Progress
  pub is : read ≡ Ok (found.0, state, b)
  pub under : Has (chain t found.0) x
  pub at : IsAt t paths x w ns b (sequence t found.0) state
