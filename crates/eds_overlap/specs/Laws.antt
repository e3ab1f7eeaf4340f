-- The laws of reading. Those of types and values alone are laws of eds_types, and are offered here again.
use Rattle.eds_base.specs.declared.fault.Fault.{Fault}
use Rattle.std.specs.Prelude.{◌≡◌, ◌↔◌, ℕ, ◌<◌, ◌≤◌, List, ◌++◌, length, Ok, Err, ◌⊎◌}
use Rattle.eds_base.specs.declared.fault.Reason.TheVariants.{Short}
use Rattle.eds_bits.specs.Bits.{Bits}
use Rattle.eds_bits.specs.Style.{Style, any}
use Rattle.eds_types.specs.Failing.{course, Passes, FailsWithin, FailsAt}
use Rattle.eds_types.specs.Fields.{values_of, IsAtOrUnder}
pub use Rattle.eds_types.specs.Laws.{IsThere, OneSize, HasCanonical, OneCanonical, LeastIsLeast, EmptyTypes, PacksOrFails, PackingIsDecided}
use Rattle.eds_types.specs.Overlap.{IsClear}
use Rattle.eds_types.specs.LeastSize.{least_within, least_size}
use Rattle.eds_types.specs.Packing.{PackFault, most_bits, PackFailsWithin, PackFailsAt}
use Rattle.eds_types.specs.Plain.{Plain, Plains, fields, list_of}
use Rattle.eds_types.specs.Reading.{Read, read_within}
use Rattle.eds_types.specs.Rows.{Table, chain, chain_within}
use Rattle.eds_types.specs.Rules.{IsContainer, KeepsRules}
use Rattle.eds_types.specs.Sizes.{size_within, type_size}
use Rattle.eds_types.specs.Spelling.{Progress, started, SpellsWithin, Spells, Canon}

-- ---- of which types the laws speak

-- the type is there, in a table that keeps the rules, and no two containers that are read through it overlap
pub record IsReadable (t : Table) (id : ℕ) : Type 0 where
  pub rules : KeepsRules t
  pub there : id < length t
  pub clear : IsClear t id

-- ---- reading

-- what is read of the bits, and the bits that are left
abbrev pub read_type : Table → ℕ → Bits → Read Plain
read_type t id b = read_within 32 t id b

-- it is a value, of which a front of the bits is a spelling, and the rest; or where and why reading fails
abbrev pub IsRead : Table → ℕ → Bits → Read Plain → Type 0
IsRead t id b (Ok x) = (c : Bits) × (b ≡ c ++ x.1) × Spells t id x.0 c
IsRead t id b (Err g) = FailsAt t id b g

-- what the reading function gives is so, and whatever is so, it gives
abbrev pub ReadingIsExact : Type 0
ReadingIsExact = (t : Table) (id : ℕ) → IsReadable t id → (b : Bits) → IsRead t id b (read_type t id b) × ((r : Read Plain) → IsRead t id b r → read_type t id b ≡ r)

-- the bits begin with a spelling, and only one, of one value; or reading fails, at one place for one reason
pub record HasOneOutcome (t : Table) (id : ℕ) (b : Bits) : Type 0 where
  pub either : ((v : Plain) × (c : Bits) × (rest : Bits) × (b ≡ c ++ rest) × Spells t id v c) ⊎ ((g : Fault) × FailsAt t id b g)
  pub one_value : (v w : Plain) (c d x y : Bits) → b ≡ c ++ x → b ≡ d ++ y → Spells t id v c → Spells t id w d → (v ≡ w) × (c ≡ d)
  pub one_place : (g h : Fault) → FailsAt t id b g → FailsAt t id b h → g ≡ h
  pub not_both : (v : Plain) (c x : Bits) (g : Fault) → b ≡ c ++ x → Spells t id v c → FailsAt t id b g → ⊥

-- read as a type that is readable, any bits have just one outcome
abbrev pub OneOutcome : Type 0
OneOutcome = (t : Table) (id : ℕ) → IsReadable t id → (b : Bits) → HasOneOutcome t id b

-- a spelling that begins another one is the same, of the same value
abbrev pub OneReading : Type 0
OneReading = (t : Table) (id : ℕ) → IsReadable t id → (v w : Plain) (b c more : Bits) → Spells t id v b → Spells t id w c → c ≡ b ++ more → (b ≡ c) × (v ≡ w)

-- where reading fails for another reason than too few bits, more bits change nothing
abbrev pub FaultsStay : Type 0
FaultsStay = (t : Table) (id : ℕ) (b more : Bits) (g : Fault) → (g.reason ≡ Short → ⊥) → FailsAt t id b g → FailsAt t id (b ++ more) g

-- ---- spellings and the course

-- the course of the container k where the type is read lets all the bits pass, and leaves these fields
pub record PassesCourse (t : Table) (SpellsInner : ℕ → Plain → Bits → Type 0) (id k : ℕ) (f : List Plain) (b : Bits) : Type 0 where
  pub under : IsAtOrUnder t id k
  pub end : Progress
  pub passes : Passes t SpellsInner k started (course t id k) end b
  pub values : f ≡ values_of end.fields

-- the bits spell the fields of a container exactly where its course lets them pass. A spelling admits a tail of any size,
-- holds all constraints in the end, and compares the number of the length entry with all parts; the course gives the
-- tail the one size that fits, and tries constraints and choices as soon as it meets them
abbrev pub SpellingIsCourse : Type 0
SpellingIsCourse = (t : Table) (id : ℕ) → IsThere t id → IsContainer t id → (k : ℕ) (f : Plains) (b : Bits) → Spells t id (fields k f) b ↔ PassesCourse t (SpellsWithin 31 any t) id k (list_of f) b

-- ---- bounds

-- more room than for the 16 types of a chain, and for the 32 types that may be nested in each other, changes nothing
pub record HasRoom (t : Table) : Type 0 where
  pub chains : (n id : ℕ) → 16 ≤ n → chain_within n t id ≡ chain t id
  pub spellings : (n id : ℕ) → 32 ≤ n → (style : Style) (v : Plain) (b : Bits) → SpellsWithin n style t id v b ↔ SpellsWithin 32 style t id v b
  pub faults : (n id : ℕ) → 32 ≤ n → (b : Bits) (g : Fault) → FailsWithin n t id b g ↔ FailsAt t id b g
  pub packing : (n id : ℕ) → 32 ≤ n → (v : Plain) (g : PackFault) → PackFailsWithin n t id v g ↔ PackFailsWithin 32 t id v g
  pub least : (n id : ℕ) → 32 ≤ n → least_within n t id ≡ least_size t id
  pub sizes : (n id : ℕ) → 32 ≤ n → size_within n t id ≡ type_size t id

-- in a table that keeps the rules, the bounds on chains and nesting leave nothing out
abbrev pub BoundsSuffice : Type 0
BoundsSuffice = (t : Table) → KeepsRules t → HasRoom t

-- ---- there and back

-- values that are read are the same exactly where their canonical spellings are
abbrev pub SameValue : Type 0
SameValue = (t : Table) (id : ℕ) → IsReadable t id → (v w : Plain) (b c x y : Bits) → Spells t id v b → Spells t id w c → Canon t id v x → Canon t id w y → (v ≡ w) ↔ (x ≡ y)

-- the canonical spelling of a value, whatever follows it, is read as the value, and what follows is left
abbrev pub PackedIsRead : Type 0
PackedIsRead = (t : Table) (id : ℕ) → IsReadable t id → (v : Plain) (b rest : Bits) → Canon t id v b → read_type t id (b ++ rest) ≡ Ok (v, rest)

-- a value that is read packs, to as many bits
pub record PacksAgain (t : Table) (id : ℕ) (v : Plain) (n : ℕ) : Type 0 where
  pub spelling : Bits
  pub is : Canon t id v spelling
  pub size : length spelling ≡ n
  pub no_fault : (g : PackFault) → PackFailsAt t id v g → ⊥

-- a value that some bits spell, no more than a packed one may have, packs to as many bits
abbrev pub ReadIsPacked : Type 0
ReadIsPacked = (t : Table) (id : ℕ) → IsThere t id → (v : Plain) (b : Bits) → Spells t id v b → length b ≤ most_bits → PacksAgain t id v (length b)
