-- Laws of the types and values of every table that keeps the rules.
use Rattle.std.specs.Prelude.{◌≡◌, ◌↔◌, ◌⊎◌, ℕ, ◌<◌, ◌≤◌, [], length, IsSome}
use Rattle.eds_bits.specs.Bits.{Bits}
use Rattle.eds_types.specs.LeastSize.{least_size}
use Rattle.eds_types.specs.Packing.{PackFault, most_bits, PackFailsAt}
use Rattle.eds_types.specs.Plain.{Plain}
use Rattle.eds_types.specs.Rows.{Table}
use Rattle.eds_types.specs.Rules.{IsHollow, KeepsRules}
use Rattle.eds_types.specs.Sizes.{open_of}
use Rattle.eds_types.specs.Spelling.{Spells, Canon}

-- the type is there, in a table that keeps the rules
pub record IsThere (t : Table) (id : ℕ) : Type 0 where
  pub rules : KeepsRules t
  pub there : id < length t

-- ---- canonical spellings

-- all spellings of a value have one size
abbrev pub OneSize : Type 0
OneSize = (t : Table) (id : ℕ) → IsThere t id → (v : Plain) (b c : Bits) → Spells t id v b → Spells t id v c → length b ≡ length c

-- one of them is canonical, and a canonical spelling is a spelling
abbrev pub HasCanonical : Type 0
HasCanonical = (t : Table) (id : ℕ) → IsThere t id → (v : Plain) → ((b : Bits) → Spells t id v b → (c : Bits) × Canon t id v c) × ((c : Bits) → Canon t id v c → Spells t id v c)

-- a value has one canonical spelling at most
abbrev pub OneCanonical : Type 0
OneCanonical = (t : Table) (id : ℕ) → IsThere t id → (v : Plain) (b c : Bits) → Canon t id v b → Canon t id v c → b ≡ c

-- ---- sizes

-- no spelling has fewer bits than the least size of the type
abbrev pub LeastIsLeast : Type 0
LeastIsLeast = (t : Table) (id : ℕ) → IsThere t id → (v : Plain) (b : Bits) → Spells t id v b → least_size t id ≤ length b

-- the types that have a spelling of no bits are the hollow ones and the open binaries
abbrev pub EmptyTypes : Type 0
EmptyTypes = (t : Table) (id : ℕ) → IsThere t id → ((v : Plain) × Spells t id v []) ↔ (IsHollow t id ⊎ IsSome (open_of t id))

-- ---- packing

-- the value has a canonical spelling that isn't too long, or packing fails, at one place for one reason
pub record PacksOrFails (t : Table) (id : ℕ) (v : Plain) : Type 0 where
  pub either : ((b : Bits) × Canon t id v b × (length b ≤ most_bits)) ⊎ ((g : PackFault) × PackFailsAt t id v g)
  pub one_place : (g h : PackFault) → PackFailsAt t id v g → PackFailsAt t id v h → g ≡ h
  pub not_both : (b : Bits) (g : PackFault) → Canon t id v b → length b ≤ most_bits → PackFailsAt t id v g → ⊥

-- so does every value of every type that is there
abbrev pub PackingIsDecided : Type 0
PackingIsDecided = (t : Table) (id : ℕ) → IsThere t id → (v : Plain) → PacksOrFails t id v
