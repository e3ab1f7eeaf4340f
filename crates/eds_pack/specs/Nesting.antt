-- How deep the types of parts are nested.
use Rattle.std.specs.Prelude.{ℕ, ◌<◌, length}
use Rattle.eds_types.specs.declared.row.Part.{Part}
use Rattle.eds_types.specs.declared.row.Part.TheVariants as part
use Rattle.eds_types.specs.Rows.{Table}
use Rattle.eds_types.specs.Rules.{IsScale, KeepsRules}

-- fewer than n types are nested in each other under the type
abbrev pub IsLow : Table → ℕ → ℕ → Type 0
IsLow t n id = (rules : KeepsRules t) → rules.rank id < n

-- the type is there, and at most n types are nested in each other from it on
pub record Nests (t : Table) (n id : ℕ) : Type 0 where
  pub known : id < length t
  pub rank : IsLow t n id

-- so is that of the part, and a length entry's coefficients are in range
abbrev pub PartNests : Table → ℕ → Part → Type 0
PartNests t n (part.Plain name id) = Nests t n id.0
PartNests t n (part.Fixed name id v) = Nests t n id.0
PartNests t n (part.Pad m) = Unit {0}
PartNests t n (part.List name id y i) = Nests t n id.0
PartNests t n (part.Length name id c0 c1) = Nests t n id.0 × IsScale c0 c1
PartNests t n (part.Check name id check) = Nests t n id.0
