-- The type that a command names, among those of its sheet.
use Rattle.std.specs.Prelude.{ℕ, ◌<◌, length, IfSome}
use Rattle.std.specs.Option.{option_map_or}
use Rattle.eds_types.specs.Rows.{Table}
use Rattle.eds_types.specs.Overlap.{IsClear}
use Rattle.eds_types.specs.Rules.{IsHollow}
use Rattle.eds_plan.specs.Arguments.{ArgumentsAreUsed}
use Rattle.eds_read_comp.specs.Together.{HoldsTogether}
use Rattle.eds_sheet.specs.Compiled.{SeenSheet, seen_sheet}
use Rattle.eds_sheet.specs.Overlaps.{AreClear}
use Rattle.eds_sheet.specs.declared.sheet.Sheet.{Sheet}
use Rattle.eds_cmd.specs.declared.target.Target.{Target}

-- a type by its number in a table
pub record TypeIn : Type 0 where
  pub table : Table
  pub id : ℕ

-- the type that a target is
abbrev pub type_in : Target → TypeIn
type_in t = record { table = t.table.now; id = t.id.0 }

-- the type that a command names, which compiling a sheet has found; the first one where it names none
abbrev pub type_of : SeenSheet → TypeIn
type_of sheet = record { table = sheet.table; id = option_map_or (λ id. id.0) sheet.asked_type 0 }

-- no two containers overlap under the type that a command names, and it has no spelling of no bits, where it names one
unfoldable pub MayBeRead : SeenSheet → Type 0
MayBeRead sheet = IfSome sheet.asked_type (λ id. IsClear sheet.table id.0 × (IsHollow sheet.table id.0 → ⊥))

-- What is known of a compiled sheet. The type that a command names is there and may be read; the plan fits the table; no two
-- containers overlap under the used types; and each argument of a command of the plan has one of these.
pub record IsUsable (sheet : Sheet) : Type 0 where
  pub named : IfSome sheet.asked_type (λ id. id.0 < length sheet.table)
  pub readable : MayBeRead (seen_sheet sheet)
  pub together : HoldsTogether sheet.table sheet.plan
  pub used : AreClear sheet.table sheet.used
  pub arguments : ArgumentsAreUsed sheet.table sheet.used sheet.plan

-- the type is there, clear, and has no spelling of no bits
pub record IsKnown (type : TypeIn) : Type 0 where
  pub there : type.id < length type.table
  pub clear : IsClear type.table type.id
  pub solid : IsHollow type.table type.id → ⊥
