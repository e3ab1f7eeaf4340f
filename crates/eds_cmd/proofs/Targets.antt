-- The type that a command names in a sheet.
use Rattle.std.proofs.Common.{◌≡◌, ◌<◌, length, Option, Some, None, is_some, true}
use Rattle.std.specs.Prelude.{IfSome, IsSomeAnd}
use Rattle.std.specs.Option.{option_map_or}
use Rattle.eds_base.specs.declared.ids.TypeId.{TypeId}
use Rattle.eds_types.specs.Overlap.{IsClear}
use Rattle.eds_types.specs.Rules.{IsHollow}
use Rattle.eds_sheet.specs.Compiled.{SeenSheet}
use Rattle.eds_cmd.specs.Target.{IsKnown, MayBeRead, type_of}

-- what is clear and has no spelling of no bits may be read
pub may_be_read : (sheet : SeenSheet) → IfSome sheet.asked_type (λ id. IsClear sheet.table id.0) → IfSome sheet.asked_type (λ id. IsHollow sheet.table id.0 → ⊥) → MayBeRead sheet
unfolding MayBeRead
may_be_read sheet clear solid = go sheet.asked_type clear solid
  where
    go : (o : Option TypeId) → IfSome o (λ id. IsClear sheet.table id.0) → IfSome o (λ id. IsHollow sheet.table id.0 → ⊥) → IfSome o (λ id. IsClear sheet.table id.0 × (IsHollow sheet.table id.0 → ⊥))
    go None c s = tt
    go (Some id) c s = (c, s)

-- the type that a command names is there, where it names one
pub named_by : (sheet : SeenSheet) → is_some sheet.asked_type ≡ true → IfSome sheet.asked_type (λ id. id.0 < length sheet.table) → IsSomeAnd sheet.asked_type (λ id. id.0 < length sheet.table)
named_by sheet given there = go sheet.asked_type given there
  where
    go : (o : Option TypeId) → is_some o ≡ true → IfSome o (λ id. id.0 < length sheet.table) → IsSomeAnd o (λ id. id.0 < length sheet.table)
    go None given there = absurd (cc given)
    go (Some id) given there = there

-- a type that is there and may be read is known
pub known_by : (sheet : SeenSheet) → IsSomeAnd sheet.asked_type (λ id. id.0 < length sheet.table) → MayBeRead sheet → IsKnown (type_of sheet)
unfolding MayBeRead
known_by sheet there readable = go sheet.asked_type there readable
  where
    go : (o : Option TypeId) → IsSomeAnd o (λ id. id.0 < length sheet.table) → IfSome o (λ id. IsClear sheet.table id.0 × (IsHollow sheet.table id.0 → ⊥)) → IsKnown (record { table = sheet.table; id = option_map_or (λ id. id.0) o 0 })
    go None there readable = absurd there
    go (Some id) there readable = record { there = there; clear = readable.0; solid = readable.1 }
