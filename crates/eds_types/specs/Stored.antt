-- What a table stores.
use Rattle.std.specs.Prelude.{◌≡◌, ℕ, List, map}
use Rattle.eds_base.specs.declared.ids.TypeId.{TypeId}
use Rattle.eds_types.specs.Rows.{Table, numbers}
use Rattle.eds_types.specs.Families.{IsFamilies}
use Rattle.eds_types.specs.LeastSize.{least_size}
use Rattle.eds_types.specs.Rules.{KeepsRules}

-- rows that keep the rules, the least sizes of all types, and their families
pub record IsStored (rows : Table) (sizes : List ℕ) (families : List (List TypeId)) : Type 0 where
  pub rules : KeepsRules rows
  pub least : sizes ≡ map (least_size rows) (numbers rows)
  pub grouped : IsFamilies rows families
