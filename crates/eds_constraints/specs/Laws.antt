-- Laws of the constraints of containers.
use Rattle.std.specs.Prelude.{◌≡◌, []}
use Rattle.eds_types.specs.Rows.{Table}
use Rattle.eds_types.specs.Rules.{KeepsRules}
use Rattle.eds_constraints.specs.Breaks.{Lists, breaks_target, breaks_value, breaks_empty}
use Rattle.eds_constraints.specs.ConstrainedRows.{constrained}

-- rows that keep the rules on types still keep them with the constraints of their containers, where nothing breaks a rule on
-- constraints
abbrev pub ConstraintsKeepRules : Type 0
ConstraintsKeepRules = (t : Table) (lists : Lists) → KeepsRules t → breaks_target t lists ≡ [] → breaks_value t lists ≡ [] → breaks_empty t lists ≡ [] → KeepsRules (constrained t lists)
