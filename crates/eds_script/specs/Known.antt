-- Plans whose members have types of the table.
use Rattle.std.specs.Prelude.{ℕ, ◌<◌, List, length}
use Rattle.std.specs.List.{AllByRecursion}
use Rattle.eds_base.specs.declared.ids.TypeId.{TypeId}
use Rattle.eds_types.specs.Rows.{Table}
use Rattle.eds_plan.specs.declared.component.ComponentPlan.{ComponentPlan}
use Rattle.eds_plan.specs.declared.component.EndPlan.{EndPlan}
use Rattle.eds_plan.specs.declared.instance.Argument.{Argument}
use Rattle.eds_plan.specs.declared.instance.Member.{Member}
use Rattle.eds_plan.specs.declared.instance.Member.TheVariants as member

-- the type of a parameter, and of each argument of a command, is one of the table's
abbrev pub IsKnown : Table → Member → Type 0
IsKnown t (member.Parameter name id read_only) = id.0 < length t
IsKnown t (member.Command name args) = AllByRecursion (λ (a : Argument). a.id.0 < length t) args

-- the types of all members of an end are the table's
abbrev pub AreKnown : Table → EndPlan → Type 0
AreKnown t e = AllByRecursion (IsKnown t) e.instance.members

-- the same of all members of all ends of a plan
abbrev pub KnowsTypes : Table → List ComponentPlan → Type 0
KnowsTypes t plan = AllByRecursion (λ (c : ComponentPlan). AllByRecursion (AreKnown t) c.ends) plan

-- the same of fields
abbrev pub AreFieldsKnown : Table → List (List ℕ × TypeId) → Type 0
AreFieldsKnown t fields = AllByRecursion (λ (f : List ℕ × TypeId). f.1.0 < length t) fields
