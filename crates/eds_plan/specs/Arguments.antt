-- The types of the arguments that commands carry, and what holds of each of them.
use Rattle.std.specs.Prelude.{◌≡◌, ◌<◌, ℕ, List, length, None, ⊤}
use Rattle.std.specs.List.{AllByRecursion}
use Rattle.eds_base.specs.declared.ids.TypeId.{TypeId}
use Rattle.eds_bits.specs.Lists.{Has}
use Rattle.eds_types.specs.Rows.{Table, id_of}
use Rattle.eds_types.specs.Sizes.{open_of}
use Rattle.eds_plan.specs.declared.component.ComponentPlan.{ComponentPlan}
use Rattle.eds_plan.specs.declared.component.EndPlan.{EndPlan}
use Rattle.eds_plan.specs.declared.instance.Argument.{Argument}
use Rattle.eds_plan.specs.declared.instance.Member.{Member}
use Rattle.eds_plan.specs.declared.instance.Member.TheVariants as members

-- the types of all arguments of a member, if it is a command, have this
abbrev pub OnArguments : (ℕ → Type 0) → Member → Type 0
OnArguments P (members.Parameter name id read_only) = ⊤
OnArguments P (members.Command name args) = AllByRecursion (λ (a : Argument). P a.id.0) args

-- those of all commands at all ends of all components of a plan have it
abbrev pub OnAllArguments : (ℕ → Type 0) → List ComponentPlan → Type 0
OnAllArguments P plan = AllByRecursion (λ (c : ComponentPlan). AllByRecursion (λ (e : EndPlan). AllByRecursion (OnArguments P) e.instance.members) c.ends) plan

-- a type of the table that is used and is no open binary
abbrev pub IsUsedClosed : Table → List TypeId → (id : ℕ) → Type 0
IsUsedClosed t used id = Has used (id_of id) × (id < length t) × (open_of t id ≡ None)

-- each argument of a command has a used type of the table that is no open binary
abbrev pub ArgumentsAreUsed : Table → List TypeId → List ComponentPlan → Type 0
ArgumentsAreUsed t used plan = OnAllArguments (IsUsedClosed t used) plan
