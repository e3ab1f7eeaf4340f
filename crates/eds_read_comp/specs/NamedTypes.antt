-- The types that the interfaces of a sheet and the maps of its ends name.
use Rattle.std.specs.Prelude.{◌≡◌, ◌++◌, ℕ, true, List, Option, Ok}
use Rattle.std.specs.List.{AllByRecursion, flat_map}
use Rattle.eds_base.specs.declared.ids.TypeId.{TypeId}
use Rattle.eds_tree.specs.declared.tree.Node.{Node}
use Rattle.eds_names.specs.LookUp.{Names}
use Rattle.eds_types.specs.Plain.{Plain}
use Rattle.eds_types.specs.Rows.{Table}
use Rattle.eds_plan.specs.Arguments.{OnArguments}
use Rattle.eds_plan.specs.declared.component.EndPlan.{EndPlan}
use Rattle.eds_generic.specs.NamedTypes.{is_named, named_types, used_types}
use Rattle.eds_generic.specs.Reading.{faces_of}
use Rattle.eds_read_comp.specs.Plans.{SaidComponent, SeenPlan, plan_read}
use Rattle.eds_read_comp.specs.Uses.{all_uses}

-- those that interfaces name, in the maps of their bases and as arguments of their commands, and then those that the maps of ends name
abbrev pub types_named_in : List (List Node) → Names → List TypeId
types_named_in trees names = named_types (faces_of trees names) ++ flat_map used_types (all_uses trees names)

-- the types of the arguments of all commands at all ends of some components have this
abbrev pub OnSaidArguments : (ℕ → Type 0) → List SaidComponent → Type 0
OnSaidArguments P components = AllByRecursion (λ (c : SaidComponent). AllByRecursion (λ (e : EndPlan). AllByRecursion (OnArguments P) e.instance.members) c.ends) components

-- each argument of a command at an end of a sheet that breaks no rule has one of these types
abbrev pub PlansCarryNamedTypes : Type 0
PlansCarryNamedTypes = (firsts : ℕ → Option (List ℕ) → Option Plain) (trees : List (List Node)) (names : Names) (table : Table) (plan : SeenPlan) → plan_read firsts trees names table ≡ Ok plan
    → OnSaidArguments (λ id. is_named (types_named_in trees names) id ≡ true) plan.components
