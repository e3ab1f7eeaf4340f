-- What arrives for the members of a plan's ends, all at once.
use Rattle.std.specs.Prelude.{ℕ, List, [], map, Bool, Option, slice_get}
use Rattle.eds_base.specs.Reading.{◌>>=◌}
use Rattle.eds_base.specs.declared.ids.TypeId.{TypeId}
use Rattle.eds_plan.specs.Carried.{arriving, carried_fields}
use Rattle.eds_plan.specs.declared.component.ComponentPlan.{ComponentPlan}
use Rattle.eds_plan.specs.declared.component.EndPlan.{EndPlan}
use Rattle.eds_plan.specs.declared.instance.Member.{Member}
use Rattle.eds_plan.specs.declared.instance.Member.TheVariants as member
use Rattle.eds_plan.specs.declared.run.End.{End}

-- names with types
abbrev pub Fields : Type 0
Fields = List (List ℕ × TypeId)

-- what arrives for a member at an end, which is required or not; a parameter has no fields
abbrev pub member_fields : Bool → Member → Fields
member_fields required (member.Parameter name id read_only) = []
member_fields required (member.Command name arguments) = carried_fields (arriving required) arguments

-- for each member of an end
abbrev pub end_fields : EndPlan → List Fields
end_fields e = map (member_fields e.required) e.instance.members

-- for each member of each end of a component
abbrev pub component_fields : ComponentPlan → List (List Fields)
component_fields c = map end_fields c.ends

-- for each member of each end of a plan
abbrev pub plan_fields : List ComponentPlan → List (List (List Fields))
plan_fields plan = map component_fields plan

-- those of an end
abbrev pub fields_there : List (List (List Fields)) → End → Option (List Fields)
fields_there all e = slice_get all e.comp.0 >>= λ c. slice_get c e.face
