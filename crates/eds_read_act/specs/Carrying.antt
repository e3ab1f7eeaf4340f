-- Arguments with their types, and which of them the members of ends carry.
use Rattle.std.specs.Prelude.{ℕ, List, [], ◌∷◌, map, Bool, true, false, not, ◌&&◌, ◌==◌, if◌then◌else◌, Option, Some, None, slice_get}
use Rattle.eds_base.specs.Reading.{◌>>=◌, same}
use Rattle.eds_base.specs.declared.ids.TypeId.{TypeId}
use Rattle.eds_plan.specs.declared.component.EndPlan.{EndPlan}
use Rattle.eds_plan.specs.declared.instance.Argument.{Argument}
use Rattle.eds_plan.specs.declared.instance.Member.{Member}
use Rattle.eds_plan.specs.declared.instance.Member.TheVariants as member
use Rattle.eds_plan.specs.declared.instance.Mode.{Mode}
use Rattle.eds_plan.specs.declared.instance.Mode.TheVariants.{In, Out, InOut, Notify}
use Rattle.eds_plan.specs.declared.run.Way.{Way}
use Rattle.eds_plan.specs.Carried.{carried_fields}

-- the type of the first of some fields that has a name
abbrev pub field_type : List (List ℕ × TypeId) → List ℕ → Option TypeId
field_type [] name = None
field_type (f ∷ fs) name = if same f.0 name then Some f.1 else field_type fs name

-- the arguments of a member that go a way; a parameter has none
abbrev pub member_fields : Way → Member → List (List ℕ × TypeId)
member_fields way (member.Parameter name id read_only) = []
member_fields way (member.Command name args) = carried_fields way args

-- those of each member of an end, in the way in which it sends or receives
unfoldable pub end_fields : (Bool → Way) → EndPlan → List (List (List ℕ × TypeId))
end_fields way e = map (member_fields (way e.required)) e.instance.members

-- those of a member of one of some ends
abbrev pub fields_at : (Bool → Way) → List EndPlan → (end number : ℕ) → Option (List (List ℕ × TypeId))
fields_at way ends end number = slice_get ends end >>= λ e. slice_get (end_fields way e) number

-- ---- ends that carry the same

-- two modes are one
abbrev pub same_mode : Mode → Mode → Bool
same_mode In In = true
same_mode Out Out = true
same_mode InOut InOut = true
same_mode Notify Notify = true
same_mode _ _ = false

-- two arguments are equal
abbrev pub same_argument : Argument → Argument → Bool
same_argument a b = same a.name b.name && (a.id.0 == b.id.0 && same_mode a.mode b.mode)

abbrev pub same_arguments : List Argument → List Argument → Bool
same_arguments [] [] = true
same_arguments (a ∷ xs) (b ∷ ys) = same_argument a b && same_arguments xs ys
same_arguments _ _ = false

-- two members are both parameters, or commands with the same arguments
abbrev pub carry_alike : Member → Member → Bool
carry_alike (member.Parameter name id read_only) (member.Parameter other kind read) = true
carry_alike (member.Command name args) (member.Command other others) = same_arguments args others
carry_alike _ _ = false

abbrev pub all_carry_alike : List Member → List Member → Bool
all_carry_alike [] [] = true
all_carry_alike (m ∷ ms) (n ∷ ns) = carry_alike m n && all_carry_alike ms ns
all_carry_alike _ _ = false

-- two ends are both required or both provided
abbrev pub same_side : Bool → Bool → Bool
same_side one other = if one then other else not other

-- two ends are so, and their members carry the same
abbrev pub ends_carry_alike : EndPlan → EndPlan → Bool
ends_carry_alike e f = same_side e.required f.required && all_carry_alike e.instance.members f.instance.members

-- a number, where the end of that number carries the same as an end
abbrev pub alike_number : List EndPlan → EndPlan → Option ℕ → Option ℕ
alike_number ends end None = None
alike_number ends end (Some k) = slice_get ends k >>= λ e. if ends_carry_alike e end then Some k else None
