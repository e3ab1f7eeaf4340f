-- The members of an end, by their names.
use Rattle.std.specs.Prelude.{ℕ, ◌+◌, List, [], ◌∷◌, Bool, Option, Some, None, option_map, if◌then◌else◌}
use Rattle.eds_base.specs.Reading.{same}
use Rattle.eds_base.specs.declared.ids.TypeId.{TypeId}
use Rattle.eds_plan.specs.Carried.{arriving, carried_fields}
use Rattle.eds_plan.specs.declared.component.EndPlan.{EndPlan}
use Rattle.eds_plan.specs.declared.instance.Argument.{Argument}
use Rattle.eds_plan.specs.declared.instance.Member.{Member}
use Rattle.eds_plan.specs.declared.instance.Member.TheVariants as member

-- a command: its position among the members, and its arguments
pub record Commanded : Type 0 where
  pub place : ℕ
  pub arguments : List Argument

-- a parameter: its position among the members, its type, and whether it is read-only
pub record Parametered : Type 0 where
  pub place : ℕ
  pub id : TypeId
  pub read_only : Bool

-- the first command of a name, among the members from a position on
abbrev pub command_from : List ℕ → ℕ → List Member → Option Commanded
command_from name i [] = None
command_from name i (member.Parameter n id read_only ∷ ms) = command_from name (i + 1) ms
command_from name i (member.Command n args ∷ ms) = if same n name then Some (record { place = i; arguments = args }) else command_from name (i + 1) ms

-- the first parameter of a name, among the members from a position on
abbrev pub parameter_from : List ℕ → ℕ → List Member → Option Parametered
parameter_from name i [] = None
parameter_from name i (member.Parameter n id read_only ∷ ms) = if same n name then Some (record { place = i; id = id; read_only = read_only }) else parameter_from name (i + 1) ms
parameter_from name i (member.Command n args ∷ ms) = parameter_from name (i + 1) ms

-- its position alone
abbrev pub command_place : List ℕ → ℕ → List Member → Option ℕ
command_place name i ms = option_map (λ (m : Commanded). m.place) (command_from name i ms)

-- a command that arrives: its position among the members, and the fields that it carries in that way
pub record Carrying : Type 0 where
  pub place : ℕ
  pub fields : List (List ℕ × TypeId)

-- the first command of a name at an end, with what arrives there
abbrev pub commanded : EndPlan → List ℕ → Option Carrying
commanded p name = option_map (λ (m : Commanded). record { place = m.place; fields = carried_fields (arriving p.required) m.arguments }) (command_from name 0 p.instance.members)
