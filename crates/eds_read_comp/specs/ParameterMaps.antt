-- The parameter maps of components (CCSDS 876.0-B, parameter maps): parameters for which a variable answers.
use Rattle.std.specs.Prelude.{ℕ, ◌+◌, List, [], ◌∷◌, ◌++◌, map, codes, Bool, false, not, ◌&&◌, ◌||◌, ◌==◌, if◌then◌else◌, Option, Some, None, is_some, slice_get}
use Rattle.eds_base.specs.Reading.{◌>>=◌, same}
use Rattle.eds_base.specs.declared.ids.Place.{Place}
use Rattle.eds_base.specs.declared.refusal.Refusal.{Refusal}
use Rattle.eds_base.specs.declared.refusal.Kept.TheVariants.{Nothing}
use Rattle.eds_base.specs.declared.rule.Rule.{Rule}
use Rattle.eds_base.specs.declared.rule.Rule.TheVariants.{BadReference, BadMap}
use Rattle.eds_tree.specs.declared.tree.Node.{Node}
use Rattle.eds_names.specs.Standings.{joined}
use Rattle.eds_names.specs.Repeats.{is_among}
use Rattle.eds_plan.specs.declared.component.EndPlan.{EndPlan}
use Rattle.eds_plan.specs.declared.component.MapPlan.{MapPlan}
use Rattle.eds_plan.specs.declared.instance.Member.{Member}
use Rattle.eds_plan.specs.declared.instance.Member.TheVariants as member
use Rattle.eds_names.specs.Positions.{place_among}
use Rattle.eds_read_act.specs.declared.variable.VariableHead.{VariableHead}
use Rattle.eds_read_comp.specs.declared.parameter_map.Mapping.{Mapping}
use Rattle.eds_read_comp.specs.Variables.{implemented, text_at}

-- a rule is broken at a place, and nothing is kept
abbrev pub broken : Rule → Place → Refusal
broken rule at = record { rule = rule; place = at; kept = Nothing }

-- the parameter maps of a component, in document order
abbrev pub map_nodes : List Node → ℕ → List ℕ
map_nodes t n = implemented t (codes "ParameterMapSet") (codes "ParameterMap") n

-- ---- what a map names

-- a member is the parameter of this name
abbrev pub is_parameter : List ℕ → Member → Bool
is_parameter name (member.Parameter own id read_only) = same own name
is_parameter name (member.Command own arguments) = false

-- the position of the parameter of a name among some members, of which the first has the number k
abbrev pub parameter_from : ℕ → List Member → List ℕ → Option ℕ
parameter_from k [] name = None
parameter_from k (m ∷ ms) name = if is_parameter name m then Some k else parameter_from (k + 1) ms name

-- that of an end's parameter
abbrev pub parameter_of : Option EndPlan → List ℕ → Option ℕ
parameter_of None name = None
parameter_of (Some e) name = parameter_from 0 e.instance.members name

module _ (ends : List EndPlan) (variables : List VariableHead) (t : List Node) where
  -- the position of the end that a map names
  abbrev pub end_found : ℕ → Option ℕ
  end_found n = place_among (map (λ e. e.name) ends) (text_at t (codes "interface") n)

  -- the position of the variable that a map names
  abbrev pub variable_found : ℕ → Option ℕ
  variable_found n = place_among (map (λ v. v.name) variables) (text_at t (codes "variableRef") n)

  -- the position of the parameter that a map names, among the members of an end that is found
  abbrev pub member_found : Option ℕ → ℕ → Option ℕ
  member_found None n = None
  member_found (Some e) n = parameter_of (slice_get ends e) (text_at t (codes "parameter") n)

  -- the positions of its end, of its parameter among the members of the end, and of its variable
  abbrev pub mapping_at : ℕ → Mapping
  mapping_at n = record { face = end_found n; member = member_found (end_found n) n; variable = variable_found n }

-- the parameter that it names, as `end/parameter`
abbrev pub mapped_name : List Node → ℕ → List ℕ
mapped_name t n = joined (text_at t (codes "interface") n) (text_at t (codes "parameter") n)

-- ---- rule BadReference: its end, its parameter or its variable is not there

-- the parameter and the variable that a map names are there, and so is the parameter's end
abbrev pub is_whole : Mapping → Bool
is_whole m = is_some m.member && is_some m.variable

-- ---- rule BadMap

-- the types of the parameter and of the variable differ
abbrev pub differs : Option Member → Option VariableHead → Bool
differs (Some (member.Parameter name id read_only)) (Some v) = not (id.0 == v.id.0)
differs m v = false

-- a parameter that may be set, of a provided end, and a variable that may not be written
abbrev pub lacks_write : Option EndPlan → Option Member → Option VariableHead → Bool
lacks_write (Some e) (Some (member.Parameter name id read_only)) (Some v) = not e.required && (not read_only && v.read_only)
lacks_write e m v = false

module _ (ends : List EndPlan) (variables : List VariableHead) where
  -- the end that a map names, where it is there
  abbrev pub end_of : Mapping → Option EndPlan
  end_of m = m.face >>= λ i. slice_get ends i

  -- the parameter that a map names, where it is there
  abbrev pub member_of : Mapping → Option Member
  member_of m = end_of m >>= λ e. m.member >>= λ i. slice_get e.instance.members i

  -- the variable that a map names, where it is there
  abbrev pub variable_of : Mapping → Option VariableHead
  variable_of m = m.variable >>= λ i. slice_get variables i

  -- it is bad, where an earlier map names the same parameter or not
  abbrev pub is_bad : (second : Bool) → Mapping → Bool
  is_bad second m = second || (differs (member_of m) (variable_of m) || lacks_write (end_of m) (member_of m) (variable_of m))

  -- ---- breaks

  -- at one map: BadMap is judged where it names what is there
  abbrev pub map_breaks_by : Place → (second : Bool) → Mapping → List Refusal
  map_breaks_by at second m = if is_whole m then (if is_bad second m then broken BadMap at ∷ [] else []) else broken BadReference at ∷ []

  -- at some maps, where maps before them name these parameters
  abbrev pub map_breaks_from : List Node → (file : ℕ) → (before : List (List ℕ)) → List ℕ → List Refusal
  map_breaks_from t file before [] = []
  map_breaks_from t file before (n ∷ ns) =
      map_breaks_by (record { file = file; node = n }) (is_among before (mapped_name t n)) (mapping_at ends variables t n)
      ++ map_breaks_from t file (mapped_name t n ∷ before) ns

  -- at those of a component
  abbrev pub map_breaks : List Node → (file : ℕ) → ℕ → List Refusal
  map_breaks t file n = map_breaks_from t file [] (map_nodes t n)

-- ---- in a plan

-- a position, 0 where there is none
abbrev pub position : Option ℕ → ℕ
position None = 0
position (Some i) = i

-- a map as a plan has it, with 0 for what is not there
abbrev pub map_plan : Mapping → MapPlan
map_plan m = record { face = position m.face; member = position m.member; variable = position m.variable }

-- the maps of a component, in document order
abbrev pub map_plans : List EndPlan → List VariableHead → List Node → ℕ → List MapPlan
map_plans ends variables t n = map (λ k. map_plan (mapping_at ends variables t k)) (map_nodes t n)
