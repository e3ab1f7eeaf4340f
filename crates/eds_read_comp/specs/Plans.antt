-- The plan of the components of a sheet, and what they break.
use Rattle.std.specs.Prelude.{ℕ, List, [], ◌∷◌, ◌++◌, map, Option, Some, None, slice_get, Result, Ok, Err}
use Rattle.std.specs.List.{flat_map}
use Rattle.eds_base.specs.declared.refusal.Refusal.{Refusal}
use Rattle.eds_base.specs.Refusals.{least}
use Rattle.eds_tree.specs.declared.tree.Node.{Node}
use Rattle.eds_names.specs.declared.declared.Declared.{Declared}
use Rattle.eds_names.specs.Declarations.{comps_in}
use Rattle.eds_names.specs.LookUp.{Names}
use Rattle.eds_types.specs.Plain.{Plain, plain}
use Rattle.eds_types.specs.Rows.{Table}
use Rattle.eds_plan.specs.declared.component.ComponentPlan.{ComponentPlan}
use Rattle.eds_plan.specs.declared.component.EndPlan.{EndPlan}
use Rattle.eds_plan.specs.declared.component.MapPlan.{MapPlan}
use Rattle.eds_plan.specs.declared.component.VarPlan.{VarPlan}
use Rattle.eds_generic.specs.declared.face.Face.{Face}
use Rattle.eds_generic.specs.Reading.{faces_of}
use Rattle.eds_generic.specs.Resolved.{judged_first}
use Rattle.eds_read_act.specs.Activities.{Planned, planned, activities_at, activity_breaks}
use Rattle.eds_read_act.specs.MachineBreaks.{machine_breaks}
use Rattle.eds_read_act.specs.MachinePlans.{PlannedMachine, planned_machine, machines_at}
use Rattle.eds_read_act.specs.declared.component.Head.{Head}
use Rattle.eds_read_act.specs.declared.variable.VariableHead.{VariableHead}
use Rattle.eds_read_act.specs.Scopes.{Scope}
use Rattle.eds_read_act.specs.Transactions.{transactions_of}
use Rattle.eds_read_comp.specs.EndPlans.{end_plans}
use Rattle.eds_read_comp.specs.FirstValues.{first_value, value_breaks}
use Rattle.eds_read_comp.specs.Implementations.{activity_nodes, machine_nodes, heads_of}
use Rattle.eds_read_comp.specs.ParameterMaps.{map_breaks, map_plans}
use Rattle.eds_read_comp.specs.Uses.{end_breaks}
use Rattle.eds_read_comp.specs.Variables.{variable_nodes, variables_of}

-- ---- a plan as clauses see it: values, statements and guards are plain data

-- what the elements of a component say of it, beside what its variables start with
pub record SaidComponent : Type 0 where
  pub name : List ℕ
  pub ends : List EndPlan
  pub variables : List VariableHead
  pub maps : List MapPlan
  pub activities : List Planned
  pub machines : List PlannedMachine
  pub transactions : List (List ℕ)

-- a variable without what it starts with
abbrev pub head_of : VarPlan → VariableHead
head_of x = record { name = x.name; id = x.id; read_only = x.read_only }

-- what it starts with
abbrev pub first_of_variable : VarPlan → Option Plain
first_of_variable x = Some (plain x.initial)

abbrev pub said_component : ComponentPlan → SaidComponent
said_component c = record {
  name = c.name;
  ends = c.ends;
  variables = map head_of c.variables;
  maps = c.maps;
  activities = map planned c.activities;
  machines = map planned_machine c.machines;
  transactions = c.transactions;
}

-- what the variables of a component start with
abbrev pub firsts_of : ComponentPlan → List (Option Plain)
firsts_of c = map first_of_variable c.variables

-- the components of a plan, and what the variables of each start with
pub record SeenPlan : Type 0 where
  pub components : List SaidComponent
  pub firsts : List (List (Option Plain))

abbrev pub seen_plan : List ComponentPlan → SeenPlan
seen_plan plan = record { components = map said_component plan; firsts = map firsts_of plan }

-- ---- one component, what it names being given as a scope

-- a component of a qualified name
abbrev pub component_in : List ℕ → Scope → ℕ → SaidComponent
component_in name s n = record {
  name = name;
  ends = s.ends;
  variables = s.variables;
  maps = map_plans s.ends s.variables s.tree n;
  activities = activities_at s (activity_nodes s.tree n);
  machines = machines_at s (machine_nodes s.tree n);
  transactions = s.transactions;
}

-- what breaks a rule in its parameter maps, activities and state machines
abbrev pub breaks_in : (file : ℕ) → Scope → ℕ → List Refusal
breaks_in file s n =
    map_breaks s.ends s.variables s.tree file n
    ++ activity_breaks file s (activity_nodes s.tree n)
    ++ machine_breaks file s (machine_nodes s.tree n)

-- what the elements of a component may name, where its ends, its variables and the heads of its activities are given
abbrev pub scope_with : Table → List Node → List EndPlan → List VariableHead → List Head → ℕ → Scope
scope_with table t ends variables heads n = record {
  tree = t;
  table = table;
  ends = ends;
  variables = variables;
  activities = heads;
  transactions = transactions_of t n;
  arguments = None;
}

-- what the elements of a component may name
abbrev pub scope_at : List (List Node) → Names → Table → List Face → List Node → (file : ℕ) → ℕ → Scope
scope_at trees names table faces t file n = scope_with table t (end_plans trees names faces t file n) (variables_of t names file n) (heads_of t names file n) n

-- ---- declared components, where the interfaces of the sheet are given; each is declared in one of the files

module _ (trees : List (List Node)) (names : Names) (table : Table) (faces : List Face) where
  -- a component, its file being given
  abbrev pub component_by : Declared → Option (List Node) → List SaidComponent
  component_by d None = []
  component_by d (Some t) = component_in d.name (scope_at trees names table faces t d.place.file d.place.node) d.place.node ∷ []

  -- the same among the files
  abbrev pub component_of : Declared → List SaidComponent
  component_of d = component_by d (slice_get trees d.place.file)

  -- what breaks a rule in it beside its variables, its file being given
  abbrev pub breaks_by : Declared → Option (List Node) → List Refusal
  breaks_by d None = []
  breaks_by d (Some t) = breaks_in d.place.file (scope_at trees names table faces t d.place.file d.place.node) d.place.node

  -- the same among the files
  abbrev pub breaks_of : Declared → List Refusal
  breaks_of d = breaks_by d (slice_get trees d.place.file)

-- ---- what their variables start with, where a function tells it

module _ (firsts : ℕ → Option (List ℕ) → Option Plain) (trees : List (List Node)) (names : Names) where
  -- what those of a component start with, its file being given
  abbrev pub firsts_by : Declared → Option (List Node) → List (List (Option Plain))
  firsts_by d None = []
  firsts_by d (Some t) = map (first_value firsts t names d.place.file) (variable_nodes t d.place.node) ∷ []

  -- the same among the files
  abbrev pub firsts_at : Declared → List (List (Option Plain))
  firsts_at d = firsts_by d (slice_get trees d.place.file)

  -- those that have nothing to start with, its file being given
  abbrev pub unvalued_by : Declared → Option (List Node) → List Refusal
  unvalued_by d None = []
  unvalued_by d (Some t) = value_breaks firsts t names d.place.file d.place.node

  -- the same among the files
  abbrev pub unvalued_of : Declared → List Refusal
  unvalued_of d = unvalued_by d (slice_get trees d.place.file)

-- ---- all components, where the interfaces of the sheet are given

-- a plan, where nothing is refused
abbrev pub unless : Option Refusal → SeenPlan → Result SeenPlan Refusal
unless None plan = Ok plan
unless (Some r) plan = Err r

module _ (firsts : ℕ → Option (List ℕ) → Option Plain) (trees : List (List Node)) (names : Names) (table : Table) (faces : List Face) where
  -- the plan of all components, in the order of files and elements
  abbrev pub plan_said : SeenPlan
  plan_said = record {
    components = flat_map (component_of trees names table faces) (comps_in names.declared);
    firsts = flat_map (firsts_at firsts trees names) (comps_in names.declared);
  }

  -- what they break, where their interfaces and ends break nothing: a variable has nothing to start with, or a parameter map,
  -- an activity or a state machine is broken
  abbrev pub inner_breaks : List Refusal
  inner_breaks = flat_map (unvalued_of firsts trees names) (comps_in names.declared) ++ flat_map (breaks_of trees names table faces) (comps_in names.declared)

  -- the plan, or the first of these breaks
  abbrev pub inner_read : Result SeenPlan Refusal
  inner_read = unless (least inner_breaks) plan_said

-- ---- the components of a sheet

module _ (firsts : ℕ → Option (List ℕ) → Option Plain) (trees : List (List Node)) (names : Names) (table : Table) where
  -- All that the components of a sheet break: the rules on interfaces, under the maps of ends; and where none of these is
  -- broken, those on variables, parameter maps, activities and state machines.
  abbrev pub component_breaks : List Refusal
  component_breaks = judged_first (end_breaks trees names table) (inner_breaks firsts trees names table (faces_of trees names))

  -- the plan of the components of a sheet, or the first rule that they break
  abbrev pub plan_read : Result SeenPlan Refusal
  plan_read = unless (least component_breaks) (plan_said firsts trees names table (faces_of trees names))
