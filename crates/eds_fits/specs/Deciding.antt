-- Tests that a component passes only where it fits its table. Each has the name of what it tests in small letters.
use Rattle.std.specs.Prelude.{ℕ, ◌+◌, ◌-◌, ◌^◌, nat_le, nat_lt, ◌==◌, ◌&&◌, ◌||◌, not, pos, List, [], ◌∷◌, ◌++◌, length, Bool, true, false, if◌then◌else◌, Option, Some, None, option_map, slice_get, unwrap_or, map}
use Rattle.std.specs.Ordering.{int_eq}
use Rattle.eds_base.specs.Reading.{◌>>=◌, only}
use Rattle.eds_base.specs.declared.ids.TypeId.{TypeId}
use Rattle.eds_graph.specs.declared.course.Course.{Course}
use Rattle.eds_graph.specs.declared.course.Course.TheVariants as course
use Rattle.eds_graph.specs.Ways.{all_courses}
use Rattle.eds_types.specs.declared.row.Kind.{Kind}
use Rattle.eds_types.specs.declared.row.Kind.TheVariants as kind
use Rattle.eds_types.specs.declared.row.Part.{Part}
use Rattle.eds_types.specs.declared.row.Part.TheVariants as part
use Rattle.eds_types.specs.declared.row.TypeRow.{TypeRow}
use Rattle.eds_types.specs.Fields.{part_at}
use Rattle.eds_types.specs.PackedSizes.{packs}
use Rattle.eds_types.specs.Plain.{Plain, plain, num, label, truth, text, bits, items, fields}
use Rattle.eds_types.specs.Rows.{Table, chain, list_has}
use Rattle.eds_plan.specs.declared.activity.Action.{Action}
use Rattle.eds_plan.specs.declared.activity.Activity.{Activity}
use Rattle.eds_plan.specs.declared.activity.Guard.{Guard}
use Rattle.eds_plan.specs.declared.activity.MathItem.{MathItem}
use Rattle.eds_plan.specs.declared.activity.MathItem.TheVariants as math
use Rattle.eds_plan.specs.declared.activity.Op.{Op}
use Rattle.eds_plan.specs.declared.activity.Op.TheVariants as op
use Rattle.eds_plan.specs.declared.activity.Operand.{Operand}
use Rattle.eds_plan.specs.declared.activity.Operand.TheVariants as source
use Rattle.eds_plan.specs.declared.activity.Relation.{Relation}
use Rattle.eds_plan.specs.declared.activity.Relation.TheVariants as relation
use Rattle.eds_plan.specs.declared.activity.Target.{Target}
use Rattle.eds_plan.specs.declared.component.ComponentPlan.{ComponentPlan}
use Rattle.eds_plan.specs.declared.component.EndPlan.{EndPlan}
use Rattle.eds_plan.specs.declared.component.MapPlan.{MapPlan}
use Rattle.eds_plan.specs.declared.component.VarPlan.{VarPlan}
use Rattle.eds_plan.specs.declared.instance.Argument.{Argument}
use Rattle.eds_plan.specs.declared.instance.Member.{Member}
use Rattle.eds_plan.specs.declared.instance.Member.TheVariants as member
use Rattle.eds_plan.specs.declared.machine.Machine.{Machine}
use Rattle.eds_plan.specs.declared.machine.State.{State}
use Rattle.eds_plan.specs.declared.machine.Transition.{Transition}
use Rattle.eds_plan.specs.declared.machine.Trigger.{Trigger}
use Rattle.eds_plan.specs.declared.machine.Trigger.TheVariants as trigger
use Rattle.eds_plan.specs.declared.run.Way.{Way}
use Rattle.eds_plan.specs.declared.run.Way.TheVariants.{Down, Up}
use Rattle.eds_plan.specs.Carried.{goes, arriving, leaving}
use Rattle.eds_plan.specs.Statements.{Condition, condition, Conditions, compare, every, some, none, more, Stmt, Stmts, assign, calculate, choose, iterate, call, send_command, send_parameter, done, next, stmts, stmts_of}

-- ---- types

-- what a row says of its type
abbrev pub kind_in : Option TypeRow → Option Kind
kind_in row = option_map (λ (r : TypeRow). r.kind) row

-- the kind of a type, if the table has it
abbrev pub kind_of : Table → ℕ → Option Kind
kind_of t id = kind_in (slice_get t id)

abbrev pub is_numeric : Option Kind → Bool
is_numeric (Some (kind.Int f s)) = true
is_numeric k = false

abbrev pub are_alike : Table → ℕ → Kind → ℕ → Kind → Bool
are_alike t a (kind.Int f s) b (kind.Int g u) = true
are_alike t a (kind.Bool f) b (kind.Bool g) = true
are_alike t a (kind.Str f) b (kind.Str g) = true
are_alike t a (kind.Bin m tail) b (kind.Bin n free) = true
are_alike t a (kind.Enum f l) b (kind.Enum g m) = a == b
are_alike t a (kind.Arr i m) b (kind.Arr j n) = a == b
are_alike t a (kind.Con c) b (kind.Con d) = list_has (chain t b) a || list_has (chain t a) b
are_alike t a k b l = false

abbrev pub both_alike : Table → ℕ → Option Kind → ℕ → Option Kind → Bool
both_alike t a (Some k) b (Some l) = are_alike t a k b l
both_alike t a k b l = false

abbrev pub fit_together : Table → ℕ → ℕ → Bool
fit_together t a b = both_alike t a (kind_of t a) b (kind_of t b)

-- the type is there, and the value packs as it
abbrev pub value_fits : Table → ℕ → Plain → Bool
value_fits t id v = nat_lt id (length t) && packs t id v

-- ---- paths

-- the type of an entry
abbrev pub entry_of : Option Part → Option TypeId
entry_of None = None
entry_of (Some (part.Plain name id)) = Some id
entry_of (Some (part.Fixed name id v)) = None
entry_of (Some (part.Pad n)) = None
entry_of (Some (part.List name id y i)) = None
entry_of (Some (part.Length name id c0 c1)) = None
entry_of (Some (part.Check name id k)) = None

-- the type of the entry at a place that a container type has, or a base of it
abbrev pub entry_at : Table → ℕ → TypeId × ℕ → Option TypeId
entry_at t id p = if list_has (chain t id) (p.0).0 then entry_of (part_at t p) else None

-- the type to which a path leads
abbrev pub led : Table → TypeId → List (TypeId × ℕ) → Option TypeId
led t id [] = Some id
led t id (p ∷ path) = entry_at t id.0 p >>= λ inner. led t inner path

-- each operand was taken
abbrev pub is_all : Option (List Operand) → Bool
is_all None = false
is_all (Some []) = true
is_all (Some (a ∷ as')) = false

-- no operand
abbrev pub nothing_sent : Option Operand → Bool
nothing_sent None = true
nothing_sent (Some a) = false

-- a relation that asks for an order
abbrev pub is_order : Relation → Bool
is_order relation.Equal = false
is_order relation.NotEqual = false
is_order relation.Less = true
is_order relation.LessOrEqual = true
is_order relation.Greater = true
is_order relation.GreaterOrEqual = true

-- ---- operands, by the variables of a component and the types of arguments

abbrev pub is_number_type : Table → Option TypeId → Bool
is_number_type t None = false
is_number_type t (Some id) = is_numeric (kind_of t id.0)

abbrev pub type_fits : Table → Option TypeId → ℕ → Bool
type_fits t None id = false
type_fits t (Some from) id = fit_together t from.0 id

abbrev pub is_number_value : Plain → Bool
is_number_value (num n) = true
is_number_value (label l) = false
is_number_value (truth b) = false
is_number_value (text s) = false
is_number_value (bits n o) = false
is_number_value (items vs) = false
is_number_value (fields k vs) = false

module _ (t : Table) (xs : List VarPlan) (args : List TypeId) where
  -- the type of a variable, or of an entry of it
  abbrev pub variable_type : ℕ → List (TypeId × ℕ) → Option TypeId
  variable_type x path = slice_get xs x >>= λ (v : VarPlan). led t v.id path

  -- the type of an argument, or of an entry of it
  abbrev pub argument_type : ℕ → List (TypeId × ℕ) → Option TypeId
  argument_type i path = slice_get args i >>= λ (id : TypeId). led t id path

  -- that of an operand that is no value
  abbrev pub operand_type : Operand → Option TypeId
  operand_type (source.Value v) = None
  operand_type (source.Variable x path) = variable_type x path
  operand_type (source.Argument i path) = argument_type i path

  abbrev pub operand_fits : ℕ → Operand → Bool
  operand_fits id (source.Value v) = value_fits t id (plain v)
  operand_fits id (source.Variable x path) = type_fits t (variable_type x path) id
  operand_fits id (source.Argument i path) = type_fits t (argument_type i path) id

  -- the operands behind the first one, which fits the type
  abbrev pub first_taken : ℕ → List Operand → Option (List Operand)
  first_taken id [] = None
  first_taken id (a ∷ as') = if operand_fits id a then Some as' else None

  -- the operands behind those for the arguments of an activity, each of which fits
  abbrev pub fields_taken : List (List ℕ × TypeId) → List Operand → Option (List Operand)
  fields_taken [] os = Some os
  fields_taken (p ∷ ps) os = first_taken (p.1).0 os >>= λ rest. fields_taken ps rest

  -- the operands behind that for an argument of a command, if the argument goes this way
  abbrev pub argument_taken : Way → Argument → List Operand → Option (List Operand)
  argument_taken way a os = if goes way a.mode then first_taken a.id.0 os else Some os

  -- the operands behind those for the arguments of a command that go this way, each of which fits
  abbrev pub arguments_taken : Way → List Argument → List Operand → Option (List Operand)
  arguments_taken way [] os = Some os
  arguments_taken way (a ∷ as') os = argument_taken way a os >>= λ rest. arguments_taken way as' rest

  abbrev pub is_number : Operand → Bool
  is_number (source.Value v) = is_number_value (plain v)
  is_number (source.Variable x path) = is_number_type t (variable_type x path)
  is_number (source.Argument i path) = is_number_type t (argument_type i path)

  -- ---- conditions

  -- two operands fit each other, of which these types are known
  abbrev pub fit_by : Option TypeId → Option TypeId → (one other : Operand) → Bool
  fit_by (Some id) b one other = operand_fits id.0 other
  fit_by None (Some id) one other = operand_fits id.0 one
  fit_by None None one other = false

  abbrev pub both_fit : Operand → Operand → Bool
  both_fit one other = fit_by (operand_type one) (operand_type other) one other

  abbrev pub comparison_fits : Relation → Operand → Operand → Bool
  comparison_fits r a b = both_fit a b && (not (is_order r) || (is_number a && is_number b))

  abbrev mutual
    pub condition_fits : Condition → Bool
    condition_fits (compare r a b) = comparison_fits r a b
    condition_fits (every cs) = conditions_fit cs
    condition_fits (some cs) = conditions_fit cs

    pub conditions_fit : Conditions → Bool
    conditions_fit none = true
    conditions_fit (more c cs) = condition_fits c && conditions_fit cs

  -- ---- calculations

  -- after the items one number is left, where there are n before them
  abbrev pub leaves_one : ℕ → List MathItem → Bool
  leaves_one n [] = n == 1
  leaves_one n (math.Operand a ∷ is) = is_number a && leaves_one (n + 1) is
  leaves_one n (math.Operator o ∷ is) = nat_le 2 n && leaves_one (n - 1) is

  -- ---- members

  -- the operands of a command that is sent
  abbrev pub command_sent : Way → Member → List Operand → Bool
  command_sent way (member.Parameter name id read_only) os = false
  command_sent way (member.Command name arguments) os = is_all (arguments_taken way arguments os)

  -- the operand for a type
  abbrev pub value_sent : ℕ → Option Operand → Bool
  value_sent id None = false
  value_sent id (Some a) = operand_fits id a

  -- the operand of a parameter of a type that is asked for or set downwards, or told upwards
  abbrev pub sent_by : Op → Way → ℕ → Option Operand → Bool
  sent_by op.Command way id a = false
  sent_by op.Get Down id a = nothing_sent a
  sent_by op.Get Up id a = false
  sent_by op.Set Down id a = value_sent id a
  sent_by op.Set Up id a = false
  sent_by op.Val Down id a = false
  sent_by op.Val Up id a = value_sent id a

  -- that of a member, which is to be a parameter
  abbrev pub parameter_sent : Op → Way → Member → Option Operand → Bool
  parameter_sent o way (member.Command name arguments) a = false
  parameter_sent o way (member.Parameter name id read_only) a = sent_by o way id.0 a

  -- a call of an activity that may be there
  abbrev pub called_fits : Option Activity → List Operand → Bool
  called_fits None os = false
  called_fits (Some b) os = is_all (fields_taken b.arguments os)

-- a transaction, if one is named, is one of so many
abbrev pub is_numbered : ℕ → Option ℕ → Bool
is_numbered count None = true
is_numbered count (Some name) = nat_lt name count

-- a member, with whether its end is required
abbrev pub with_end : Bool → Member → Option (Bool × Member)
with_end required m = Some (required, m)

-- a member of an end
abbrev pub member_in : EndPlan → ℕ → Option (Bool × Member)
member_in e number = slice_get e.instance.members number >>= λ (m : Member). with_end e.required m

-- a member of one of some ends
abbrev pub member_of : List EndPlan → (face number : ℕ) → Option (Bool × Member)
member_of ends face number = slice_get ends face >>= λ (e : EndPlan). member_in e number

-- a number, 0 where there is none
abbrev pub rank_of : List ℕ → ℕ → ℕ
rank_of ranks i = unwrap_or (slice_get ranks i) 0

-- ---- statements of an activity of a rank

module _ (t : Table) (c : ComponentPlan) (args : List TypeId) (ranks : List ℕ) (own : ℕ) where
  abbrev pub assigned_fits : Option TypeId → Operand → Bool
  assigned_fits None a = false
  assigned_fits (Some id) a = operand_fits t c.variables args id.0 a

  abbrev pub command_member_sent : Option (Bool × Member) → List Operand → Bool
  command_member_sent None os = false
  command_member_sent (Some m) os = command_sent t c.variables args (leaving m.0) m.1 os

  abbrev pub parameter_member_sent : Op → Option (Bool × Member) → Option Operand → Bool
  parameter_member_sent o None a = false
  parameter_member_sent o (Some m) a = parameter_sent t c.variables args o (leaving m.0) m.1 a

  -- the calculation is of numbers, and leaves one
  abbrev pub calculation_fits : Target → List MathItem → Bool
  calculation_fits x is = is_number_type t (variable_type t c.variables args x.variable x.path) && leaves_one t c.variables args 0 is

  -- an iteration counts by numbers
  abbrev pub counts : ℕ → (first last : Operand) → Bool
  counts x a b = is_number_type t (variable_type t c.variables args x []) && (is_number t c.variables args a && is_number t c.variables args b)

  -- a call leads down to an activity that is there
  abbrev pub call_fits : Action → Bool
  call_fits action = nat_lt (rank_of ranks action.activity) own && called_fits t c.variables args (slice_get c.activities action.activity) action.operands

  abbrev mutual
    pub statement_fits : Stmt → Bool
    statement_fits (assign x a) = assigned_fits (variable_type t c.variables args x.variable x.path) a
    statement_fits (calculate x is) = calculation_fits x is
    statement_fits (choose g a b) = condition_fits t c.variables args g && (statements_fit a && statements_fit b)
    statement_fits (iterate x a b step body) = counts x a b && (not (int_eq step (pos 0)) && statements_fit body)
    statement_fits (call action) = call_fits action
    statement_fits (send_command end number os name) = command_member_sent (member_of c.ends end number) os && is_numbered (length c.transactions) name
    statement_fits (send_parameter end number o a name) = parameter_member_sent o (member_of c.ends end number) a && is_numbered (length c.transactions) name

    pub statements_fit : Stmts → Bool
    statements_fit done = true
    statements_fit (next s ss) = statement_fits s && statements_fit ss

-- ---- what events bring

-- the type of an argument, if it goes this way
abbrev pub carried_if : Way → Argument → List TypeId
carried_if way a = if goes way a.mode then a.id ∷ [] else []

-- the types of the arguments that go a way
abbrev pub carried_ids : Way → List Argument → List TypeId
carried_ids way [] = []
carried_ids way (a ∷ as') = carried_if way a ++ carried_ids way as'

abbrev pub command_brings : Way → Member → Option (List TypeId)
command_brings way (member.Parameter name id read_only) = None
command_brings way (member.Command name arguments) = Some (carried_ids way arguments)

-- the types of what the event of a parameter of a type carries
abbrev pub brought_by : Op → Way → TypeId → Option (List TypeId)
brought_by op.Command way id = None
brought_by op.Get Down id = Some []
brought_by op.Get Up id = None
brought_by op.Set Down id = Some (id ∷ [])
brought_by op.Set Up id = None
brought_by op.Val Down id = None
brought_by op.Val Up id = Some (id ∷ [])

abbrev pub parameter_brings : Op → Way → Member → Option (List TypeId)
parameter_brings o way (member.Command name arguments) = None
parameter_brings o way (member.Parameter name id read_only) = brought_by o way id

abbrev pub command_brought : Option (Bool × Member) → Option (List TypeId)
command_brought None = None
command_brought (Some m) = command_brings (arriving m.0) m.1

abbrev pub parameter_brought : Op → Option (Bool × Member) → Option (List TypeId)
parameter_brought o None = None
parameter_brought o (Some m) = parameter_brings o (arriving m.0) m.1

-- the types of what a trigger's event carries, where the trigger fits
abbrev pub brought : List EndPlan → Trigger → Option (List TypeId)
brought ends trigger.Start = Some []
brought ends (trigger.Command face number) = command_brought (member_of ends face number)
brought ends (trigger.Param face number o) = parameter_brought o (member_of ends face number)
brought ends (trigger.Timer n) = only (nat_le n (10 ^ 18)) []

-- ---- machines

module _ (t : Table) (c : ComponentPlan) where
  abbrev pub action_fits : List TypeId → Option Action → Bool
  action_fits args None = true
  action_fits args (Some a) = called_fits t c.variables args (slice_get c.activities a.activity) a.operands

  abbrev pub guard_fits : List TypeId → Option Guard → Bool
  guard_fits args None = true
  guard_fits args (Some g) = condition_fits t c.variables args (condition g)

  abbrev pub state_fits : State → Bool
  state_fits s = action_fits [] s.at_entry && action_fits [] s.at_exit

  abbrev pub states_fit : List State → Bool
  states_fit [] = true
  states_fit (s ∷ ss) = state_fits s && states_fit ss

  -- the guard and the action of a transition, by what its event brings
  abbrev pub inner_fits : Option (List TypeId) → Transition → Bool
  inner_fits None x = false
  inner_fits (Some ids) x = guard_fits ids x.guard && action_fits ids x.action

  -- a transition of a machine of so many states
  abbrev pub transition_fits : ℕ → Transition → Bool
  transition_fits states x = (nat_lt x.from states && nat_lt x.to states) && (is_numbered (length c.transactions) x.transaction && inner_fits (brought c.ends x.event) x)

  abbrev pub transitions_fit : ℕ → List Transition → Bool
  transitions_fit states [] = true
  transitions_fit states (x ∷ xs) = transition_fits states x && transitions_fit states xs

  abbrev pub machine_fits : Machine → Bool
  machine_fits m = nat_lt m.entry (length m.states) && (states_fit m.states && transitions_fit (length m.states) m.transitions)

  abbrev pub machines_fit : List Machine → Bool
  machines_fit [] = true
  machines_fit (m ∷ ms) = machine_fits m && machines_fit ms

-- ---- components

module _ (t : Table) where
  abbrev pub is_known : ℕ → Bool
  is_known id = nat_lt id (length t)

  abbrev pub fields_known : List (List ℕ × TypeId) → Bool
  fields_known [] = true
  fields_known (p ∷ ps) = is_known (p.1).0 && fields_known ps

  abbrev pub activities_known : List Activity → Bool
  activities_known [] = true
  activities_known (a ∷ as') = fields_known a.arguments && activities_known as'

  abbrev pub arguments_known : List Argument → Bool
  arguments_known [] = true
  arguments_known (a ∷ as') = is_known a.id.0 && arguments_known as'

  abbrev pub member_known : Member → Bool
  member_known (member.Parameter name id read_only) = is_known id.0
  member_known (member.Command name arguments) = arguments_known arguments

  abbrev pub members_known : List Member → Bool
  members_known [] = true
  members_known (m ∷ ms) = member_known m && members_known ms

  abbrev pub ends_known : List EndPlan → Bool
  ends_known [] = true
  ends_known (e ∷ es) = members_known e.instance.members && ends_known es

  abbrev pub variables_fit : List VarPlan → Bool
  variables_fit [] = true
  variables_fit (x ∷ xs) = value_fits t x.id.0 (plain x.initial) && variables_fit xs

-- a parameter and a variable of one type
abbrev pub of_one_type : Option (Bool × Member) → Option VarPlan → Bool
of_one_type None x = false
of_one_type (Some m) None = false
of_one_type (Some (required, member.Command name arguments)) (Some x) = false
of_one_type (Some (required, member.Parameter name id read_only)) (Some x) = x.id.0 == id.0

abbrev pub map_fits : ComponentPlan → MapPlan → Bool
map_fits c m = of_one_type (member_of c.ends m.face m.member) (slice_get c.variables m.variable)

abbrev pub maps_fit : ComponentPlan → List MapPlan → Bool
maps_fit c [] = true
maps_fit c (m ∷ ms) = map_fits c m && maps_fit c ms

-- what a component declares is there
abbrev pub declares_known : Table → ComponentPlan → Bool
declares_known t c = variables_fit t c.variables && (activities_known t c.activities && (ends_known t c.ends && maps_fit c c.maps))

-- the types of the arguments of an activity
abbrev pub argument_ids : List (List ℕ × TypeId) → List TypeId
argument_ids [] = []
argument_ids (p ∷ ps) = p.1 ∷ argument_ids ps

module _ (t : Table) (c : ComponentPlan) (ranks : List ℕ) where
  -- the body of the activity of a number
  abbrev pub body_fits : ℕ → Activity → Bool
  body_fits i a = statements_fit t c (argument_ids a.arguments) ranks (rank_of ranks i) (stmts_of (stmts a.body))

  -- the bodies of activities from a number on
  abbrev pub bodies_fit : ℕ → List Activity → Bool
  bodies_fit i [] = true
  bodies_fit i (a ∷ as') = body_fits i a && bodies_fit (i + 1) as'

  -- what is done fits
  abbrev pub does_fitting : Bool
  does_fitting = bodies_fit 0 c.activities && (nat_le (length c.machines) 16 && machines_fit t c c.machines)

  -- a component fits, where calls lead down by these ranks of its activities
  abbrev pub component_fits : Bool
  component_fits = declares_known t c && does_fitting

-- ---- ranks of activities

abbrev mutual
  -- the activities that a statement calls
  pub called_by : Stmt → List ℕ
  called_by (assign x a) = []
  called_by (calculate x is) = []
  called_by (choose g a b) = called_in a ++ called_in b
  called_by (iterate x a b step body) = called_in body
  called_by (call action) = action.activity ∷ []
  called_by (send_command end number os name) = []
  called_by (send_parameter end number o a name) = []

  -- those that some statements call, in their order
  pub called_in : Stmts → List ℕ
  called_in done = []
  called_in (next s ss) = called_by s ++ called_in ss

-- at each activity those that it calls
abbrev pub call_graph : List Activity → List (List ℕ)
call_graph as' = map (λ (a : Activity). called_in (stmts_of (stmts a.body))) as'

-- how many activities the longest way of calls goes over, and 0 where it has no end
abbrev pub rank_by : Course → ℕ
rank_by course.OnCircle = 0
rank_by course.ToCircle = 0
rank_by (course.Ends n) = n

abbrev pub ranks_of : List Activity → List ℕ
ranks_of as' = map rank_by (all_courses (call_graph as'))

-- ---- plans

module _ (t : Table) where
  -- each component fits
  abbrev pub all_fit : List ComponentPlan → Bool
  all_fit [] = true
  all_fit (c ∷ cs) = component_fits t c (ranks_of c.activities) && all_fit cs

  -- there are at most 64, and each fits
  abbrev pub plan_fits : List ComponentPlan → Bool
  plan_fits cs = nat_le (length cs) 64 && all_fit cs
