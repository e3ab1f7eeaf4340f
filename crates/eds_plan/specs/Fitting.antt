-- Plans that fit their table: what is named is there, and operands fit what takes them.
use Rattle.std.specs.Prelude.{◌≡◌, ◌≢◌, ◌≤◌, ◌<◌, ◌+◌, ◌^◌, ℕ, suc, ℤ, pos, List, [], ◌∷◌, length, Bool, true, Option, Some, None, slice_get, ◌⊎◌}
use Rattle.std.specs.List.{AllByRecursion}
use Rattle.eds_base.specs.declared.ids.TypeId.{TypeId}
use Rattle.eds_bits.specs.Lists.{Has}
use Rattle.eds_types.specs.declared.row.TypeRow.{TypeRow}
use Rattle.eds_types.specs.declared.row.Kind.{Kind}
use Rattle.eds_types.specs.declared.row.Kind.TheVariants as kind
use Rattle.eds_types.specs.declared.row.Part.TheVariants as part
use Rattle.eds_types.specs.Fields.{part_at, IsAtOrUnder}
use Rattle.eds_types.specs.Plain.{Plain, plain, num}
use Rattle.eds_types.specs.Rows.{Table, chain}
use Rattle.eds_plan.specs.declared.activity.Action.{Action}
use Rattle.eds_plan.specs.declared.activity.Activity.{Activity}
use Rattle.eds_plan.specs.declared.activity.Guard.{Guard}
use Rattle.eds_plan.specs.declared.activity.MathItem.{MathItem}
use Rattle.eds_plan.specs.declared.activity.MathItem.TheVariants as math
use Rattle.eds_plan.specs.declared.activity.Op.{Op}
use Rattle.eds_plan.specs.declared.activity.Op.TheVariants as op
use Rattle.eds_plan.specs.declared.activity.Operand.{Operand}
use Rattle.eds_plan.specs.declared.activity.Operand.TheVariants as source
use Rattle.eds_plan.specs.declared.activity.Relation.{Relation}
use Rattle.eds_plan.specs.declared.activity.Relation.TheVariants.{Equal, NotEqual}
use Rattle.eds_plan.specs.declared.activity.Target.{Target}
use Rattle.eds_plan.specs.declared.component.ComponentPlan.{ComponentPlan}
use Rattle.eds_plan.specs.declared.component.EndPlan.{EndPlan}
use Rattle.eds_plan.specs.declared.component.MapPlan.{MapPlan}
use Rattle.eds_plan.specs.declared.instance.Argument.{Argument}
use Rattle.eds_plan.specs.declared.instance.Member.{Member}
use Rattle.eds_plan.specs.declared.instance.Member.TheVariants as member
use Rattle.eds_plan.specs.declared.component.VarPlan.{VarPlan}
use Rattle.eds_plan.specs.declared.machine.Machine.{Machine}
use Rattle.eds_plan.specs.declared.machine.State.{State}
use Rattle.eds_plan.specs.declared.machine.Transition.{Transition}
use Rattle.eds_plan.specs.declared.machine.Trigger.{Trigger}
use Rattle.eds_plan.specs.declared.machine.Trigger.TheVariants as trigger
use Rattle.eds_plan.specs.declared.run.End.{End}
use Rattle.eds_plan.specs.declared.run.Way.{Way}
use Rattle.eds_plan.specs.Carried.{OpFits, arriving, carried, leaving}
use Rattle.eds_plan.specs.Ends.{end_at}
use Rattle.eds_plan.specs.Interfaces.{same_interface}
use Rattle.eds_plan.specs.Plans.{argument_types, variable_types}
use Rattle.eds_plan.specs.Statements.{Condition, condition, Conditions, compare, every, some, none, more, Stmt, Stmts, assign, calculate, choose, iterate, call, send_command, send_parameter, done, next, stmts, stmts_of}

-- ---- types

-- from a container type the path goes over entries to a type; an empty path stays
abbrev pub LeadsFrom : Table → ℕ → List (TypeId × ℕ) → ℕ → Type 0
LeadsFrom t id [] to = id ≡ to
LeadsFrom t id (p ∷ path) to = Has (chain t id) (p.0).0 × (name : List ℕ) × (inner : TypeId) × (part_at t p ≡ Some (part.Plain name inner)) × LeadsFrom t inner.0 path to

-- what values of a type are: two types fit each other by this
abbrev pub AreAlike : Table → ℕ → Kind → ℕ → Kind → Type 0
AreAlike t a (kind.Int f s) b (kind.Int g u) = Unit {0}
AreAlike t a (kind.Bool f) b (kind.Bool g) = Unit {0}
AreAlike t a (kind.Str f) b (kind.Str g) = Unit {0}
AreAlike t a (kind.Bin m tail) b (kind.Bin n free) = Unit {0}
AreAlike t a (kind.Enum f l) b (kind.Enum g m) = a ≡ b
AreAlike t a (kind.Arr i m) b (kind.Arr j n) = a ≡ b
AreAlike t a (kind.Con c) b (kind.Con d) = IsAtOrUnder t a b ⊎ IsAtOrUnder t b a
AreAlike t a k b l = ⊥

-- values of the two types may stand for each other
pub record FitTogether (t : Table) (a b : ℕ) : Type 0 where
  pub one : TypeRow
  pub other : TypeRow
  pub one_is : slice_get t a ≡ Some one
  pub other_is : slice_get t b ≡ Some other
  pub alike : AreAlike t a one.kind b other.kind

-- an integer kind or a sub-range
abbrev pub IsNumeric : Kind → Type 0
IsNumeric (kind.Int f s) = Unit {0}
IsNumeric k = ⊥

-- the type is of numbers
abbrev pub IsNumberType : Table → ℕ → Type 0
IsNumberType t id = (row : TypeRow) × (slice_get t id ≡ Some row) × IsNumeric row.kind

-- ---- members and transactions

-- at an end of the component, over which things go this way, such a thing may be done at a member, which then carries values
-- of these types
pub record CarriesAt (way : Bool → Way) (c : ComponentPlan) (face number : ℕ) (o : Op) (ids : List ℕ) : Type 0 where
  pub end : EndPlan
  pub end_is : slice_get c.ends face ≡ Some end
  pub member : Member
  pub member_is : slice_get end.instance.members number ≡ Some member
  pub op : OpFits o (way end.required) member
  pub types : ids ≡ carried o (way end.required) (Some member)

-- a transaction, if one is named, is one of so many
abbrev pub IsNumbered : ℕ → Option ℕ → Type 0
IsNumbered count None = Unit {0}
IsNumbered count (Some name) = name < count

-- ---- operands; Conforms says which values pack as a type

module _ (t : Table) (Conforms : ℕ → Plain → Type 0) (vars args : List ℕ) where
  -- a variable or argument, or an entry of it, is of the type
  abbrev pub HasType : List ℕ → ℕ → List (TypeId × ℕ) → ℕ → Type 0
  HasType ids i path id = (whole : ℕ) × (slice_get ids i ≡ Some whole) × LeadsFrom t whole path id

  -- the operand fits a target of the type
  abbrev pub OperandFits : ℕ → Operand → Type 0
  OperandFits id (source.Value v) = Conforms id (plain v)
  OperandFits id (source.Variable x path) = (from : ℕ) × HasType vars x path from × FitTogether t from id
  OperandFits id (source.Argument i path) = (from : ℕ) × HasType args i path from × FitTogether t from id

  -- one operand for each type
  abbrev pub OperandsFit : List ℕ → List Operand → Type 0
  OperandsFit [] [] = Unit {0}
  OperandsFit [] (a ∷ as') = ⊥
  OperandsFit (id ∷ ids) [] = ⊥
  OperandsFit (id ∷ ids) (a ∷ as') = OperandFits id a × OperandsFit ids as'

  -- the value is a number
  abbrev pub IsNumberValue : Plain → Type 0
  IsNumberValue v = (n : ℤ) × (v ≡ num n)

  -- the operand is a number
  abbrev pub IsNumber : Operand → Type 0
  IsNumber (source.Value v) = IsNumberValue (plain v)
  IsNumber (source.Variable x path) = (from : ℕ) × HasType vars x path from × IsNumberType t from
  IsNumber (source.Argument i path) = (from : ℕ) × HasType args i path from × IsNumberType t from

  -- ---- conditions

  -- at most one of two operands is a value, which the other one's type has
  abbrev pub BothFit : Operand → Operand → Type 0
  BothFit (source.Value v) (source.Value w) = ⊥
  BothFit (source.Value v) (source.Variable x path) = (id : ℕ) × HasType vars x path id × Conforms id (plain v)
  BothFit (source.Value v) (source.Argument i path) = (id : ℕ) × HasType args i path id × Conforms id (plain v)
  BothFit (source.Variable x path) b = (id : ℕ) × HasType vars x path id × OperandFits id b
  BothFit (source.Argument i path) b = (id : ℕ) × HasType args i path id × OperandFits id b

  -- a relation that asks for an order
  abbrev pub IsOrder : Relation → Type 0
  IsOrder Equal = ⊥
  IsOrder NotEqual = ⊥
  IsOrder r = Unit {0}

  abbrev mutual
    -- each two operands that a condition compares fit each other, and are numbers where an order is asked for
    pub ConditionFits : Condition → Type 0
    ConditionFits (compare r a b) = BothFit a b × (IsOrder r → IsNumber a × IsNumber b)
    ConditionFits (every cs) = ConditionsFit cs
    ConditionFits (some cs) = ConditionsFit cs

    -- each of some conditions fits
    pub ConditionsFit : Conditions → Type 0
    ConditionsFit none = Unit {0}
    ConditionsFit (more c cs) = ConditionFits c × ConditionsFit cs

  -- ---- calculations

  -- after the items one number is left, where there are n before them
  abbrev pub LeavesOne : ℕ → List MathItem → Type 0
  LeavesOne n [] = n ≡ 1
  LeavesOne n (math.Operand a ∷ is) = IsNumber a × LeavesOne (n + 1) is
  LeavesOne n (math.Operator o ∷ is) = (m : ℕ) × (n ≡ suc (suc m)) × LeavesOne (suc m) is

  -- ---- statements, where Calls says which activities have which types of arguments, Carries what a member carries, and
  -- there are so many transactions

  module _ (Calls : ℕ → List ℕ → Type 0) (Carries : ℕ → ℕ → Op → List ℕ → Type 0) (transactions : ℕ) where
    -- the target has the type
    abbrev pub TargetHas : Target → ℕ → Type 0
    TargetHas x id = HasType vars x.variable x.path id

    -- an operand that may be there
    abbrev pub list_of_option : Option Operand → List Operand
    list_of_option None = []
    list_of_option (Some a) = a ∷ []

    abbrev mutual
      -- what a statement sets, calls or sends is there, its operands fit it, and so do the statements inside it
      pub StatementFits : Stmt → Type 0
      StatementFits (assign x a) = (id : ℕ) × TargetHas x id × OperandFits id a
      StatementFits (calculate x is) = (id : ℕ) × TargetHas x id × IsNumberType t id × LeavesOne 0 is
      StatementFits (choose g a b) = ConditionFits g × StatementsFit a × StatementsFit b
      StatementFits (iterate x a b step body) = (id : ℕ) × (slice_get vars x ≡ Some id) × IsNumberType t id × IsNumber a × IsNumber b × (step ≢ pos 0) × StatementsFit body
      StatementFits (call action) = (ids : List ℕ) × Calls action.activity ids × OperandsFit ids action.operands
      StatementFits (send_command end member operands name) = (ids : List ℕ) × Carries end member op.Command ids × OperandsFit ids operands × IsNumbered transactions name
      StatementFits (send_parameter end member o operand name) = (ids : List ℕ) × Carries end member o ids × OperandsFit ids (list_of_option operand) × IsNumbered transactions name

      -- each of some statements fits
      pub StatementsFit : Stmts → Type 0
      StatementsFit done = Unit {0}
      StatementsFit (next s ss) = StatementFits s × StatementsFit ss

-- ---- machines

-- a trigger's event carries values of these types; a timer waits for at most 10^18 nanoseconds
abbrev pub Brings : ComponentPlan → Trigger → List ℕ → Type 0
Brings c trigger.Start ids = ids ≡ []
Brings c (trigger.Command face number) ids = CarriesAt arriving c face number op.Command ids
Brings c (trigger.Param face number o) ids = CarriesAt arriving c face number o ids
Brings c (trigger.Timer n) ids = (n ≤ 10 ^ 18) × (ids ≡ [])

-- an action, if there is one, is of an activity that is there, with operands that fit its arguments
abbrev pub ActionFits : Table → (Conforms : ℕ → Plain → Type 0) → ComponentPlan → (args : List ℕ) → Option Action → Type 0
ActionFits t Conforms c args None = Unit {0}
ActionFits t Conforms c args (Some a) = (b : Activity) × (slice_get c.activities a.activity ≡ Some b) × OperandsFit t Conforms (variable_types c) args (argument_types b) a.operands

-- the operands of a guard, if there is one, fit each other
abbrev pub GuardFits : Table → (Conforms : ℕ → Plain → Type 0) → ComponentPlan → (args : List ℕ) → Option Guard → Type 0
GuardFits t Conforms c args None = Unit {0}
GuardFits t Conforms c args (Some g) = ConditionFits t Conforms (variable_types c) args (condition g)

-- what is done where a state is entered and left sees no arguments
pub record StateFits (t : Table) (Conforms : ℕ → Plain → Type 0) (c : ComponentPlan) (s : State) : Type 0 where
  pub at_entry : ActionFits t Conforms c [] s.at_entry
  pub at_exit : ActionFits t Conforms c [] s.at_exit

-- a transition leads from a state to a state, and its guard and action see what its event carries
pub record TransitionFits (t : Table) (Conforms : ℕ → Plain → Type 0) (c : ComponentPlan) (machine : Machine) (x : Transition) : Type 0 where
  pub from : x.from < length machine.states
  pub to : x.to < length machine.states
  pub brought : List ℕ
  pub event : Brings c x.event brought
  pub transaction : IsNumbered (length c.transactions) x.transaction
  pub guard : GuardFits t Conforms c brought x.guard
  pub action : ActionFits t Conforms c brought x.action

-- a machine begins in one of its states
pub record MachineFits (t : Table) (Conforms : ℕ → Plain → Type 0) (c : ComponentPlan) (machine : Machine) : Type 0 where
  pub entry : machine.entry < length machine.states
  pub states : AllByRecursion (StateFits t Conforms c) machine.states
  pub transitions : AllByRecursion (TransitionFits t Conforms c machine) machine.transitions

-- ---- components

-- the types of a member are there
abbrev pub MemberKnown : Table → Option Member → Type 0
MemberKnown t None = Unit {0}
MemberKnown t (Some (member.Parameter name id read_only)) = id.0 < length t
MemberKnown t (Some (member.Command name args)) = AllByRecursion (λ (a : Argument). a.id.0 < length t) args

-- a map is of a parameter at an end and of a variable of the parameter's type
pub record MapFits (c : ComponentPlan) (m : MapPlan) : Type 0 where
  pub end : EndPlan
  pub end_is : slice_get c.ends m.face ≡ Some end
  pub name : List ℕ
  pub id : TypeId
  pub read_only : Bool
  pub member_is : slice_get end.instance.members m.member ≡ Some (member.Parameter name id read_only)
  pub variable : VarPlan
  pub variable_is : slice_get c.variables m.variable ≡ Some variable
  pub same : variable.id ≡ id

-- an activity of which the types of arguments are these
pub record TakesArguments (c : ComponentPlan) (activity : ℕ) (ids : List ℕ) : Type 0 where
  pub body : Activity
  pub is : slice_get c.activities activity ≡ Some body
  pub types : ids ≡ argument_types body

-- a component's variables, members, maps, activities and machines fit
pub record ComponentFits (t : Table) (Conforms : ℕ → Plain → Type 0) (c : ComponentPlan) : Type 0 where
  -- each variable's first value packs, and so its type is there
  pub initial : AllByRecursion (λ (x : VarPlan). Conforms x.id.0 (plain x.initial)) c.variables
  pub known : (i j : ℕ) (a : Activity) (id : ℕ) → slice_get c.activities i ≡ Some a → slice_get (argument_types a) j ≡ Some id → id < length t
  pub members : (i j : ℕ) (e : EndPlan) → slice_get c.ends i ≡ Some e → MemberKnown t (slice_get e.instance.members j)
  pub maps : AllByRecursion (MapFits c) c.maps
  -- calls lead down, so that there is no cycle of them
  pub rank : ℕ → ℕ
  pub bodies : (i : ℕ) (a : Activity) → slice_get c.activities i ≡ Some a →
      StatementsFit t Conforms (variable_types c) (argument_types a) (λ j ids. TakesArguments c j ids × (rank j < rank i)) (CarriesAt leaving c) (length c.transactions) (stmts_of (stmts a.body))
  pub few : length c.machines ≤ 16
  pub machines : AllByRecursion (MachineFits t Conforms c) c.machines

-- ---- plans

-- its components fit, and one interface under equal maps has the same members at each end
pub record PlanFits (t : Table) (Conforms : ℕ → Plain → Type 0) (plan : List ComponentPlan) : Type 0 where
  pub few : length plan ≤ 64
  pub components : AllByRecursion (ComponentFits t Conforms) plan
  pub same : (a b : End) (x y : EndPlan) → end_at plan a ≡ Some x → end_at plan b ≡ Some y → same_interface x.instance y.instance ≡ true → y.instance.members ≡ x.instance.members
