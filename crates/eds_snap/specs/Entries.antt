-- What a line of a snapshot tells behind those before it, or why it tells nothing.
use Rattle.std.specs.Prelude.{ℕ, ◌^◌, ◌&&◌, not, nat_le, nat_lt, List, [], map, Bool, true, false, Option, Some, None, is_some, Result, Ok, Err, slice_get, unwrap_or}
use Rattle.eds_base.specs.Answering.{◌>>=◌, or_stop}
use Rattle.eds_types.specs.PackedSizes.{packs}
use Rattle.eds_types.specs.Plain.{Plain}
use Rattle.eds_types.specs.Rows.{Table}
use Rattle.eds_value.specs.Json.{value_in}
use Rattle.eds_value.specs.declared.fail.ValueFail.{ValueFail}
use Rattle.eds_value.specs.declared.fail.ValueFail.TheVariants.{NotJson, WrongShape}
use Rattle.eds_plan.specs.Plans.{component_at, machine_at}
use Rattle.eds_plan.specs.declared.component.ComponentPlan.{ComponentPlan}
use Rattle.eds_plan.specs.declared.component.VarPlan.{VarPlan}
use Rattle.eds_plan.specs.declared.machine.Machine.{Machine}
use Rattle.eds_plan.specs.declared.run.MachineState.{MachineState}
use Rattle.eds_plan.specs.declared.run.Outstanding.{Outstanding}
use Rattle.eds_act.specs.Does as act
use Rattle.eds_machine.specs.Moments.{next_moment}
use Rattle.eds_script.specs.Numbers.{number_of}
use Rattle.eds_script.specs.Stops.{unless_stop}
use Rattle.eds_snap.specs.declared.why.SnapWhy.{SnapWhy}
use Rattle.eds_snap.specs.declared.why.SnapWhy.TheVariants as why
use Rattle.eds_snap.specs.Places.{machine_place, variable_place, wait_place}
use Rattle.eds_snap.specs.Words.{Saying, begins, ends, ties, stands, holds, waits}

-- ---- what was told so far

-- what lines told of a component: of each variable and each machine, where one did; and transactions under way, in their order
pub record Told : Type 0 where
  pub variables : List (Option Plain)
  pub machines : List (Option MachineState)
  pub outstanding : List Outstanding

-- nothing was told of a component
abbrev pub nothing : Told
nothing = record { variables = []; machines = []; outstanding = [] }

-- nothing was told of the variables and machines that the plan has of it
abbrev pub blank : ComponentPlan → Told
blank c = record { variables = map (λ x. None) c.variables; machines = map (λ m. None) c.machines; outstanding = [] }

-- what was told of the component of a number
abbrev pub told_of : List Told → (component : ℕ) → Told
told_of told comp = unwrap_or (slice_get told comp) nothing

-- something was told of the one of a number
abbrev pub is_told : {A : Type 0} → List (Option A) → ℕ → Bool
is_told slots i = is_some (unwrap_or (slice_get slots i) None)

-- ---- what one more line tells

-- what a line tells: nothing, the time, a wire, where a machine stands, what a variable holds, or a transaction under way
pub data Entry : Type 0 where
  nothing_is : Entry
  time_is : ℕ → Entry
  wire_is : (lower upper : List ℕ) → Entry
  machine_is : (component place : ℕ) → MachineState → Entry
  variable_is : (component place : ℕ) → Plain → Entry
  wait_is : (component : ℕ) → Outstanding → Entry

-- a moment that isn't later than a time
abbrev pub comes_by : ℕ → Option ℕ → Bool
comes_by now None = false
comes_by now (Some n) = nat_le n now

-- a machine that stands so waits for a moment that isn't later than a time
abbrev pub is_due : ℕ → MachineState → Machine → Bool
is_due now m machine = comes_by now (next_moment m machine.transitions)

-- the times at which a machine entered its state and last passed a moment are in order, and not later than the time
abbrev pub in_time : ℕ → MachineState → Bool
in_time now m = nat_le m.entered m.passed && nat_le m.passed now

-- what is wrong with JSON
abbrev pub json_why : ValueFail → SnapWhy
json_why NotJson = why.Json
json_why (WrongShape path) = why.Shape

-- what a JSON text stands for, or why a line with it tells nothing
abbrev pub or_why : {A : Type 0} → Result A ValueFail → Result A SnapWhy
or_why (Ok x) = Ok x
or_why (Err fail) = Err (json_why fail)

-- the value of a JSON text, which packs as its type
abbrev pub given_value : Table → ℕ → List ℕ → Result Plain SnapWhy
given_value t id json = do
  v ← or_why (value_in t id json)
  ok ← unless_stop why.Value (packs t id v)
  Ok v

-- the type of a variable
abbrev pub type_of : Option VarPlan → ℕ
type_of None = 0
type_of (Some x) = x.id.0

-- the time that a text spells
abbrev pub time_entry : (number : List ℕ) → Result Entry SnapWhy
time_entry number = do
  n ← or_stop why.Number (number_of number)
  ok ← unless_stop why.Time (nat_lt n (2 ^ 63))
  Ok (time_is n)

module _ (t : Table) (plan : List ComponentPlan) (now : ℕ) (told : List Told) where
  -- a machine stands so, of which no line told before, and at such times
  abbrev pub stands_at : (comp place : ℕ) → MachineState → Result Entry SnapWhy
  stands_at comp place m = do
    new ← unless_stop why.Twice (not (is_told (told_of told comp).machines place))
    past ← unless_stop why.Time (in_time now m)
    later ← unless_stop why.Due (not (is_due now m (machine_at (component_at plan comp) place)))
    Ok (machine_is comp place m)

  -- where a machine stands
  unfoldable pub machine_entry : (component machine state entered passed : List ℕ) → Result Entry SnapWhy
  machine_entry component own state entered passed = do
    since ← or_stop why.Number (number_of entered)
    last ← or_stop why.Number (number_of passed)
    p ← or_stop why.Name (machine_place plan component own state)
    stands_at p.comp p.machine (record { at = p.at; entered = since; passed = last })

  -- what a variable holds
  unfoldable pub variable_entry : (component variable json : List ℕ) → Result Entry SnapWhy
  variable_entry component own json = do
    p ← or_stop why.Name (variable_place plan component own)
    new ← unless_stop why.Twice (not (is_told (told_of told p.comp).variables p.variable))
    v ← given_value t (type_of (slice_get (component_at plan p.comp).variables p.variable)) json
    Ok (variable_is p.comp p.variable v)

  -- a transaction under way
  unfoldable pub wait_entry : (end member name : List ℕ) → Result Entry SnapWhy
  wait_entry end own name = do
    p ← or_stop why.Name (wait_place plan end own name)
    new ← unless_stop why.Twice (not (act.waits (told_of told p.comp).outstanding p.waiting.face p.waiting.member p.waiting.name))
    Ok (wait_is p.comp p.waiting)

  -- what a line tells that says this, or why it tells nothing
  abbrev pub entry_of : Saying → Result Entry SnapWhy
  entry_of begins = Ok nothing_is
  entry_of (ends number) = time_entry number
  entry_of (ties lower upper) = Ok (wire_is lower upper)
  entry_of (stands component own state entered passed) = machine_entry component own state entered passed
  entry_of (holds component own json) = variable_entry component own json
  entry_of (waits end own name) = wait_entry end own name
