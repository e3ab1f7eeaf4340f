-- What the functions that run statements give.
use Rattle.std.specs.Prelude.{◌≡◌, ℕ, suc, ◌<◌, ◌+ℤ◌, ◌-◌, List, [], ◌∷◌, ◌++◌, length, map, Bool, Option, Some, None, Result, Ok, Err, slice_get}
use Rattle.eds_base.specs.declared.fail.Memory.{Memory}
use Rattle.eds_base.specs.declared.ids.TypeId.{TypeId}
use Rattle.eds_types.specs.Rows.{Table}
use Rattle.eds_types.specs.Plain.{Plain, plain}
use Rattle.eds_plan.specs.declared.activity.Activity.{Activity}
use Rattle.eds_plan.specs.declared.component.ComponentPlan.{ComponentPlan}
use Rattle.eds_plan.specs.declared.run.Halt.TheVariants.{OutOfRange}
use Rattle.eds_plan.specs.declared.activity.Op.{Op}
use Rattle.eds_plan.specs.declared.component.EndPlan.{EndPlan}
use Rattle.eds_plan.specs.declared.instance.Member.{Member}
use Rattle.eds_plan.specs.declared.run.Outstanding.{Outstanding}
use Rattle.eds_plan.specs.Sends.{Sent, sent}
use Rattle.eds_plan.specs.Statements.{Stmt, stmts}
use Rattle.eds_act.specs.declared.turn.Turn.{Turn}
use Rattle.eds_act.specs.declared.ending.ActEnd.{ActEnd}
use Rattle.eds_act.specs.declared.ending.ActEnd.TheVariants.{Done, Halted}
use Rattle.eds_act.specs.declared.event.Event.{Event}
use Rattle.eds_plan.specs.Carried.{carried}
use Rattle.eds_plan.specs.Plans.{argument_types, variable_types}
use Rattle.eds_act.specs.Does.{World, Does, way_of, budget, Item, turn, turns, Started, goes, halts, Tells, exec, AllConform}

-- the variables and what was sent, as plain data
abbrev pub world : Event → World
world e = record { component = e.comp.0; variables = map plain e.variables.items; waiting = e.waiting; sent = map sent e.out }

-- from one event to the other, running the items comes to running the others, or halts
unfoldable pub Leads : Table → ComponentPlan → ActEnd → List Item → List Item → ℕ → World → ℕ → World → Type 0
Leads t c Done is js l w m v = (packs : ℕ → Plain → Bool) → Tells t packs → (rest : List Item) → exec packs t c l (is ++ rest) w ≡ exec packs t c m (js ++ rest) v
Leads t c (Halted h) is js l w m v = (packs : ℕ → Plain → Bool) → Tells t packs → (rest : List Item) → exec packs t c l (is ++ rest) w ≡ record { end = Halted h; left = m; world = v }

-- the same of two events
abbrev pub LeadsTo : Table → ComponentPlan → ActEnd → List Item → List Item → Event → Event → Type 0
LeadsTo t c end is js e f = Leads t c end is js e.left (world e) f.left (world f)

-- an item that was counted is started
abbrev pub Starts : Table → ComponentPlan → ActEnd → Item → List Item → Event → Event → Type 0
Starts t c end i js e f = Leads t c end (i ∷ []) js (suc e.left) (world e) f.left (world f)

-- a started item that stores a value goes on, or halts
abbrev pub stored : ActEnd → List Item → World → Started
stored Done next w = goes next w
stored (Halted h) next w = halts h

-- types of the table
abbrev pub IsKnown : Table → List ℕ → Type 0
IsKnown t ids = (i id : ℕ) → slice_get ids i ≡ Some id → id < length t

-- the numbers of types
abbrev pub types_of : List TypeId → List ℕ
types_of ids = map (λ (id : TypeId). id.0) ids

-- ---- what is asked of a plan and a state

-- the types that the component names are of the table
pub record Fits (t : Table) (c : ComponentPlan) : Type 0 where
  pub variables : IsKnown t (variable_types c)
  pub members : (i j : ℕ) (e : EndPlan) (m : Member) (o : Op) → slice_get c.ends i ≡ Some e → slice_get e.instance.members j ≡ Some m → IsKnown t (carried o (way_of e) (Some m))
  pub arguments : (i : ℕ) (a : Activity) → slice_get c.activities i ≡ Some a → IsKnown t (argument_types a)

-- each variable has a value that packs
abbrev pub HasConforming : Table → ComponentPlan → Event → Type 0
HasConforming t c e = AllConform t (variable_types c) (map plain e.variables.items)

-- where it was done to the end, P holds
abbrev pub OnDone : Result ActEnd Memory → Type 0 → Type 0
OnDone (Ok Done) P = P
OnDone (Ok (Halted h)) P = Unit {0}
OnDone (Err e) P = Unit {0}

-- where it halted, P holds
abbrev pub OnHalted : ActEnd → Type 0 → Type 0
OnHalted Done P = Unit {0}
OnHalted (Halted h) P = P

-- the turn as an item
abbrev pub turn_item : Turn → List Plain → List Stmt → Item
turn_item t args body = turn t.at t.number t.last t.step args body

-- the turns that are left of an iteration, if there is one
abbrev pub turn_items : Option Turn → List Plain → List Stmt → List Item
turn_items None args body = []
turn_items (Some t) args body = turn_item t args body ∷ []

-- the turn, unless it is past the last one; and the one after it
abbrev pub this_turn : Turn → List Plain → List Stmt → List Item
this_turn t args body = turns t.at t.number t.last t.step args body

-- the turns that are left
abbrev pub next_turns : Turn → List Plain → List Stmt → List Item
next_turns t args body = turns t.at (t.number +ℤ t.step) t.last t.step args body

-- an iteration goes on with the turn, or halts where there is none
abbrev pub turning : Option Turn → List Plain → List Stmt → World → Started
turning None args body w = halts OutOfRange
turning (Some t) args body w = goes (this_turn t args body) w

-- ---- the whole activity

-- from these variables and sends, with l statements and turns that may still start, it leads to those
pub record Runs (t : Table) (number : ℕ) (c : ComponentPlan) (a : Activity) (args vars : List Plain) (waiting : List Outstanding) (before : List Sent) (l : ℕ) (vars' : List Plain) (waiting' : List Outstanding) (after : List Sent) (m : ℕ) (end : ActEnd) : Type 0 where
  pub out : List Sent
  pub appended : after ≡ before ++ out
  pub does : Does t number c (stmts a.body) args vars waiting (budget - l) vars' waiting' out (budget - m) end
