-- What an activity does.
use Rattle.std.specs.Prelude.{◌≡◌, ℕ, zero, suc, ◌+◌, ◌-◌, ℤ, pos, neg_ℤ, ◌^◌, ◌+ℤ◌, ◌-ℤ◌, ◌*ℤ◌, int_le, int_lt, List, [], ◌∷◌, ◌++◌, map, Bool, true, false, not, ◌&&◌, ◌==◌, Option, Some, None, Result, Ok, Err, option_map, option_and_then, option_to_list, slice_get, slice_set, if◌then◌else◌}
use Rattle.eds_base.specs.declared.ids.TypeId.{TypeId}
use Rattle.eds_types.specs.Reading.{same}
use Rattle.eds_types.specs.Rows.{Table, sequence}
use Rattle.eds_types.specs.Plain.{Plain, num, label, truth, text, bits, items, fields, plain, list_of as plains_in, plains_of}
use Rattle.eds_types.specs.Seeking.{along, seek}
use Rattle.eds_pack.specs.Packs.{Packs}
use Rattle.eds_plan.specs.declared.activity.Operand.{Operand}
use Rattle.eds_plan.specs.declared.activity.Operand.TheVariants as source
use Rattle.eds_plan.specs.declared.activity.Target.{Target}
use Rattle.eds_plan.specs.declared.activity.MathItem.{MathItem}
use Rattle.eds_plan.specs.declared.activity.MathItem.TheVariants as math
use Rattle.eds_plan.specs.declared.activity.MathOp.{MathOp}
use Rattle.eds_plan.specs.declared.activity.MathOp.TheVariants.{Add, Subtract, Multiply}
use Rattle.eds_plan.specs.declared.activity.Relation.{Relation}
use Rattle.eds_plan.specs.declared.activity.Relation.TheVariants.{Equal, NotEqual, Less, LessOrEqual, Greater, GreaterOrEqual}
use Rattle.eds_plan.specs.declared.activity.Activity.{Activity}
use Rattle.eds_plan.specs.declared.component.ComponentPlan.{ComponentPlan}
use Rattle.eds_plan.specs.declared.run.Halt.{Halt}
use Rattle.eds_plan.specs.declared.run.Halt.TheVariants.{OutOfRange, BadArgument, Budget}
use Rattle.eds_plan.specs.declared.activity.Op.{Op}
use Rattle.eds_plan.specs.declared.activity.Op.TheVariants as op
use Rattle.eds_plan.specs.declared.component.EndPlan.{EndPlan}
use Rattle.eds_plan.specs.declared.run.Outstanding.{Outstanding}
use Rattle.eds_plan.specs.declared.run.Way.{Way}
use Rattle.eds_plan.specs.Carried.{carried, leaving}
use Rattle.eds_plan.specs.Plans.{argument_types, variable_types}
use Rattle.eds_plan.specs.Sends.{Sent, primitive}
use Rattle.eds_plan.specs.Statements.{Condition, Conditions, compare, every, some, none, more, Stmt, assign, calculate, choose, iterate, call, send_command, send_parameter, list_of, stmts}
use Rattle.eds_act.specs.declared.ending.ActEnd.{ActEnd}
use Rattle.eds_act.specs.declared.ending.ActEnd.TheVariants.{Done, Halted}

-- ---- what packs

-- the value packs as a value of the type
abbrev pub Conforms : Table → ℕ → Plain → Type 0
Conforms t id v = (n : ℕ) × Packs t id v n

-- a test that tells which values pack as which type
pub record Tells (t : Table) (packs : ℕ → Plain → Bool) : Type 0 where
  pub packs_only : (id : ℕ) (v : Plain) → packs id v ≡ true → Conforms t id v
  pub packs_all : (id : ℕ) (v : Plain) → Conforms t id v → packs id v ≡ true

-- a list has one value for each type, and each packs
abbrev pub AllConform : Table → List ℕ → List Plain → Type 0
AllConform t [] [] = Unit {0}
AllConform t [] (v ∷ vs) = ⊥
AllConform t (id ∷ ids) [] = ⊥
AllConform t (id ∷ ids) (v ∷ vs) = Conforms t id v × AllConform t ids vs

-- ---- the world of an event

-- a component, the values of its variables, its transactions under way, and what was sent
pub record World : Type 0 where
  pub component : ℕ
  pub variables : List Plain
  pub waiting : List Outstanding
  pub sent : List Sent

-- ---- what is still to be started

-- a statement with the arguments of its activity; or a turn of an iteration: its variable, its number, the last number
-- and the step, and then the arguments and statements
pub data Item : Type 0 where
  statement : List Plain → Stmt → Item
  turn : (variable : ℕ) (number last step : ℤ) → List Plain → List Stmt → Item

-- statements with the arguments that they see, to be done
abbrev pub items_of : List Plain → List Stmt → List Item
items_of args ss = map (statement args) ss

-- a started item leaves items that are started next, or halts
pub data Started : Type 0 where
  goes : List Item → World → Started
  halts : Halt → Started

-- how it ended, with so many statements and turns that may still start
pub record Ended : Type 0 where
  pub end : ActEnd
  pub left : ℕ
  pub world : World

-- ---- operands

-- the number that a value is, if it is one
abbrev pub number_of : Option Plain → Option ℤ
number_of None = None
number_of (Some (num n)) = Some n
number_of (Some (label l)) = None
number_of (Some (truth b)) = None
number_of (Some (text s)) = None
number_of (Some (bits n o)) = None
number_of (Some (items vs)) = None
number_of (Some (fields k vs)) = None

-- ---- entries of containers

-- a container's values with another one at a place
abbrev pub put_back : ℕ → List Plain → ℕ → Option Plain → Option Plain
put_back k vs n None = None
put_back k vs n (Some v) = Some (fields k (plains_of (slice_set vs n v)))

-- the fields with one of them changed, if it is there
abbrev pub changed : ℕ → List Plain → Result ℕ ℕ → (Plain → Option Plain) → Option Plain
changed k vs (Err n) change = None
changed k vs (Ok n) change = put_back k vs n (option_and_then change (slice_get vs n))

-- the value with one of its entries changed
abbrev pub with_field : Table → Plain → TypeId × ℕ → (Plain → Option Plain) → Option Plain
with_field t (num n) p change = None
with_field t (label l) p change = None
with_field t (truth b) p change = None
with_field t (text s) p change = None
with_field t (bits n o) p change = None
with_field t (items vs) p change = None
with_field t (fields k vs) p change = changed k (plains_in vs) (seek (sequence t k) 0 (p.0).0 p.1) change

-- the value with a new one for the entry that a path leads to, or for the whole
abbrev pub with_entry : Table → List (TypeId × ℕ) → Plain → Plain → Option Plain
with_entry t [] v new = Some new
with_entry t (p ∷ path) v new = with_field t v p (λ u. with_entry t path u new)

-- what the variable of a target becomes
abbrev pub targeted : Table → List Plain → Target → Option Plain → Option Plain
targeted t vars x None = None
targeted t vars x (Some new) = option_and_then (λ v. with_entry t x.path v new) (slice_get vars x.variable)

-- the value of an operand
abbrev pub value_of : Table → List Plain → List Plain → Operand → Option Plain
value_of t args vars (source.Value v) = Some (plain v)
value_of t args vars (source.Variable x path) = along t (slice_get vars x) path
value_of t args vars (source.Argument i path) = along t (slice_get args i) path

-- ---- conditions

-- both are numbers, and the test holds of them
abbrev pub both_ordered : (ℤ → ℤ → Bool) → Option ℤ → Option ℤ → Bool
both_ordered test None b = false
both_ordered test (Some m) None = false
both_ordered test (Some m) (Some n) = test m n

-- whether a relation holds of two values
abbrev pub compared : Relation → Plain → Plain → Bool
compared Equal v w = same v w
compared NotEqual v w = not (same v w)
compared Less v w = both_ordered int_lt (number_of (Some v)) (number_of (Some w))
compared LessOrEqual v w = both_ordered int_le (number_of (Some v)) (number_of (Some w))
compared Greater v w = both_ordered int_lt (number_of (Some w)) (number_of (Some v))
compared GreaterOrEqual v w = both_ordered int_le (number_of (Some w)) (number_of (Some v))

-- what isn't there is in no relation
abbrev pub both_compared : Relation → Option Plain → Option Plain → Bool
both_compared r None b = false
both_compared r (Some v) None = false
both_compared r (Some v) (Some w) = compared r v w

abbrev mutual
  -- a condition holds of these arguments and variables
  pub holds : Table → List Plain → List Plain → Condition → Bool
  holds t args vars (compare r a b) = both_compared r (value_of t args vars a) (value_of t args vars b)
  holds t args vars (every cs) = all_hold t args vars cs
  holds t args vars (some cs) = any_holds t args vars cs

  -- each of some conditions holds, which is so where there are none
  pub all_hold : Table → List Plain → List Plain → Conditions → Bool
  all_hold t args vars none = true
  all_hold t args vars (more c cs) = if holds t args vars c then all_hold t args vars cs else false

  -- at least one of some conditions holds, which is not so where there are none
  pub any_holds : Table → List Plain → List Plain → Conditions → Bool
  any_holds t args vars none = false
  any_holds t args vars (more c cs) = if holds t args vars c then true else any_holds t args vars cs

-- ---- iterations

-- the number isn't past the last one
abbrev pub is_within : ℤ → ℤ → ℤ → Bool
is_within step number last = if int_lt step (pos 0) then int_le last number else int_le number last

-- the turn with this number, unless it is past the last one
abbrev pub turns : ℕ → ℤ → ℤ → ℤ → List Plain → List Stmt → List Item
turns x number last step args body = if is_within step number last then turn x number last step args body ∷ [] else []

-- an iteration begins, from one number to another
abbrev pub iterating : ℕ → Option ℤ → Option ℤ → ℤ → List Plain → List Stmt → World → Started
iterating x None last step args body w = halts OutOfRange
iterating x (Some n) None step args body w = halts OutOfRange
iterating x (Some n) (Some last) step args body w = goes (turns x n last step args body) w

-- ---- calculations

-- the numbers from -2^127 to 2^127 - 1
abbrev pub is_calculable : ℤ → Bool
is_calculable n = int_le (neg_ℤ (pos (2 ^ 127))) n && int_lt n (pos (2 ^ 127))

-- an operator on two numbers
abbrev pub applied : MathOp → ℤ → ℤ → ℤ
applied Add m n = m +ℤ n
applied Subtract m n = m -ℤ n
applied Multiply m n = m *ℤ n

-- the numbers so far, the last one first, after an item
abbrev pub with_number : List ℤ → Option ℤ → Option (List ℤ)
with_number numbers None = None
with_number numbers (Some n) = Some (n ∷ numbers)

-- an operator on the last two numbers
abbrev pub with_operator : MathOp → List ℤ → Option (List ℤ)
with_operator o [] = None
with_operator o (n ∷ []) = None
with_operator o (n ∷ m ∷ numbers) = if is_calculable (applied o m n) then Some (applied o m n ∷ numbers) else None

-- one item of a calculation
abbrev pub with_item : Table → List Plain → List Plain → MathItem → List ℤ → Option (List ℤ)
with_item t args vars (math.Operand a) numbers = with_number numbers (number_of (value_of t args vars a))
with_item t args vars (math.Operator o) numbers = with_operator o numbers

-- items of a calculation, one after the other
abbrev pub with_items : Table → List Plain → List Plain → List MathItem → Option (List ℤ) → Option (List ℤ)
with_items t args vars [] numbers = numbers
with_items t args vars (i ∷ is) None = None
with_items t args vars (i ∷ is) (Some numbers) = with_items t args vars is (with_item t args vars i numbers)

-- the one number that is left
abbrev pub only_number : Option (List ℤ) → Option Plain
only_number None = None
only_number (Some []) = None
only_number (Some (n ∷ [])) = Some (num n)
only_number (Some (n ∷ m ∷ numbers)) = None

-- the result of a calculation in postfix order
abbrev pub calculated : Table → List Plain → List Plain → List MathItem → Option Plain
calculated t args vars is = only_number (with_items t args vars is (Some []))

-- ---- sends

-- the way of what is sent at an end
abbrev pub way_of : EndPlan → Way
way_of e = leaving e.required

-- ---- transactions

-- the transaction is among those under way
abbrev pub waits : List Outstanding → ℕ → ℕ → ℕ → Bool
waits [] end member name = false
waits (q ∷ qs) end member name = if q.face == end && (q.member == member && q.name == name) then true else waits qs end member name

-- the transactions under way after a send at an end, which is required or not
abbrev pub begun : Bool → ℕ → ℕ → Option ℕ → List Outstanding → List Outstanding
begun false end member name qs = qs
begun true end member None qs = qs
begun true end member (Some name) qs = if waits qs end member name then qs else qs ++ record { face = end; member = member; name = name } ∷ []

-- ---- starting

-- a value put before others, where all are there
abbrev pub put_first : Option Plain → Option (List Plain) → Option (List Plain)
put_first None vs = None
put_first (Some v) vs = option_map (λ us. v ∷ us) vs

module _ (packs : ℕ → Plain → Bool) where
  -- a value goes to a variable of the type, and then the items are next
  abbrev pub storing : Option ℕ → ℕ → Option Plain → List Item → World → Started
  storing None x v next w = halts OutOfRange
  storing (Some id) x None next w = halts OutOfRange
  storing (Some id) x (Some v) next w = if packs id v then goes next (record w { variables = slice_set w.variables x v }) else halts OutOfRange

  -- the value of an argument of the type, where there is one that packs
  abbrev pub argument_of : ℕ → Option Plain → Option Plain
  argument_of id None = None
  argument_of id (Some v) = if packs id v then Some v else None

  -- the values of arguments of these types, where each packs
  abbrev pub arguments_of : List ℕ → List (Option Plain) → Option (List Plain)
  arguments_of [] [] = Some []
  arguments_of [] (v ∷ vs) = None
  arguments_of (id ∷ ids) [] = None
  arguments_of (id ∷ ids) (v ∷ vs) = put_first (argument_of id v) (arguments_of ids vs)

  -- the body is next, with these arguments
  abbrev pub entering : List Stmt → Option (List Plain) → World → Started
  entering body None w = halts BadArgument
  entering body (Some args) w = goes (items_of args body) w

  -- an activity called with these arguments
  abbrev pub calling : Option Activity → List (Option Plain) → World → Started
  calling None vs w = halts BadArgument
  calling (Some a) vs w = entering (stmts a.body) (arguments_of (argument_types a) vs) w

  -- what is sent with values that pack, and the transactions that are then under way
  abbrev pub emitting : (List Plain → Sent) → List Outstanding → Option (List Plain) → World → Started
  emitting p q None w = halts BadArgument
  emitting p q (Some vs) w = goes [] (record w { waiting = q; sent = w.sent ++ p vs ∷ [] })

  -- a primitive sent at an end
  abbrev pub sending : Op → (end member : ℕ) → Option ℕ → Option EndPlan → List (Option Plain) → World → Started
  sending o end member name None vs w = halts BadArgument
  sending o end member name (Some e) vs w = emitting (primitive w.component end member (way_of e) o) (begun e.required end member name w.waiting) (arguments_of (carried o (way_of e) (slice_get e.instance.members member)) vs) w

  module _ (t : Table) (c : ComponentPlan) where
    -- what a started item does
    abbrev pub start : Item → World → Started
    start (statement args (assign x a)) w = storing (slice_get (variable_types c) x.variable) x.variable (targeted t w.variables x (value_of t args w.variables a)) [] w
    start (statement args (calculate x is)) w = storing (slice_get (variable_types c) x.variable) x.variable (targeted t w.variables x (calculated t args w.variables is)) [] w
    start (statement args (choose g a b)) w = goes (items_of args (if holds t args w.variables g then list_of a else list_of b)) w
    start (statement args (iterate x a b step body)) w = iterating x (number_of (value_of t args w.variables a)) (number_of (value_of t args w.variables b)) step args (list_of body) w
    start (statement args (call action)) w = calling (slice_get c.activities action.activity) (map (value_of t args w.variables) action.operands) w
    start (statement args (send_command end member operands name)) w = sending op.Command end member name (slice_get c.ends end) (map (value_of t args w.variables) operands) w
    start (statement args (send_parameter end member o operand name)) w = sending o end member name (slice_get c.ends end) (map (value_of t args w.variables) (option_to_list operand)) w
    start (turn x number last step args body) w = storing (slice_get (variable_types c) x) x (Some (num number)) (items_of args body ++ turns x (number +ℤ step) last step args body) w

    -- goes on where the item left items
    abbrev pub after : Started → ℕ → World → (List Item → World → Ended) → Ended
    after (goes next w) left v go = go next w
    after (halts h) left v go = record { end = Halted h; left = left; world = v }

    -- where so many statements and turns may still start
    unfoldable pub exec : ℕ → List Item → World → Ended
    exec left [] w = record { end = Done; left = left; world = w }
    exec zero (i ∷ is) w = record { end = Halted Budget; left = zero; world = w }
    exec (suc left) (i ∷ is) w = after (start i w) left w (λ next v. exec left (next ++ is) v)

-- ---- activities

-- the most statements and turns that start in one event
abbrev pub budget : ℕ
budget = 100000

-- with these arguments and variables, and n statements started so far in the event, the body leaves these variables,
-- sends out, and has m started
pub record Does (t : Table) (number : ℕ) (c : ComponentPlan) (body : List Stmt) (args vars : List Plain) (waiting : List Outstanding) (n : ℕ) (vars' : List Plain) (waiting' : List Outstanding) (out : List Sent) (m : ℕ) (end : ActEnd) : Type 0 where
  pub packs : ℕ → Plain → Bool
  pub tells : Tells t packs
  pub runs : exec packs t c (budget - n) (items_of args body) (record { component = number; variables = vars; waiting = waiting; sent = [] }) ≡ record { end = end; left = budget - m; world = record { component = number; variables = vars'; waiting = waiting'; sent = out } }
