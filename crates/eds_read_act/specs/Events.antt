-- The events that transitions wait for, what these carry, and the triggers that they are in plans (CCSDS 876.0-B, state machines).
use Rattle.std.specs.Prelude.{ℕ, ◌^◌, nat_le, ◌&&◌, ◌||◌, not, ℤ, pos, negsuc, List, [], ◌∷◌, codes, Bool, false, is_none, if◌then◌else◌, Option, Some, None, option_map, unwrap_or}
use Rattle.eds_base.specs.Numbers.{whole_number}
use Rattle.eds_base.specs.Reading.{◌>>=◌, same}
use Rattle.eds_tree.specs.declared.tree.Node.{Node}
use Rattle.eds_tree.specs.Trees.{attribute_at, is_named}
use Rattle.eds_plan.specs.declared.activity.Op.{Op}
use Rattle.eds_plan.specs.declared.activity.Op.TheVariants as op
use Rattle.eds_plan.specs.declared.component.EndPlan.{EndPlan}
use Rattle.eds_plan.specs.declared.machine.Trigger.{Trigger}
use Rattle.eds_plan.specs.declared.machine.Trigger.TheVariants as trigger
use Rattle.eds_plan.specs.Carried.{arriving}
use Rattle.eds_read_act.specs.declared.sending.Held.{Held}
use Rattle.eds_read_act.specs.declared.sending.Taker.{Taker}
use Rattle.eds_read_act.specs.Bodies.{number_named}
use Rattle.eds_read_act.specs.Inside.{text_at}
use Rattle.eds_read_act.specs.Scopes.{Scope, Field}
use Rattle.eds_read_act.specs.Sending.{end_of, command_of, parameter_of}

-- ---- what an event carries

-- a parameter arrives with its value where it is set, or where a required end is told it
abbrev pub carries_value : List ℕ → Held → Bool
carries_value operation p = p.required || same operation (codes "set")

-- a read-only parameter is to be set at a provided end
abbrev pub sets_read_only : List ℕ → Held → Bool
sets_read_only operation p = not p.required && (p.read_only && same operation (codes "set"))

-- the argument `value`, where it is carried
abbrev pub value_of : List ℕ → Held → List Field
value_of operation p = if carries_value operation p then (codes "value", p.id) ∷ [] else []

-- what the event of a parameter carries; nothing is known where the parameter isn't there, or is read-only and to be set
abbrev pub value_if : List ℕ → Option Held → Option (List Field)
value_if operation None = None
value_if operation (Some p) = if sets_read_only operation p then None else Some (value_of operation p)

-- what an event carries that is no command: the value of a parameter, and nothing for a timer
abbrev pub value_carried : Scope → ℕ → Option (List Field)
value_carried s e = if is_named s.tree (codes "OnParameterPrimitive") e then value_if (text_at s.tree e (codes "operation")) (parameter_of s e) else Some []

-- the arguments that an event carries, where what it names is there: those of a command that arrive at its end, or the value
abbrev pub carried_at : Scope → ℕ → Option (List Field)
carried_at s e = if is_named s.tree (codes "OnCommandPrimitive") e then option_map (λ (c : Taker). c.fields) (command_of arriving s e) else value_carried s e

-- the same of what may be no event: the start of a machine carries nothing
abbrev pub carried_if : Scope → Option ℕ → Option (List Field)
carried_if s None = Some []
carried_if s (Some e) = carried_at s e

-- ---- what an event lacks

-- an end, where there is one, is provided
abbrev pub is_provided : Option (ℕ × EndPlan) → Bool
is_provided None = false
is_provided (Some e) = not (e.1).required

-- the event of a parameter at a provided end doesn't say whether the parameter is asked for or set
abbrev pub lacks_operation : Scope → ℕ → Bool
lacks_operation s e = is_named s.tree (codes "OnParameterPrimitive") e && (is_provided (end_of s e) && is_none (attribute_at s.tree e (codes "operation")))

-- the same of an event that may be there
abbrev pub lacks_operation_if : Scope → Option ℕ → Bool
lacks_operation_if s None = false
lacks_operation_if s (Some e) = lacks_operation s e

-- ---- timers

-- nanoseconds from 1 to 10^18, as a number
abbrev pub nanoseconds : Option ℤ → Option ℕ
nanoseconds None = None
nanoseconds (Some (pos n)) = if nat_le 1 n && nat_le n (10 ^ 18) then Some n else None
nanoseconds (Some (negsuc n)) = None

-- those of a timer
abbrev pub nanoseconds_at : List Node → ℕ → Option ℕ
nanoseconds_at t e = nanoseconds (whole_number (text_at t e (codes "nanosecondsAfterEntry")))

-- an event is a timer of another number
abbrev pub is_bad_timer : List Node → ℕ → Bool
is_bad_timer t e = is_named t (codes "OnTimer") e && is_none (nanoseconds_at t e)

-- ---- as plan data; 0 stands for what is not there

-- what is asked of a parameter that arrives
abbrev pub op_arriving : List ℕ → Held → Op
op_arriving operation p = if p.required then op.Val else if same operation (codes "set") then op.Set else op.Get

-- a command that arrives, by its end and its place among the members
abbrev pub command_trigger : Option Taker → Trigger
command_trigger None = trigger.Command 0 0
command_trigger (Some c) = trigger.Command c.end c.member

-- a parameter that arrives, by its end, its place and what is asked of it
abbrev pub parameter_trigger : List ℕ → Option Held → Trigger
parameter_trigger operation None = trigger.Param 0 0 op.Get
parameter_trigger operation (Some p) = trigger.Param p.end p.member (op_arriving operation p)

-- the trigger of an event
abbrev pub trigger_at : Scope → ℕ → Trigger
trigger_at s e =
    if is_named s.tree (codes "OnCommandPrimitive") e then command_trigger (command_of arriving s e) else
    if is_named s.tree (codes "OnParameterPrimitive") e then parameter_trigger (text_at s.tree e (codes "operation")) (parameter_of s e) else
    trigger.Timer (unwrap_or (nanoseconds_at s.tree e) 0)

-- without an event a transition waits for the start
abbrev pub trigger_if : Scope → Option ℕ → Trigger
trigger_if s None = trigger.Start
trigger_if s (Some e) = trigger_at s e

-- the number of the transaction that an event has to answer
abbrev pub transaction_if : Scope → Option ℕ → Option ℕ
transaction_if s event = event >>= λ e. attribute_at s.tree e (codes "transaction") >>= number_named s.transactions
