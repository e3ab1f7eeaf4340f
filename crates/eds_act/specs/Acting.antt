-- What the action of a transition or state does.
use Rattle.std.specs.Prelude.{ℕ, List, [], ◌∷◌, ◌++◌, map, Bool, Option, Some, None, slice_get}
use Rattle.eds_types.specs.Plain.{Plain, plain}
use Rattle.eds_types.specs.Rows.{Table}
use Rattle.eds_plan.specs.declared.activity.Action.{Action}
use Rattle.eds_plan.specs.declared.activity.Activity.{Activity}
use Rattle.eds_plan.specs.declared.component.ComponentPlan.{ComponentPlan}
use Rattle.eds_plan.specs.declared.run.CompState.{CompState}
use Rattle.eds_plan.specs.declared.run.Halt.{Halt}
use Rattle.eds_plan.specs.declared.run.Halt.TheVariants.{BadArgument}
use Rattle.eds_plan.specs.declared.run.Send.{Send}
use Rattle.eds_plan.specs.Sends.{sent, halted}
use Rattle.eds_plan.specs.Statements.{stmts}
use Rattle.eds_act.specs.declared.ending.ActEnd.{ActEnd}
use Rattle.eds_act.specs.declared.ending.ActEnd.TheVariants.{Done, Halted}
use Rattle.eds_plan.specs.Plans.{argument_types}
use Rattle.eds_act.specs.Does.{World, Ended, exec, items_of, value_of, arguments_of}

-- the world of a component in an event: its state, and what it sent
abbrev pub world_of : ℕ → CompState → List Send → World
world_of comp s out = record { component = comp; variables = map plain s.variables; waiting = s.outstanding; sent = map sent out }

-- a halt of a machine's activity stands behind what was sent
abbrev pub noted : ℕ → Halt → World → World
noted machine h w = record w { sent = w.sent ++ halted machine h ∷ [] }

-- how many statements may still start, and the world, after an activity of a machine ended so
abbrev pub noted_end : ℕ → ActEnd → ℕ → World → ℕ × World
noted_end machine Done left w = (left, w)
noted_end machine (Halted h) left w = (left, noted machine h w)

module _ (packs : ℕ → Plain → Bool) (t : Table) (c : ComponentPlan) (machine : ℕ) where
  -- the activity with these arguments, where each packs
  abbrev pub entered : Activity → Option (List Plain) → ℕ → World → ℕ × World
  entered a None left w = (left, noted machine BadArgument w)
  entered a (Some args) left w = let r : Ended = exec packs t c left (items_of args (stmts a.body)) w in noted_end machine r.end r.left r.world

  -- the activity with the values of operands
  abbrev pub acted : Option Activity → List (Option Plain) → ℕ → World → ℕ × World
  acted None vs left w = (left, noted machine BadArgument w)
  acted (Some a) vs left w = entered a (arguments_of packs (argument_types a) vs) left w

  -- an action of the machine, where its operands see these arguments
  unfoldable pub acting : Action → List Plain → ℕ → World → ℕ × World
  acting action args left w = acted (slice_get c.activities action.activity) (map (value_of t args w.variables) action.operands) left w
