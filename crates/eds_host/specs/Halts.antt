-- What a halt keeps.
use Rattle.std.specs.Prelude.{◌≡◌, ◌≤◌, ◌-◌, ℕ, zero, suc, List, [], ◌∷◌, ◌++◌, Bool, Some, slice_get, map}
use Rattle.eds_types.specs.Plain.{Plain}
use Rattle.eds_types.specs.Rows.{Table}
use Rattle.eds_plan.specs.declared.activity.Action.{Action}
use Rattle.eds_plan.specs.declared.activity.Activity.{Activity}
use Rattle.eds_plan.specs.declared.component.ComponentPlan.{ComponentPlan}
use Rattle.eds_plan.specs.declared.run.Halt.{Halt}
use Rattle.eds_plan.specs.declared.run.Halt.TheVariants.{Budget}
use Rattle.eds_plan.specs.Plans.{argument_types}
use Rattle.eds_plan.specs.Sends.{halted}
use Rattle.eds_plan.specs.Statements.{stmts}
use Rattle.eds_act.specs.declared.ending.ActEnd.TheVariants.{Halted}
use Rattle.eds_act.specs.Acting.{acting}
use Rattle.eds_act.specs.Does.{Ended, Item, World, arguments_of, exec, goes, halts, items_of, start, value_of}

module _ (packs : ℕ → Plain → Bool) (t : Table) (c : ComponentPlan) where
  -- so many statements and turns start one after another, none of them halts, and they lead from what is to be done in one world to
  -- what is still to be done in another
  abbrev pub LeadsTo : ℕ → List Item → World → List Item → World → Type 0
  LeadsTo zero is w rest v = (rest ≡ is) × (v ≡ w)
  LeadsTo (suc k) [] w rest v = ⊥
  LeadsTo (suc k) (i ∷ is) w rest v = (next : List Item) × (u : World) × (start packs t c i w ≡ goes next u) × LeadsTo k (next ++ is) u rest v

  -- the next one halts as it starts, for this reason; or no more may start
  abbrev pub Stops : (left : ℕ) → Halt → List Item → World → Type 0
  Stops left h [] v = ⊥
  Stops zero h (i ∷ is) v = h ≡ Budget
  Stops (suc left) h (i ∷ is) v = start packs t c i v ≡ halts h

  -- a world is what was left by all that started before a halt
  pub record IsKept (left : ℕ) (is : List Item) (w : World) (h : Halt) (v : World) : Type 0 where
    pub count : ℕ
    pub few : count ≤ left
    pub rest : List Item
    pub before : LeadsTo count is w rest v
    pub stops : Stops (left - count) h rest v

-- where something halts, all that was stored and sent before it is kept, and nothing of what follows it is done
abbrev pub HaltsKeep : Type 0
HaltsKeep = (packs : ℕ → Plain → Bool) (t : Table) (c : ComponentPlan) (left : ℕ) (is : List Item) (w : World) (h : Halt) → let r : Ended = exec packs t c left is w in
    r.end ≡ Halted h → IsKept packs t c left is w h r.world

-- and where the activity of a machine halts, its component goes on from there, with the halt behind what was sent
abbrev pub ActionsKeep : Type 0
ActionsKeep = (packs : ℕ → Plain → Bool) (t : Table) (c : ComponentPlan) (machine : ℕ) (action : Action) (args : List Plain) (left : ℕ) (w : World) (a : Activity) (vs : List Plain) (h : Halt) →
    slice_get c.activities action.activity ≡ Some a → arguments_of packs (argument_types a) (map (value_of t args w.variables) action.operands) ≡ Some vs → let r : Ended = exec packs t c left (items_of vs (stmts a.body)) w in
    r.end ≡ Halted h → acting packs t c machine action args left w ≡ (r.left, record r.world { sent = r.world.sent ++ halted machine h ∷ [] })
