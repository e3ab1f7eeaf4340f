-- What may leave a component.
use Rattle.std.specs.Prelude.{◌≡◌, ◌<◌, ℕ, List, length, Bool, Some, slice_get}
use Rattle.std.specs.List.{AllByRecursion}
use Rattle.eds_types.specs.Plain.{Plain}
use Rattle.eds_types.specs.Rows.{Table}
use Rattle.eds_plan.specs.Carried.{OpFits, carried, leaving}
use Rattle.eds_plan.specs.Fitting.{ComponentFits}
use Rattle.eds_plan.specs.Sends.{Sent, primitive, halted}
use Rattle.eds_plan.specs.declared.activity.Op.{Op}
use Rattle.eds_plan.specs.declared.component.ComponentPlan.{ComponentPlan}
use Rattle.eds_plan.specs.declared.component.EndPlan.{EndPlan}
use Rattle.eds_plan.specs.declared.instance.Member.{Member}
use Rattle.eds_plan.specs.declared.run.Way.{Way}
use Rattle.eds_act.specs.Does.{World, Tells, Conforms, AllConform, exec, items_of}
use Rattle.eds_plan.specs.Statements.{stmts}
use Rattle.eds_plan.specs.declared.activity.Activity.{Activity}

-- at an end of the component something goes over the end this way: it is done at a member, with a value that packs for each
-- that the member carries so
pub record StandsAt (t : Table) (goes : Bool → Way) (c : ComponentPlan) (face number : ℕ) (way : Way) (o : Op) (vs : List Plain) : Type 0 where
  pub end : EndPlan
  pub end_is : slice_get c.ends face ≡ Some end
  pub member : Member
  pub member_is : slice_get end.instance.members number ≡ Some member
  pub turned : way ≡ goes end.required
  pub op : OpFits o way member
  pub values : AllConform t (carried o way (Some member)) vs

-- what is sent may leave the component of the number at its end; a halt is of one of its machines
abbrev pub MayLeave : Table → ComponentPlan → (comp : ℕ) → Sent → Type 0
MayLeave t c comp (primitive k face number way o vs) = (k ≡ comp) × StandsAt t leaving c face number way o vs
MayLeave t c comp (halted machine h) = machine < length c.machines

-- all that was sent by the component of the number may leave it
pub record MayAllLeave (t : Table) (c : ComponentPlan) (comp : ℕ) (w : World) : Type 0 where
  pub own : w.component ≡ comp
  pub sent : AllByRecursion (MayLeave t c comp) w.sent

-- what an activity of a component that fits sends may leave it, behind what may
abbrev pub ActivitiesSendWell : Type 0
ActivitiesSendWell = (packs : ℕ → Plain → Bool) (t : Table) (c : ComponentPlan) (comp i : ℕ) (a : Activity) (args : List Plain) (left : ℕ) (w : World) →
    Tells t packs → ComponentFits t (Conforms t) c → slice_get c.activities i ≡ Some a → MayAllLeave t c comp w → MayAllLeave t c comp (exec packs t c left (items_of args (stmts a.body)) w).world
