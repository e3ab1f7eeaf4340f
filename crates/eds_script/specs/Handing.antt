-- What a script has happen may be handed to components that run over its wires: it fits the plan, keeps away from the ends of
-- wires, and stays within the time.
use Rattle.std.specs.Prelude.{◌≡◌, ◌≢◌, ◌≤◌, ◌<◌, ◌+◌, ◌^◌, ℕ, List, [], ◌∷◌, length, Some, Ok, slice_get}
use Rattle.std.specs.List.{AllByRecursion}
use Rattle.eds_types.specs.Plain.{Plain}
use Rattle.eds_types.specs.Rows.{Table}
use Rattle.eds_types.specs.Rules.{KeepsRules}
use Rattle.eds_plan.specs.Carried.{OpFits, arriving, carried, carried_fields}
use Rattle.eds_plan.specs.Ends.{end_at, end_named}
use Rattle.eds_plan.specs.Lines.{Told, arrives, framed, passes, starts}
use Rattle.eds_plan.specs.declared.activity.Op.{Op}
use Rattle.eds_plan.specs.declared.component.ComponentPlan.{ComponentPlan}
use Rattle.eds_plan.specs.declared.component.EndPlan.{EndPlan}
use Rattle.eds_plan.specs.declared.instance.Argument.{Argument}
use Rattle.eds_plan.specs.declared.instance.Member.{Member}
use Rattle.eds_plan.specs.declared.instance.Member.TheVariants as member
use Rattle.eds_plan.specs.declared.run.End.{End}
use Rattle.eds_plan.specs.declared.run.Way.{Way}
use Rattle.eds_plan.specs.declared.run.Wire.{Wire}
use Rattle.eds_script.specs.Fitting.{IsValueOf}
use Rattle.eds_script.specs.Known.{KnowsTypes}
use Rattle.eds_script.specs.Pairs.{AllPaired}
use Rattle.eds_script.specs.Scripts.{Plot, script_of}

-- ---- what arrives

-- something arrives at an end that is there, in its way: it is done at a member, with a value of its type for each that is
-- carried so
pub record MayArrive (t : Table) (plan : List ComponentPlan) (e : End) (number : ℕ) (way : Way) (o : Op) (vs : List Plain) : Type 0 where
  pub end : EndPlan
  pub end_is : end_at plan e ≡ Some end
  pub member : Member
  pub member_is : slice_get end.instance.members number ≡ Some member
  pub way_is : way ≡ arriving end.required
  pub op : OpFits o way member
  pub values : AllPaired (λ (id : ℕ) (v : Plain). IsValueOf t id v) (carried o way (Some member)) vs

-- a frame of at most 65,536 octets arrives at an end that is there, for a command of which exactly one argument goes that way
pub record MayBring (plan : List ComponentPlan) (e : End) (number : ℕ) (octets : List ℕ) : Type 0 where
  pub end : EndPlan
  pub end_is : end_at plan e ≡ Some end
  pub name : List ℕ
  pub arguments : List Argument
  pub command : slice_get end.instance.members number ≡ Some (member.Command name arguments)
  pub one : length (carried_fields (arriving end.required) arguments) ≡ 1
  pub few : length octets ≤ 65536

-- ---- where

-- an end of a component
abbrev pub end_of : (component face : ℕ) → End
end_of component face = record { comp = record { 0 = component }; face = face }

-- the end has a text that stands in no wire
pub record IsFree (plan : List ComponentPlan) (wires : List Wire) (e : End) : Type 0 where
  pub text : List ℕ
  pub named : end_named plan text ≡ Some e
  pub unnamed : AllByRecursion (λ (w : Wire). (w.lower ≢ text) × (w.upper ≢ text)) wires

-- ---- what happens

-- what a line has happen, after so much time, that isn't the start
abbrev pub MayHappen : Table → List ComponentPlan → List Wire → (time : ℕ) → Told → Type 0
MayHappen t plan wires time starts = ⊥
MayHappen t plan wires time (passes n) = time + n < 2 ^ 63
MayHappen t plan wires time (arrives comp face number way o vs) = IsFree plan wires (end_of comp face) × MayArrive t plan (end_of comp face) number way o vs
MayHappen t plan wires time (framed comp face number octets) = IsFree plan wires (end_of comp face) × MayBring plan (end_of comp face) number octets

-- how much time goes on by it
abbrev pub passed : Told → ℕ
passed starts = 0
passed (passes n) = n
passed (arrives comp face number way o vs) = 0
passed (framed comp face number octets) = 0

-- the same of lines one after another
abbrev pub MayAllHappen : Table → List ComponentPlan → List Wire → (time : ℕ) → List (ℕ × Told) → Type 0
MayAllHappen t plan wires time [] = Unit {0}
MayAllHappen t plan wires time (l ∷ ls) = MayHappen t plan wires time l.1 × MayAllHappen t plan wires (time + passed l.1) ls

-- after the start, which stands first, what a script has happen may happen over its wires
pub record MayRun (t : Table) (plan : List ComponentPlan) (p : Plot) : Type 0 where
  pub rest : List (ℕ × Told)
  pub lines : p.lines ≡ (0, starts) ∷ rest
  pub happen : MayAllHappen t plan p.wires 0 rest

-- every script that a text stands for may run
abbrev pub ScriptsMayRun : Type 0
ScriptsMayRun = (t : Table) (plan : List ComponentPlan) (octets : List ℕ) (p : Plot) → KeepsRules t → KnowsTypes t plan → script_of t plan octets ≡ Ok p → MayRun t plan p
