-- Primitives and states that fit a plan: each value is one of the type that is declared for it.
use Rattle.std.specs.Prelude.{◌≡◌, ℕ, ◌<◌, List, [], ◌∷◌, length, Option, Some, None}
use Rattle.eds_base.specs.declared.ids.TypeId.{TypeId}
use Rattle.eds_types.specs.PackedSizes.{Packs}
use Rattle.eds_types.specs.Plain.{Plain}
use Rattle.eds_types.specs.Rows.{Table}
use Rattle.eds_plan.specs.Carried.{carried_fields}
use Rattle.eds_plan.specs.Outs.{Report, Signal, left, stopped, refused}
use Rattle.eds_plan.specs.declared.activity.Op.{Op}
use Rattle.eds_plan.specs.declared.activity.Op.TheVariants as op
use Rattle.eds_plan.specs.declared.component.ComponentPlan.{ComponentPlan}
use Rattle.eds_plan.specs.declared.component.VarPlan.{VarPlan}
use Rattle.eds_plan.specs.declared.instance.Member.{Member}
use Rattle.eds_plan.specs.declared.instance.Member.TheVariants as member
use Rattle.eds_script.specs.Names.{member_at}
use Rattle.eds_script.specs.Pairs.{AllPaired}

-- the type is one of the table's, and the value packs as one of it
pub record IsValueOf (t : Table) (id : ℕ) (v : Plain) : Type 0 where
  pub known : id < length t
  pub size : ℕ
  pub packs : Packs t id v size

-- one value for each field, of its type
abbrev pub AreValuesOf : Table → List (List ℕ × TypeId) → List Plain → Type 0
AreValuesOf t fields vs = AllPaired (λ (f : List ℕ × TypeId) (v : Plain). IsValueOf t f.1.0 v) fields vs

-- the one value is of the type
abbrev pub IsOneOf : Table → TypeId → List Plain → Type 0
IsOneOf t id [] = ⊥
IsOneOf t id (v ∷ []) = IsValueOf t id.0 v
IsOneOf t id (v ∷ w ∷ vs) = ⊥

-- a parameter is asked for without a value, and set and told with one
abbrev pub FitsParameter : Table → TypeId → Op → List Plain → Type 0
FitsParameter t id op.Command vs = ⊥
FitsParameter t id op.Get vs = vs ≡ []
FitsParameter t id op.Set vs = IsOneOf t id vs
FitsParameter t id op.Val vs = IsOneOf t id vs

-- the primitive is one of the member: the values are those that it carries in that way
abbrev pub FitsMember : Table → Signal → Option Member → Type 0
FitsMember t s None = ⊥
FitsMember t s (Some (member.Parameter name id read_only)) = FitsParameter t id s.op s.arguments
FitsMember t s (Some (member.Command name arguments)) = (s.op ≡ op.Command) × AreValuesOf t (carried_fields s.way arguments) s.arguments

-- what leaves a run fits the plan
abbrev pub FitsPlan : Table → List ComponentPlan → Report → Type 0
FitsPlan t plan (left time s) = FitsMember t s (member_at plan s.end s.member)
FitsPlan t plan (stopped time component machine halt) = Unit {0}
FitsPlan t plan (refused time e member fault) = Unit {0}

-- one value for each variable, of its type
abbrev pub HaveValues : Table → List VarPlan → List Plain → Type 0
HaveValues t variables vs = AllPaired (λ (x : VarPlan) (v : Plain). IsValueOf t x.id.0 v) variables vs
