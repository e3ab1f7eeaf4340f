-- The types of the arguments of commands, where they are used and no open binaries.
use Rattle.std.proofs.Common.{◌≡◌, ℕ, List, [], ◌∷◌, None}
use Rattle.std.specs.List.{AllByRecursion}
use Rattle.eds_base.specs.declared.ids.TypeId.{TypeId}
use Rattle.eds_types.specs.Overlap.{IsClear}
use Rattle.eds_types.specs.Rows.{Table}
use Rattle.eds_types.specs.Sizes.{open_of}
use Rattle.eds_overlap.specs.Pairs.{Named}
use Rattle.eds_plan.specs.Arguments.{ArgumentsAreUsed, IsUsedClosed, OnAllArguments, OnArguments}
use Rattle.eds_plan.specs.declared.component.ComponentPlan.{ComponentPlan}
use Rattle.eds_plan.specs.declared.component.EndPlan.{EndPlan}
use Rattle.eds_plan.specs.declared.instance.Argument.{Argument}
use Rattle.eds_plan.specs.declared.instance.Member.{Member}
use Rattle.eds_plan.specs.declared.instance.Member.TheVariants as members
use Rattle.eds_host.specs.Hosts.{ArgumentsAreClear}

module _ (P Q : ℕ → Type 0) (more : (id : ℕ) → P id → Q id) where
  of_arguments : (args : List Argument) → AllByRecursion (λ (a : Argument). P a.id.0) args → AllByRecursion (λ (a : Argument). Q a.id.0) args
  of_arguments [] h = tt
  of_arguments (a ∷ args) h = (more a.id.0 h.0, of_arguments args h.1)

  of_member : (m : Member) → OnArguments P m → OnArguments Q m
  of_member (members.Parameter name id read_only) h = tt
  of_member (members.Command name args) h = of_arguments args h

  of_members : (ms : List Member) → AllByRecursion (OnArguments P) ms → AllByRecursion (OnArguments Q) ms
  of_members [] h = tt
  of_members (m ∷ ms) h = (of_member m h.0, of_members ms h.1)

  of_ends : (es : List EndPlan) → AllByRecursion (λ (e : EndPlan). AllByRecursion (OnArguments P) e.instance.members) es → AllByRecursion (λ (e : EndPlan). AllByRecursion (OnArguments Q) e.instance.members) es
  of_ends [] h = tt
  of_ends (e ∷ es) h = (of_members e.instance.members h.0, of_ends es h.1)

  -- what holds of the types of all arguments implies what it implies of each
  pub of_all : (plan : List ComponentPlan) → OnAllArguments P plan → OnAllArguments Q plan
  of_all [] h = tt
  of_all (c ∷ plan) h = (of_ends c.ends h.0, of_all plan h.1)

-- under the types that are used and no open binaries no two containers overlap, if it is so
pub used_clear : (t : Table) (used : List TypeId) (plan : List ComponentPlan) → ((id : ℕ) → Named used id → open_of t id ≡ None → IsClear t id) → ArgumentsAreUsed t used plan → ArgumentsAreClear t plan
used_clear t used plan clear h = of_all (IsUsedClosed t used) (IsClear t) (λ id k. clear id k.0 k.2) plan h
