-- The names of a plan: words, of which no two are one where they are looked for.
use Rattle.std.specs.Prelude.{◌≡◌, ◌≢◌, ◌==◌, ℕ, List, [], map, false}
use Rattle.std.specs.List.{AllByRecursion, list_any}
use Rattle.std.specs.Str.{IsUtf8}
use Rattle.eds_types.specs.Rules.{AreDistinct}
use Rattle.eds_plan.specs.Ends.{Called, all_ends}
use Rattle.eds_plan.specs.declared.component.ComponentPlan.{ComponentPlan}
use Rattle.eds_plan.specs.declared.component.EndPlan.{EndPlan}
use Rattle.eds_plan.specs.declared.component.VarPlan.{VarPlan}
use Rattle.eds_plan.specs.declared.instance.Member.{Member}
use Rattle.eds_plan.specs.declared.instance.Member.TheVariants as member
use Rattle.eds_plan.specs.declared.machine.Machine.{Machine}
use Rattle.eds_plan.specs.declared.machine.State.{State}

-- a word of a line: a text that isn't empty, in which no space and no line feed stands
pub record IsWord (w : List ℕ) : Type 0 where
  pub utf8 : IsUtf8 w
  pub some : w ≢ []
  pub space : list_any (λ c. c == 32) w ≡ false
  pub feed : list_any (λ c. c == 10) w ≡ false

-- words, of which no two are one
pub record AreNames (names : List (List ℕ)) : Type 0 where
  pub words : AllByRecursion IsWord names
  pub differ : AreDistinct names

-- the name of a parameter or a command
abbrev pub name_of_member : Member → List ℕ
name_of_member (member.Parameter name id read_only) = name
name_of_member (member.Command name arguments) = name

-- what a component has is found by names: its variables, its transactions, its machines, the states of each machine, and the
-- members of each end
pub record ComponentHasNames (c : ComponentPlan) : Type 0 where
  pub variables : AreNames (map (λ (x : VarPlan). x.name) c.variables)
  pub transactions : AreNames c.transactions
  pub machines : AreNames (map (λ (m : Machine). m.name) c.machines)
  pub states : AllByRecursion (λ (m : Machine). AreNames (map (λ (s : State). s.name) m.states)) c.machines
  pub members : AllByRecursion (λ (e : EndPlan). AreNames (map name_of_member e.instance.members)) c.ends

-- components are found by their names, ends by their texts, and what each component has by its names
pub record HasNames (plan : List ComponentPlan) : Type 0 where
  pub components : AreNames (map (λ (c : ComponentPlan). c.name) plan)
  pub ends : AreNames (map (λ (e : Called). e.0) (all_ends 0 plan))
  pub each : AllByRecursion ComponentHasNames plan
