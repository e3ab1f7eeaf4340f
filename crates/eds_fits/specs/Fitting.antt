-- Plans whose components fit their table.
use Rattle.std.specs.Prelude.{ℕ, ◌≤◌, List, length}
use Rattle.std.specs.List.{AllByRecursion}
use Rattle.eds_pack.specs.Packs.{Packs}
use Rattle.eds_types.specs.Plain.{Plain}
use Rattle.eds_types.specs.Rows.{Table}
use Rattle.eds_plan.specs.declared.component.ComponentPlan.{ComponentPlan}
use Rattle.eds_plan.specs.Fitting.{ComponentFits}

-- the value packs as the type
abbrev pub Conforms : Table → ℕ → Plain → Type 0
Conforms t id v = (n : ℕ) × Packs t id v n

-- there are at most 64 components, and each fits the table
pub record ComponentsFit (t : Table) (plan : List ComponentPlan) : Type 0 where
  pub few : length plan ≤ 64
  pub components : AllByRecursion (ComponentFits t (Conforms t)) plan
