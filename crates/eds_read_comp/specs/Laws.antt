-- What holds of the plans of sheets.
use Rattle.std.specs.Prelude.{◌≡◌, List}
use Rattle.eds_plan.specs.Alike.{AreAlike}
use Rattle.eds_plan.specs.declared.component.ComponentPlan.{ComponentPlan}
use Rattle.eds_read_comp.specs.Plans.{seen_plan}

-- plans of which a sheet says the same are alike for all that runs them: so what a sheet has its components do is one thing
abbrev pub SeenPlansAreAlike : Type 0
SeenPlansAreAlike = (p q : List ComponentPlan) → seen_plan p ≡ seen_plan q → AreAlike p q
