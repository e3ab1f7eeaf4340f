-- What holds of the plan of a sheet beside its table.
use Rattle.std.specs.Prelude.{List}
use Rattle.eds_types.specs.Rows.{Table}
use Rattle.eds_plan.specs.declared.component.ComponentPlan.{ComponentPlan}
use Rattle.eds_plan.specs.Fitting.{PlanFits}
use Rattle.eds_fits.specs.Fitting.{Conforms}

-- The plan fits its table: what variables start with packs, what is named is there, operands fit what takes them, no activity calls
-- itself, and one interface under equal maps has the same members at each end. All that runs a plan asks for this.
abbrev pub HoldsTogether : Table → List ComponentPlan → Type 0
HoldsTogether t plan = PlanFits t (Conforms t) plan
