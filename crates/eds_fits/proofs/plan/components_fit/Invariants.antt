use Rattle.std.proofs.Common.{◌≡◌, drop}
use Rattle.std.specs.List.{AllByRecursion}
use Rattle.eds_plan.specs.Fitting.{ComponentFits}
use Rattle.eds_fits.specs.Fitting.{Conforms}
use Rattle.eds_fits.specs.Deciding.{all_fit}
use Rattle.eds_fits.proofs.plan.components_fit.Given as goal

-- those to come fit exactly where all do; and where they fit, all do
abbrev pub invariant-loop-component : goal.invariant-loop-component
invariant-loop-component l =
    (all_fit l.table (drop l.component-index l.components) ≡ all_fit l.table l.components) × (AllByRecursion (ComponentFits l.table (Conforms l.table)) (drop l.component-index l.components) → AllByRecursion (ComponentFits l.table (Conforms l.table)) l.components)
