use Rattle.std.proofs.Common.{◌≡◌, drop}
use Rattle.eds_fits.specs.Deciding.{variables_fit}
use Rattle.eds_fits.proofs.component.variables_fit.Given as goal

abbrev pub invariant-loop-variable : goal.invariant-loop-variable
invariant-loop-variable l = variables_fit l.table (drop l.variable-index l.variables) ≡ variables_fit l.table l.variables
