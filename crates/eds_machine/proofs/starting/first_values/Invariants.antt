use Rattle.std.proofs.Common.{◌≡◌, ◌++◌, drop, map}
use Rattle.eds_types.specs.Plain.{plain}
use Rattle.eds_plan.specs.declared.component.VarPlan.{VarPlan}
use Rattle.eds_machine.proofs.starting.first_values.Given as goal

abbrev pub invariant-loop-variable : goal.invariant-loop-variable
invariant-loop-variable l = map plain l.values ++ map (λ (x : VarPlan). plain x.initial) (drop l.variable-index l.variables) ≡ map (λ (x : VarPlan). plain x.initial) l.variables
