use Rattle.std.proofs.Common.{◌≡◌, ◌++◌, drop, map}
use Rattle.eds_script.specs.Carries.{component_fields}
use Rattle.eds_script.proofs.carries.plan_fields.Given as goal

abbrev pub invariant-loop-component : goal.invariant-loop-component
invariant-loop-component l = l.all ++ map component_fields (drop l.component-index l.component-items) ≡ map component_fields l.plan
