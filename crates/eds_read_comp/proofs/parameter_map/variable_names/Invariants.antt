use Rattle.std.proofs.Common.{◌≡◌, ◌++◌, map, drop}
use Rattle.eds_read_act.specs.declared.variable.VariableHead.{VariableHead}
use Rattle.eds_read_comp.proofs.parameter_map.variable_names.Given as goal

abbrev pub invariant-loop-variable : goal.invariant-loop-variable
invariant-loop-variable l = l.names.items ++ map (λ (v : VariableHead). v.name) (drop l.variable-index l.variables) ≡ map (λ (v : VariableHead). v.name) l.variables
