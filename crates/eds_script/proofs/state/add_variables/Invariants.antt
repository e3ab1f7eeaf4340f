use Rattle.std.proofs.Common.{◌≡◌, ◌+◌, ◌≤◌, ◌++◌, drop, length, map}
use Rattle.eds_types.specs.Plain.{plain}
use Rattle.eds_script.specs.Fitting.{HaveValues}
use Rattle.eds_script.specs.Pairs.{texts_of}
use Rattle.eds_script.specs.States.{variable_line}
use Rattle.eds_script.proofs.state.add_variables.Given as goal

abbrev pub invariant-loop-rest : goal.invariant-loop-rest
invariant-loop-rest l = record {
  told : l.text.items ++ texts_of (variable_line l.table l.component.name) l.rest (drop l.place (map plain l.values)) ≡ l.initial.text.items ++ texts_of (variable_line l.table l.component.name) l.component.variables (map plain l.values);
  held : HaveValues l.table l.rest (drop l.place (map plain l.values));
  within : l.place + length l.rest ≤ length l.component.variables;
}

abbrev pub decreases-loop-rest : goal.decreases-loop-rest
decreases-loop-rest l = length l.rest
