use Rattle.std.proofs.Common.{◌≡◌, ◌++◌, drop, map}
use Rattle.eds_script.specs.Carries.{end_fields}
use Rattle.eds_script.proofs.carries.component_fields.Given as goal

abbrev pub invariant-loop-end : goal.invariant-loop-end
invariant-loop-end l = l.all ++ map end_fields (drop l.end-index l.end-items) ≡ map end_fields l.component.ends
