use Rattle.std.proofs.Common.{◌≡◌, drop}
use Rattle.eds_read_comp.specs.ParameterMaps.{parameter_from}
use Rattle.eds_read_comp.proofs.parameter_map.parameter_among.Given as goal

abbrev pub invariant-loop-at : goal.invariant-loop-at
invariant-loop-at l = parameter_from l.at (drop l.at l.members) l.name ≡ parameter_from 0 l.members l.name
