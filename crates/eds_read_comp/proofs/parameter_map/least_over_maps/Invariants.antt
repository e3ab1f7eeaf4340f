use Rattle.std.proofs.Common.{◌≡◌, [], map, drop, string_bytes}
use Rattle.eds_base.specs.Refusals.{first_of, least}
use Rattle.eds_read_comp.specs.ParameterMaps.{map_breaks_from}
use Rattle.eds_read_comp.proofs.parameter_map.least_over_maps.Given as goal

abbrev pub invariant-loop-node : goal.invariant-loop-node
invariant-loop-node l =
    first_of l.found (least (map_breaks_from l.held.ends.now l.held.variables.now l.tree l.file (map string_bytes l.before.keys) (drop l.node-index l.nodes)))
    ≡ least (map_breaks_from l.held.ends.now l.held.variables.now l.tree l.file [] l.nodes)
