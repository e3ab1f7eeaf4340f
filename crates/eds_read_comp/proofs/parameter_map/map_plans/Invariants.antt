use Rattle.std.proofs.Common.{◌≡◌, ◌++◌, map, drop}
use Rattle.eds_read_comp.specs.ParameterMaps.{map_plan, mapping_at}
use Rattle.eds_read_comp.proofs.parameter_map.map_plans.Given as goal

abbrev pub invariant-loop-node : goal.invariant-loop-node
invariant-loop-node l =
    l.maps.items ++ map (λ k. map_plan (mapping_at l.held.ends.now l.held.variables.now l.tree k)) (drop l.node-index l.node-items)
    ≡ map (λ k. map_plan (mapping_at l.held.ends.now l.held.variables.now l.tree k)) l.node-items
