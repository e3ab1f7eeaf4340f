use Rattle.std.proofs.Common.{◌≡◌, ◌++◌, map, filter, drop}
use Rattle.eds_type_rows.specs.Places.{is_element, in_file}
use Rattle.eds_type_rows.proofs.element.push_held.Given as goal

abbrev pub invariant-loop-node : goal.invariant-loop-node
invariant-loop-node l =
    l.places.items ++ filter (is_element l.trees l.name) (map (in_file l.at) (drop l.node-index l.node-items))
    ≡ l.initial.places.items ++ filter (is_element l.trees l.name) (map (in_file l.at) l.node-items)
