use Rattle.std.proofs.Common.{◌≡◌, ◌++◌, map, filter, drop}
use Rattle.eds_type_rows.specs.Places.{in_file}
use Rattle.eds_type_rows.specs.Entries.{is_part}
use Rattle.eds_type_rows.proofs.entry.push_parts.Given as goal

abbrev pub invariant-loop-node : goal.invariant-loop-node
invariant-loop-node l =
    l.parts.items ++ filter (is_part l.trees) (map (in_file l.list) (drop l.node-index l.node-items))
    ≡ l.initial.parts.items ++ filter (is_part l.trees) (map (in_file l.list) l.node-items)
