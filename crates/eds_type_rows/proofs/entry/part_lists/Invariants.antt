use Rattle.std.proofs.Common.{◌≡◌, ◌++◌, map, filter, drop}
use Rattle.eds_type_rows.specs.Places.{in_file}
use Rattle.eds_type_rows.specs.Entries.{is_part_list}
use Rattle.eds_type_rows.proofs.entry.part_lists.Given as goal

abbrev pub invariant-loop-node : goal.invariant-loop-node
invariant-loop-node l =
    l.lists.items ++ filter (is_part_list l.trees) (map (in_file l.at) (drop l.node-index l.node-items)) ≡ filter (is_part_list l.trees) (map (in_file l.at) l.node-items)
