use Rattle.std.proofs.Common.{◌≡◌, ◌++◌, drop}
use Rattle.std.specs.List.{flat_map}
use Rattle.eds_type_rows.specs.Entries.{parts_held}
use Rattle.eds_type_rows.proofs.entry.parts_in.Given as goal

abbrev pub invariant-loop-list : goal.invariant-loop-list
invariant-loop-list l =
    l.parts.items ++ flat_map (parts_held l.trees) (drop l.list-index l.lists)
    ≡ flat_map (parts_held l.trees) l.lists
