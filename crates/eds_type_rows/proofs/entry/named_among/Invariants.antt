use Rattle.std.proofs.Common.{◌≡◌, ◌++◌, filter, drop}
use Rattle.eds_type_rows.specs.Entries.{has_name}
use Rattle.eds_type_rows.proofs.entry.named_among.Given as goal

abbrev pub invariant-loop-at : goal.invariant-loop-at
invariant-loop-at l =
    l.named.items ++ filter (has_name l.trees) (drop l.at-index l.parts)
    ≡ filter (has_name l.trees) l.parts
