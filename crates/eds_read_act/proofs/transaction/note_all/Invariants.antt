use Rattle.std.proofs.Common.{◌≡◌, map, length}
use Rattle.std.specs.List.{flat_map}
use Rattle.std.specs.Prelude.{string_bytes}
use Rattle.eds_read_act.specs.Transactions.{transaction_named, with_names}
use Rattle.eds_read_act.proofs.transaction.note_all.Given as goal

abbrev pub invariant-loop-rest : goal.invariant-loop-rest
invariant-loop-rest l =
    with_names (map string_bytes l.names.keys) (flat_map (transaction_named l.tree) l.rest)
    ≡ with_names (map string_bytes l.initial.names.keys) (flat_map (transaction_named l.tree) l.links)

abbrev pub decreases-loop-rest : goal.decreases-loop-rest
decreases-loop-rest l = length l.rest
