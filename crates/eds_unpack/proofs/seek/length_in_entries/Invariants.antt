use Rattle.std.proofs.Common.{◌≡◌, drop}
use Rattle.eds_types.specs.Seeking.{entries_in_turn}
use Rattle.eds_unpack.specs.Seeking.{length_among}
use Rattle.eds_unpack.proofs.seek.length_in_entries.Given as goal

abbrev pub invariant-loop-id : goal.invariant-loop-id
invariant-loop-id l = length_among (entries_in_turn l.table (drop l.id-index l.chain)) ≡ length_among (entries_in_turn l.table l.chain)
