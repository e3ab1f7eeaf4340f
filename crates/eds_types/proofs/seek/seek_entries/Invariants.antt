use Rattle.std.proofs.Common.{◌≡◌, ◌≤◌, ◌+◌, ◌*◌, drop}
use Rattle.eds_types.specs.Seeking.{seek}
use Rattle.eds_types.specs.Seeking.{entries_in_turn}
use Rattle.eds_types.proofs.seek.seek_entries.Given as goal

abbrev pub invariant-loop-id : goal.invariant-loop-id
invariant-loop-id l = record {
  few : l.n ≤ l.before + 32767 * l.id-index;
  sought : seek (entries_in_turn l.table (drop l.id-index l.chain)) l.n ((l.wanted).0).0 (l.wanted).1 ≡ seek (entries_in_turn l.table l.chain) l.before ((l.wanted).0).0 (l.wanted).1;
}
