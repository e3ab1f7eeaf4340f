use Rattle.std.proofs.Common.{◌≡◌, ◌≤◌, ◌+◌, ◌*◌, drop}
use Rattle.eds_types.specs.Packing.{valued}
use Rattle.eds_types.specs.Seeking.{entries_in_turn, trailers_in_turn}
use Rattle.eds_pack.proofs.seek.valued_along.Given as goal

abbrev pub invariant-loop-id : goal.invariant-loop-id
invariant-loop-id l = record {
  few : l.count ≤ 65534 * l.id-index;
  counted : l.count + (valued (entries_in_turn l.table (drop l.id-index l.chain)) + valued (trailers_in_turn l.table (drop l.id-index l.chain))) ≡ valued (entries_in_turn l.table l.chain) + valued (trailers_in_turn l.table l.chain);
}
