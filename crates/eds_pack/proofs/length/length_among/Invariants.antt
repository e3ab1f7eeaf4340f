use Rattle.std.proofs.Common.{◌≡◌, ◌+◌, drop}
use Rattle.eds_types.specs.Rows.{placed_from}
use Rattle.eds_pack.specs.Lengths.{length_among}
use Rattle.eds_pack.proofs.length.length_among.Given as goal

abbrev pub invariant-loop-part : goal.invariant-loop-part
invariant-loop-part l = record {
  few : l.place ≡ l.first + l.part-index;
  sought : length_among (placed_from l.id.0 l.place (drop l.part-index l.parts)) ≡ length_among (placed_from l.id.0 l.first l.parts);
}
