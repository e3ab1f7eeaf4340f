use Rattle.std.proofs.Common.{◌≡◌, ◌≤◌, ◌+◌, drop}
use Rattle.eds_pack.specs.Seeking.{values_in}
use Rattle.eds_pack.proofs.seek.valued.Given as goal

abbrev pub invariant-loop-part : goal.invariant-loop-part
invariant-loop-part l = record {
  count : l.count + values_in (drop l.part-index l.parts) ≡ values_in l.parts;
  few : l.count ≤ l.part-index;
}
