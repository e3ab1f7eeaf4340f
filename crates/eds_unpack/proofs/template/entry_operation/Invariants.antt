use Rattle.std.proofs.Common.{◌≤◌}
use Rattle.eds_unpack.proofs.template.entry_operation.Given as goal

abbrev pub invariant-loop-id : goal.invariant-loop-id
invariant-loop-id l = l.bits ≤ 1024

abbrev pub invariant-loop-part : goal.invariant-loop-part
invariant-loop-part l = record {
  near : l.bits ≤ 1024;
  place : l.place ≤ l.part-index;
}
