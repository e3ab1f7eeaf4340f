use Rattle.std.proofs.Common.{◌≡◌, ◌+◌, ◌≤◌, drop, length}
use Rattle.eds_script.specs.Given.{all_pack}
use Rattle.eds_script.specs.Known.{AreFieldsKnown}
use Rattle.eds_script.proofs.given.all_pack.Given as goal

abbrev pub invariant-loop-rest : goal.invariant-loop-rest
invariant-loop-rest l = record {
  same : all_pack l.table l.rest (drop l.place l.values) ≡ all_pack l.table l.fields l.values;
  known : AreFieldsKnown l.table l.rest;
  within : l.place + length l.rest ≤ length l.fields;
  behind : l.place ≤ length l.values;
}

abbrev pub decreases-loop-rest : goal.decreases-loop-rest
decreases-loop-rest l = length l.rest
