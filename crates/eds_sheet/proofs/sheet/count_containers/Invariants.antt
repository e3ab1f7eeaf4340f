use Rattle.std.proofs.Common.{◌≡◌, ◌≤◌, count_by, take}
use Rattle.eds_sheet.specs.Compiled.{is_container}
use Rattle.eds_sheet.proofs.sheet.count_containers.Given as goal

abbrev pub invariant-loop-i : goal.invariant-loop-i
invariant-loop-i l = record {
  counted : l.count ≡ count_by is_container (take l.i l.table);
  few : l.count ≤ l.i;
}
