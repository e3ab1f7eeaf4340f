use Rattle.std.proofs.Common.{◌≡◌, drop}
use Rattle.eds_value.specs.ValueOfJson.{named_from}
use Rattle.eds_value.proofs.value_of_json.named.Given as goal

abbrev pub invariant-loop-i : goal.invariant-loop-i
invariant-loop-i l = named_from l.word (drop l.i l.table) l.i ≡ named_from l.word l.table 0
