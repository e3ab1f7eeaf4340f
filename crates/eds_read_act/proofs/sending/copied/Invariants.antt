use Rattle.std.proofs.Common.{◌≡◌, ◌++◌, drop}
use Rattle.eds_read_act.proofs.sending.copied.Given as goal

abbrev pub invariant-loop-name : goal.invariant-loop-name
invariant-loop-name l = l.copies ++ drop l.name-index l.fields ≡ l.fields
