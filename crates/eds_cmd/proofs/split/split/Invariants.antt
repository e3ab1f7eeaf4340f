use Rattle.std.proofs.Common.{◌-◌, length, string_bytes}
use Rattle.eds_cmd.proofs.Splitting.{IsCutTo}
use Rattle.eds_cmd.specs.Target.{type_in}
use Rattle.eds_cmd.proofs.split.split.Given as goal

abbrev pub invariant-loop-at : goal.invariant-loop-at
invariant-loop-at l = IsCutTo (type_in l.target) l.octets l.at l.packets (string_bytes l.report)

abbrev pub decreases-loop-at : goal.decreases-loop-at
decreases-loop-at l = length l.octets - l.at
