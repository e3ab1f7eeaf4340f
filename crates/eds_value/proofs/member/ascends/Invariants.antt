use Rattle.std.proofs.Common.{◌≡◌, length}
use Rattle.eds_value.specs.Members.{ascends as ascends_in}
use Rattle.eds_value.proofs.member.ascends.Given as goal

abbrev pub invariant-loop-rest : goal.invariant-loop-rest
invariant-loop-rest g l = ascends_in l.rest ≡ ascends_in l.members

abbrev pub decreases-loop-rest : goal.decreases-loop-rest
decreases-loop-rest g l = length l.rest
