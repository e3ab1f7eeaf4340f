use Rattle.std.proofs.Common.{◌≡◌, drop}
use Rattle.eds_script.specs.Members.{parameter_from}
use Rattle.eds_script.proofs.members.find_parameter.Given as goal

abbrev pub invariant-loop-member : goal.invariant-loop-member
invariant-loop-member l = parameter_from l.name l.place (drop l.member-index l.members) ≡ parameter_from l.name 0 l.members
