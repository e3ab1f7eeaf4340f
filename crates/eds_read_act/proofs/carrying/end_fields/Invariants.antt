use Rattle.std.proofs.Common.{◌≡◌, ◌++◌, map, drop}
use Rattle.eds_read_act.specs.Carrying.{member_fields}
use Rattle.eds_read_act.proofs.carrying.end_fields.Given as goal

abbrev pub invariant-loop-member : goal.invariant-loop-member
invariant-loop-member l = l.all ++ map (member_fields l.way) (drop l.member-index l.members) ≡ map (member_fields l.way) l.members
