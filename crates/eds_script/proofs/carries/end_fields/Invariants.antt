use Rattle.std.proofs.Common.{◌≡◌, ◌++◌, drop, map}
use Rattle.eds_script.specs.Carries.{member_fields}
use Rattle.eds_script.proofs.carries.end_fields.Given as goal

abbrev pub invariant-loop-member : goal.invariant-loop-member
invariant-loop-member l = l.all ++ map (member_fields l.end.required) (drop l.member-index l.member-items) ≡ map (member_fields l.end.required) l.end.instance.members
