use Rattle.std.proofs.Common.{◌≡◌, drop}
use Rattle.serde_json.specs.Data.{no_members}
use Rattle.eds_types.specs.Rows.{Table}
use Rattle.eds_value.specs.Members.{entries_in_order, put_all}
use Rattle.eds_value.proofs.member.last_of_each.Given as goal

abbrev pub invariant-loop-member : goal.invariant-loop-member
invariant-loop-member l = (t : Table) → put_all t (drop l.member-index l.members) (entries_in_order t l.found.entries) ≡ put_all t l.members no_members
