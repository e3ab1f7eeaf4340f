use Rattle.std.proofs.Common.{◌≡◌, drop, map}
use Rattle.serde_json.specs.Data.{no_members}
use Rattle.eds_types.specs.Rows.{Table}
use Rattle.eds_value.specs.Seen.{seen}
use Rattle.eds_value.specs.JsonOfValue.{json_of_value, with_values}
use Rattle.eds_value.specs.Members.{put_all}
use Rattle.eds_value.proofs.member.members_of_arguments.Given as goal

abbrev pub invariant-loop-i : goal.invariant-loop-i
invariant-loop-i l =
    (t : Table) → with_values (map seen (drop l.i l.entries)) (map (json_of_value t) (drop l.i l.values)) (put_all t l.members.items no_members)
    ≡ with_values (map seen l.entries) (map (json_of_value t) l.values) no_members
