use Rattle.std.proofs.Common.{◌≡◌, codes, drop, map}
use Rattle.serde_json.specs.Data.{no_members, put, string}
use Rattle.eds_types.specs.Plain.{plain}
use Rattle.eds_types.specs.Rows.{Table}
use Rattle.eds_value.specs.Seen.{seen}
use Rattle.eds_value.specs.JsonOfValue.{json_of_value, with_values}
use Rattle.eds_value.specs.Members.{put_all}
use Rattle.eds_value.proofs.member.members_of_fields.Given as goal

abbrev pub invariant-loop-i : goal.invariant-loop-i
invariant-loop-i l =
    (t : Table) → with_values (map seen (drop l.i l.entries)) (map (json_of_value t) (map plain (drop l.i l.values))) (put_all t l.members.items no_members)
    ≡ with_values (map seen l.entries) (map (json_of_value t) (map plain l.values)) (put (codes "$type") (string l.container) no_members)
