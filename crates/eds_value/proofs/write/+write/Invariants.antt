use Rattle.std.proofs.Common.{◌≡◌, ◌≤◌, ◌+◌, ◌*◌, ◌++◌, drop, length, map}
use Rattle.serde_json.specs.Data.{array, object}
use Rattle.serde_json.specs.View.{items_of}
use Rattle.eds_types.specs.Plain.{plain}
use Rattle.eds_value.specs.Entries.{entries_along}
use Rattle.eds_value.specs.JsonOfValue.{fields_data, json_of_value, type_name}
use Rattle.eds_value.specs.Members.{content_json, in_order}
use Rattle.eds_value.specs.Written.{AreSound, HoldSound, tokens_of}
use Rattle.eds_value.proofs.Tokens.{items_left, members_left}
use Rattle.eds_value.proofs.write.+write.Given as goal

abbrev pub decreases-write_value : goal.decreases-write_value
decreases-write_value l = 4 * length (tokens_of (json_of_value l.table.now (plain l.value.now))) + 2

abbrev pub decreases-write_fields : goal.decreases-write_fields
decreases-write_fields l = 4 * length (tokens_of (fields_data (type_name l.table.now l.container.0) (entries_along l.table.now l.container.0) (map (json_of_value l.table.now) (map plain l.values.now)))) + 1

abbrev pub decreases-write_object : goal.decreases-write_object
decreases-write_object l = 4 * length (tokens_of (object (in_order l.table.now l.members.now)))

abbrev pub decreases-write_items : goal.decreases-write_items
decreases-write_items l = 4 * length (tokens_of (array (items_of (map (json_of_value l.table.now) (map plain l.values.now)))))

abbrev pub decreases-write_content : goal.decreases-write_content
decreases-write_content l = 4 * length (tokens_of (content_json l.table.now l.content)) + 3

-- what is written, with what is still to come, is the whole
abbrev pub invariant-write_items-loop-value : goal.invariant-write_items-loop-value
invariant-write_items-loop-value l =
    (l.out.tokens ++ items_left l.table l.value-index l.values ≡ l.fn.out.tokens ++ tokens_of (array (items_of (map (json_of_value l.table) (map plain l.values)))))
    × (l.out.before ≡ l.fn.out.before)
    × AreSound (items_of (map (json_of_value l.table) (map plain (drop l.value-index l.values))))
    × (length (items_left l.table l.value-index l.values) + 1 ≤ length (tokens_of (array (items_of (map (json_of_value l.table) (map plain l.values))))))

abbrev pub invariant-write_object-loop-member : goal.invariant-write_object-loop-member
invariant-write_object-loop-member l =
    (l.out.tokens ++ members_left l.table l.member-index l.members ≡ l.fn.out.tokens ++ tokens_of (object (in_order l.table l.members)))
    × (l.out.before ≡ l.fn.out.before)
    × HoldSound (in_order l.table (drop l.member-index l.members))
    × (length (members_left l.table l.member-index l.members) + 1 ≤ length (tokens_of (object (in_order l.table l.members))))
