use Rattle.std.proofs.Common.{◌≡◌, ◌+◌, ◌*◌, drop, map}
use Rattle.serde_json.specs.View.{items_view, view}
use Rattle.eds_types.specs.Plain.{plain}
use Rattle.eds_value.specs.Seen.{seen}
use Rattle.eds_value.specs.ValueOfJson.{items_from, member_values, value_within}
use Rattle.eds_value.proofs.Members.{put_before}
use Rattle.eds_value.proofs.value_of_json.+value.Given as goal

abbrev pub decreases-value_within : goal.decreases-value_within
decreases-value_within l = 12 * l.depth

abbrev pub decreases-items_from : goal.decreases-items_from
decreases-items_from l = 12 * l.depth + 1

abbrev pub decreases-items_in : goal.decreases-items_in
decreases-items_in l = 12 * l.depth + 2

abbrev pub decreases-entry_value : goal.decreases-entry_value
decreases-entry_value l = 12 * l.depth + 3

abbrev pub decreases-member_value : goal.decreases-member_value
decreases-member_value l = 12 * l.depth + 4

abbrev pub decreases-member_values : goal.decreases-member_values
decreases-member_values l = 12 * l.depth + 5

abbrev pub decreases-values_inside : goal.decreases-values_inside
decreases-values_inside l = 12 * l.depth + 6

abbrev pub decreases-fields_in : goal.decreases-fields_in
decreases-fields_in l = 12 * l.depth + 7

abbrev pub decreases-value_by : goal.decreases-value_by
decreases-value_by l = 12 * l.depth + 8

abbrev pub invariant-items_from-loop-json : goal.invariant-items_from-loop-json
invariant-items_from-loop-json l =
    put_before (map plain l.values.items) (items_from l.table (value_within l.depth l.table) l.id.0 l.place (items_view (drop l.json-index l.items))) ≡ items_from l.table (value_within l.depth l.table) l.id.0 0 (items_view l.items)

abbrev pub invariant-member_values-loop-entry : goal.invariant-member_values-loop-entry
invariant-member_values-loop-entry l =
    put_before (map plain l.values.items) (member_values l.table (value_within l.depth l.table) (view l.json) (map seen (drop l.entry-index l.entries))) ≡ member_values l.table (value_within l.depth l.table) (view l.json) (map seen l.entries)
