use Rattle.std.proofs.Common.{◌≡◌, ◌≤◌, ◌+◌, ◌*◌, ◌++◌, drop, length, map, nat_lt}
use Rattle.serde_json.specs.View.{items_of}
use Rattle.serde_json.specs.Written.{items_text}
use Rattle.eds_types.specs.Plain.{plain, plains_of}
use Rattle.eds_value.specs.JsonOfValue.{json_of_value}
use Rattle.eds_value.specs.Layouts.{pieces_text}
use Rattle.eds_value.proofs.Pushed.{size, sizes}
use Rattle.eds_value.proofs.put.+put.Given as goal

abbrev pub decreases-put_value : goal.decreases-put_value
decreases-put_value l = 2 * size (plain l.value.now)

abbrev pub decreases-put_items : goal.decreases-put_items
decreases-put_items l = 2 * sizes (plains_of (map plain l.values.now)) + 1

abbrev pub decreases-put_fields : goal.decreases-put_fields
decreases-put_fields l = 2 * sizes (plains_of (map plain l.values.now)) + 1

-- what is put is the text of the values from a place on
abbrev pub invariant-put_items-loop-at : goal.invariant-put_items-loop-at
invariant-put_items-loop-at l = record {
  within : l.at ≤ length l.values;
  text : l.line ≡ items_text (nat_lt 0 l.at) (items_of (map (json_of_value l.layouts) (map plain (drop l.at l.values)))) ++ l.fn.line;
}

abbrev pub decreases-put_items-loop-at : goal.decreases-put_items-loop-at
decreases-put_items-loop-at l = l.at

abbrev pub invariant-put_fields-loop-at : goal.invariant-put_fields-loop-at
invariant-put_fields-loop-at l = record {
  within : l.at ≤ length l.pieces;
  text : l.line ≡ (pieces_text (map (json_of_value l.layouts) (map plain l.values)) (drop l.at l.pieces) ++ l.layout.end) ++ l.fn.line;
}

abbrev pub decreases-put_fields-loop-at : goal.decreases-put_fields-loop-at
decreases-put_fields-loop-at l = l.at
