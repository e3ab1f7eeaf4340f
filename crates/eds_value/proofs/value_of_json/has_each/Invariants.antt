use Rattle.std.proofs.Common.{◌≡◌, drop, map}
use Rattle.serde_json.specs.View.{view}
use Rattle.eds_value.specs.Seen.{seen}
use Rattle.eds_value.specs.ValueOfJson.{has_each}
use Rattle.eds_value.proofs.value_of_json.has_each.Given as goal

abbrev pub invariant-loop-entry : goal.invariant-loop-entry
invariant-loop-entry l = has_each (view l.json) (map seen (drop l.entry-index l.entries)) ≡ has_each (view l.json) (map seen l.entries)
