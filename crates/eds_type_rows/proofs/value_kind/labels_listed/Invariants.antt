use Rattle.std.proofs.Common.{◌≡◌, ℕ, List, ◌||◌, map, drop, is_some, string_bytes}
use Rattle.eds_names.specs.Repeats.{is_among}
use Rattle.eds_types.specs.Fields.{listed}
use Rattle.eds_type_rows.proofs.value_kind.labels_listed.Given as goal

abbrev pub invariant-loop-entry : goal.invariant-loop-entry
invariant-loop-entry l = (q : List ℕ) → (is_among (map string_bytes l.labels.keys) q || is_some (listed (drop l.entry-index l.entries) q)) ≡ is_some (listed l.entries q)
