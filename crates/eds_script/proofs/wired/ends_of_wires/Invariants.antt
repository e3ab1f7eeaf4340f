use Rattle.std.proofs.Common.{◌≡◌, ◌||◌, ℕ, List, drop, map, string_bytes}
use Rattle.eds_script.specs.More.{tied_by}
use Rattle.eds_script.specs.Seen.{is_among}
use Rattle.eds_script.proofs.wired.ends_of_wires.Given as goal

abbrev pub invariant-loop-wire : goal.invariant-loop-wire
invariant-loop-wire l = (q : List ℕ) → (is_among (map string_bytes l.ends.keys) q || tied_by (drop l.wire-index l.wires) q) ≡ tied_by l.wires q
