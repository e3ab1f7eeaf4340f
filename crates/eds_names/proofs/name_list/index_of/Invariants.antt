use Rattle.std.proofs.Common.{◌≡◌, ℕ, List, drop}
use Rattle.std.specs.HashMap.{get_by_text}
use Rattle.eds_names.specs.Positions.{place_from, place_among, or_else}
use Rattle.eds_names.proofs.name_list.index_of.Given as goal

abbrev pub invariant-loop-at : goal.invariant-loop-at
invariant-loop-at l = (q : List ℕ) → or_else (get_by_text l.index q) (place_from l.at (drop l.at l.names) q) ≡ place_among l.names q
