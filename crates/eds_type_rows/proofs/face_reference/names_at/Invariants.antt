use Rattle.std.proofs.Common.{◌≡◌, ℕ, List, ◌||◌, map, drop, string_bytes}
use Rattle.eds_names.specs.Repeats.{is_among}
use Rattle.eds_type_rows.specs.Places.{own_name}
use Rattle.eds_type_rows.proofs.face_reference.names_at.Given as goal

abbrev pub invariant-loop-at : goal.invariant-loop-at
invariant-loop-at l = (q : List ℕ) → (is_among (map string_bytes l.names.keys) q || is_among (map (own_name l.trees) (drop l.at-index l.places)) q) ≡ is_among (map (own_name l.trees) l.places) q
