use Rattle.std.proofs.Common.{◌≡◌, ◌++◌, drop}
use Rattle.std.specs.List.{flat_map}
use Rattle.eds_read_comp.specs.Uses.{uses_at}
use Rattle.eds_read_comp.proofs.faces.all_uses.Given as goal

abbrev pub invariant-loop-at : goal.invariant-loop-at
invariant-loop-at l = l.uses.items ++ flat_map (uses_at l.trees l.space) (drop l.at-index l.at-items) ≡ flat_map (uses_at l.trees l.space) l.at-items
