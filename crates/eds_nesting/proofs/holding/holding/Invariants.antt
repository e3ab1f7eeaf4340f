use Rattle.std.proofs.Common.{◌≡◌, map}
use Rattle.std.specs.List.{range_with_len}
use Rattle.eds_nesting.specs.Families.{held_in}
use Rattle.eds_nesting.proofs.holding.holding.Given as goal

abbrev pub invariant-loop-name : goal.invariant-loop-name
invariant-loop-name l = l.graph ≡ map (held_in l.rows l.families) (range_with_len 0 l.name)
