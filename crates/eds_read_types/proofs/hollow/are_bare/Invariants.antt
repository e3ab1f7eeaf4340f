use Rattle.std.proofs.Common.{◌≡◌}
use Rattle.std.specs.List.{list_all}
use Rattle.eds_types.specs.Rows.{chain, chain_within}
use Rattle.eds_read_types.specs.Hollow.{is_bare}
use Rattle.eds_read_types.proofs.hollow.are_bare.Given as goal

abbrev pub invariant-loop-left : goal.invariant-loop-left
invariant-loop-left l = list_all (is_bare l.rows) (chain_within l.left l.rows l.at) ≡ list_all (is_bare l.rows) (chain l.rows l.fn.id)

abbrev pub decreases-loop-left : goal.decreases-loop-left
decreases-loop-left l = l.left
