use Rattle.std.proofs.Common.{[], ◌∷◌, take}
use Rattle.std.specs.List.{flat_map}
use Rattle.eds_types.specs.Rows.{constraints_of, numbers_of}
use Rattle.eds_pack.specs.Building.{Asked}
use Rattle.eds_pack.proofs.asked.asked_along.Given as goal

abbrev pub invariant-loop-id : goal.invariant-loop-id
invariant-loop-id l = Asked (flat_map (constraints_of l.table) (numbers_of (take l.id-index l.chain))) (l.place ∷ []) l.asked
