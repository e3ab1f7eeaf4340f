use Rattle.std.proofs.Common.{◌≡◌, take, map}
use Rattle.eds_overlap.specs.Pairs.{constraints_among}
use Rattle.eds_overlap.proofs.sets.constraints_by_path.Given as goal

abbrev pub invariant-loop-id : goal.invariant-loop-id
invariant-loop-id l = map (λ c. c.now) l.all.items ≡ constraints_among l.table (take l.id-index l.ids)
