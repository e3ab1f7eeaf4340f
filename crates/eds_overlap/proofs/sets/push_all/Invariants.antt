use Rattle.std.proofs.Common.{◌≡◌, ◌++◌, take, map}
use Rattle.eds_overlap.proofs.sets.push_all.Given as goal

abbrev pub invariant-loop-one : goal.invariant-loop-one
invariant-loop-one l = map (λ c. c.now) l.all.items ≡ map (λ c. c.now) l.initial.all.items ++ take l.one-index l.some
